use Rattle.shm_life.proofs.Lending.{fetched, fetched-bytes, fetched-here, names-frame}
use Rattle.shm_life.proofs.kernel.Kernel.fetch.Goals as goal

pub act-requires-clause-frames : goal.act-requires-clause-frames
act-requires-clause-frames g c = names-frame _ c.args.page _ c.span_of-span.ensures.value

pub returns-clause-came : goal.returns-clause-came
returns-clause-came g c = fetched c.args.page _ _ _ _ _ _ _ c.span_of-span.ensures.value c.act.ensures

pub returns-clause-bytes : goal.returns-clause-bytes
returns-clause-bytes g c = fetched-bytes c.args.page _ _ _ _ _ _ _ c.span_of-span.ensures.value c.act.ensures

pub returns-clause-here : goal.returns-clause-here
returns-clause-here g c =
    let came = fetched c.args.page _ _ _ _ _ _ _ c.span_of-span.ensures.value c.act.ensures in
    fetched-here c.args.page _ _ _ (c.span_of-span.ensures.has c.requires.there) came
