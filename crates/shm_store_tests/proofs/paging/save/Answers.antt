use Rattle.std.proofs.Common.{[], ◌∷◌}
use Rattle.shm_fault.specs.Store.{held}
use Rattle.shm_store_tests.proofs.Trials.{three-written}
use Rattle.shm_store_tests.proofs.paging.save.Goals as goal

pub returns-in-Ok : goal.returns-in-Ok
returns-in-Ok g c =
    rw c.in-Ok.ensures.written (three-written (held c.args.store.now) c.span_at-span.result (c.args.byte ∷ []) c.requires.0 c.requires.1 c.span_at-span.ensures.fit)
