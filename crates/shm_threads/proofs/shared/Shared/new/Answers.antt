use Rattle.shm_threads.proofs.Names.{callers_of}
use Rattle.shm_threads.proofs.Passing.{passed-fresh}
use Rattle.shm_threads.proofs.shared.Shared.new.Goals as goal

pub invariant_of-new : goal.invariant_of-new
invariant_of-new g c =
    (c.requires.running, (c.requires.rounds, (c.requires.kept, (tt, (passed-fresh g.O.Origin.answers (callers_of g.O.Origin.script.lines) c.args.strands.items c.requires.fresh, c.requires.entries)))))
