use Rattle.shm_runner.proofs.Names.{List, drop, WorldState, HaveRun, RunStep, HolderView}
use Rattle.shm_runner.proofs.serial.run_each.Given as goal

-- if the lines that are left run from here, all lines have run
abbrev pub invariant-loop-line : goal.invariant-loop-line
invariant-loop-line g l =
    (steps : List RunStep) (later : List HolderView) (end : WorldState) → HaveRun l.values l.world (drop l.line-index l.lines) steps later end
    → (all : List RunStep) × HaveRun l.fn.values l.fn.world l.lines all later end
