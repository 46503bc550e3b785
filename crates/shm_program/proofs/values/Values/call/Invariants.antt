use Rattle.shm_program.proofs.Names.{◌≡◌, drop, values_of}
use Rattle.shm_program.proofs.values.Values.call.Given as goal

-- the process is among the holders that are left, if anywhere
abbrev pub invariant-loop-holder : goal.invariant-loop-holder
invariant-loop-holder l = values_of l.self l.pid ≡ values_of (drop l.holder-index l.self) l.pid
