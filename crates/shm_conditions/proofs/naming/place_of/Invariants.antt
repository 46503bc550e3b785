use Rattle.std.proofs.Common.{◌≡◌, drop}
use Rattle.shm_conditions.specs.Naming.{place_from}
use Rattle.shm_conditions.proofs.naming.place_of.Given as goal

abbrev pub invariant-loop-place : goal.invariant-loop-place
invariant-loop-place l = place_from 0 l.number l.processes ≡ place_from l.place l.number (drop l.place l.processes)
