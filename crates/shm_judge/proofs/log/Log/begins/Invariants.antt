use Rattle.shm_judge.proofs.Names.{◌≡◌, ◌<◌, ℕ, [], slice_index_or, Process, replies_to, Begins}
use Rattle.shm_judge.proofs.log.Log.begins.Given as goal

abbrev pub invariant-loop-place : goal.invariant-loop-place
invariant-loop-place l = (i : ℕ) → i < l.place → (p : Process) → p ≡ slice_index_or l.script.processes i p → Begins (slice_index_or l.self i []) (replies_to p.pid l.events)
