use Rattle.shm_outcomes.proofs.Names.{◌≡◌, ◌++◌, take, process_text}
use Rattle.shm_outcomes.proofs.text.put_process.Given as goal

abbrev pub invariant-loop-event : goal.invariant-loop-event
invariant-loop-event l = l.text.items ≡ l.initial.text.items ++ process_text l.masks (take l.event-index l.events) l.process
