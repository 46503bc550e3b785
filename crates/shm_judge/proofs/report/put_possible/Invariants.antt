use Rattle.shm_judge.proofs.Names.{◌≡◌, ◌++◌, flat_map, take, possible_text}
use Rattle.shm_judge.proofs.report.put_possible.Given as goal

abbrev pub invariant-loop-event : goal.invariant-loop-event
invariant-loop-event l = l.text.items ≡ l.initial.text.items ++ flat_map possible_text (take l.event-index l.events)
