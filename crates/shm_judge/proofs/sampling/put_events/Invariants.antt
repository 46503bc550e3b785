use Rattle.shm_judge.proofs.Names.{◌≡◌, ◌++◌, ◌+◌, drop, events_text}
use Rattle.shm_judge.proofs.sampling.put_events.Given as goal

abbrev pub invariant-loop-event : goal.invariant-loop-event
invariant-loop-event l = record {
  place : l.place ≡ l.event-index + 1;
  text : l.text.items ++ events_text l.place (drop l.event-index l.events) ≡ l.initial.text.items ++ events_text 1 l.events;
}
