use Rattle.shm_judge.proofs.Names.{◌≡◌, ◌↔◌, ◌≤◌, ◌+◌, length, drop, replies_to, Begins}
use Rattle.shm_judge.proofs.log.matched.Given as goal

abbrev pub invariant-loop-event : goal.invariant-loop-event
invariant-loop-event l = record {
  within : l.place ≤ length l.answers;
  begins : Begins l.answers (replies_to l.pid l.events) ↔ Begins (drop l.place l.answers) (replies_to l.pid (drop l.event-index l.events));
  counted : l.place + length (replies_to l.pid (drop l.event-index l.events)) ≡ length (replies_to l.pid l.events);
}
