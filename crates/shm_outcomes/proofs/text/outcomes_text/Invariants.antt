use Rattle.shm_outcomes.proofs.Names.{◌≡◌, ◌++◌, ◌+◌, drop, findings_text}
use Rattle.shm_outcomes.proofs.text.outcomes_text.Given as goal

abbrev pub invariant-loop-finding : goal.invariant-loop-finding
invariant-loop-finding l = record {
  number : l.number ≡ l.finding-index + 1;
  text : l.text.items ++ findings_text l.masks l.script l.number (drop l.finding-index l.found) ≡ findings_text l.masks l.script 1 l.found;
}
