use Rattle.shm_judge.proofs.Names.{◌≡◌, ◌+◌, ◌≤◌, length, all_before, entries_from, entries_of, lines_in}
use Rattle.shm_judge.proofs.reading.read_log.Given as goal

abbrev pub invariant-loop-rest : goal.invariant-loop-rest
invariant-loop-rest l = record {
  number : l.number + length l.rest ≤ length l.text + 1;
  entries : entries_of l.script l.text ≡ all_before l.entries.items (entries_from l.script.processes l.number (lines_in l.rest));
}

abbrev pub decreases-loop-rest : goal.decreases-loop-rest
decreases-loop-rest l = length l.rest
