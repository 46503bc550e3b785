use Rattle.shm_text.proofs.Names.{◌≡◌, ◌≤◌, ◌<◌, ◌+◌, List, length, None, lines_of, items_of, nothing, limits_after, Item}
use Rattle.shm_text.proofs.ItemSteps.{Goes, Keeps}
use Rattle.shm_text.proofs.reading.read_lines.Given as goal

-- the lines so far have no fault, and what they say was kept
abbrev pub invariant-loop-lines : goal.invariant-loop-lines
invariant-loop-lines l = record {
  so_far : (front : List Item) × (Goes (items_of 1 nothing (lines_of l.bytes)) l.number l.seen l.lines.left front × (limits_after None front ≡ l.seen.limits) × Keeps l.kept front);
  count : l.number + length l.lines.left ≤ 1048578;
  commands : l.seen.commands < l.number;
}

abbrev pub decreases-loop-lines : goal.decreases-loop-lines
decreases-loop-lines l = length l.lines.left
