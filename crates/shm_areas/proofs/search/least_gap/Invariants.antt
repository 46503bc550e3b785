use Rattle.shm_areas.proofs.Names.{◌≡◌, ◌≤◌, drop, end_address, bare_all, gap_from}
use Rattle.shm_areas.proofs.search.least_gap.Given as goal

abbrev pub invariant-loop-piece : goal.invariant-loop-piece
invariant-loop-piece l =
    record {
      found : gap_from l.pages l.from (bare_all l.pieces) ≡ gap_from l.pages l.base (bare_all (drop l.piece-index l.pieces));
      high : l.base ≤ end_address;
    }
