use Rattle.shm_areas.proofs.Names.{◌≡◌, ◌≤◌, length, vec_capacity, taken_between}
use Rattle.shm_areas.proofs.Origins.{taken_from}
use Rattle.shm_areas.proofs.taking.take_named.Given as goal

-- the final list is the same from each index on
abbrev pub invariant-loop-k : goal.invariant-loop-k
invariant-loop-k l =
    record {
      order : l.kept ≤ l.k;
      count : length l.pieces.items ≡ length l.initial.pieces.items;
      whole : taken_from l.addr l.seg l.pieces.items l.kept l.k l.run.last ≡ taken_between l.addr l.seg l.initial.pieces.items l.run.first l.run.last;
      capacity : vec_capacity l.initial.pieces ≤ vec_capacity l.pieces;
    }
