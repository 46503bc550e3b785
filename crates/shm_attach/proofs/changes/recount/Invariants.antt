use Rattle.shm_attach.proofs.Names.{◌≡◌, ℕ, ◌+◌, ◌*◌, ◌<◌, ◌≤◌, Option, drop, pieces_of, cut, bare_all, AllTrue, counted, HasTable, OneTableEach, Piece, most_of_segment}
use Rattle.shm_attach.proofs.changes.recount.Given as goal

-- what is left to count, and that there is room for it
abbrev pub invariant-loop-piece : goal.invariant-loop-piece
invariant-loop-piece l =
    record {
      left : (id : ℕ) → counted l.tables id + pieces_of id (cut l.from l.to (bare_all (drop l.piece-index l.met))) + pieces_of id (bare_all l.met)
          ≡ counted l.initial.tables id + pieces_of id (cut l.from l.to (bare_all l.met)) + pieces_of id (bare_all (drop l.piece-index l.met));
      some : (id : ℕ) → pieces_of id (bare_all (drop l.piece-index l.met)) ≤ counted l.tables id;
      small : (id : ℕ) → counted l.tables id ≤ most_of_segment + 1 + 2 * l.piece-index;
      tables : (p : Piece) → HasTable l.initial.tables.slab p → 0 < counted l.tables p.seg → HasTable l.tables.slab p;
      translated : (at : ℕ → ℕ → Option ℕ) → AllTrue at l.initial.tables.slab → AllTrue at l.tables.slab;
      tied : OneTableEach l.tables;
    }
