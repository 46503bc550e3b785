use Rattle.shm_attach.proofs.Names.{◌≡◌, ℕ, Option, take, moved, AllTrue, counted, HasTable, OneTableEach, Piece}
use Rattle.shm_attach.proofs.tables.Tables.note.Given as goal

-- the moves so far are noted
abbrev pub invariant-loop-entry : goal.invariant-loop-entry
invariant-loop-entry l =
    record {
      counts : (id : ℕ) → counted l.self id ≡ counted l.initial.self id;
      tables : (p : Piece) → HasTable l.initial.self.slab p → HasTable l.self.slab p;
      translated : (at : ℕ → ℕ → Option ℕ) → AllTrue at l.initial.self.slab → AllTrue (λ seg page. moved (take l.entry-index l.moves) seg page (at seg page)) l.self.slab;
      tied : OneTableEach l.self;
    }
