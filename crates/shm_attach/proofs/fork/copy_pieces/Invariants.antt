use Rattle.shm_attach.proofs.Names.{most_at, ◌≡◌, ℕ, List, Option, length, take, with_pieces_at, runners_view, pieces_at, AllTrue, stored_at, AreTablesSound, no_reservations}
use Rattle.shm_base.specs.State.{Piece}
use Rattle.shm_attach.proofs.fork.copy_pieces.Given as goal

-- the child has the first k pieces
abbrev pub invariant-loop-k : goal.invariant-loop-k
invariant-loop-k l =
    record {
      runners : runners_view l.processes.entries
          ≡ with_pieces_at (runners_view l.initial.processes.entries) l.child (λ (_ : List Piece). take l.k (pieces_at (runners_view l.initial.processes.entries) l.parent));
      count : length l.processes.entries ≡ length l.initial.processes.entries;
      own : stored_at l.processes.entries l.parent ≡ stored_at l.initial.processes.entries l.parent;
      sound : AreTablesSound no_reservations l.processes.entries l.tables;
      most : (j : ℕ) → most_at l.processes.entries j ≡ most_at l.initial.processes.entries j;
      translated : (at : ℕ → ℕ → Option ℕ) → AllTrue at l.initial.tables.slab → AllTrue at l.tables.slab;
    }
