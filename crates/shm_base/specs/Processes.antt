-- Processes as they were declared, and as callers.
use Rattle.std.specs.Prelude.{ℕ, Bool, ◌==◌, List, [], Option, Some, None}
use Rattle.std.specs.List.{list_any}
use Rattle.shm_base.specs.declared.call.Process.{Process}
use Rattle.shm_base.specs.State.{Piece}
use Rattle.shm_base.specs.Callers.{Caller}

-- one of the processes has this pid
abbrev pub has_pid : ℕ → List Process → Bool
has_pid pid ps = list_any (λ (p : Process). p.pid == pid) ps

-- the caller's pieces; none if there is no such process
abbrev pub pieces_of_caller : Option Caller → List Piece
pieces_of_caller None = []
pieces_of_caller (Some c) = c.pieces
