-- The bytes that addresses of processes denote.
use Rattle.std.specs.Prelude.{ℕ, Option, Some, None}
use Rattle.shm_base.specs.Access.{Place, place}
use Rattle.shm_base.specs.State.{Machine}
use Rattle.shm_base.specs.Callers.{Caller, caller_of}

abbrev pub place_by : Option Caller → ℕ → Option Place
place_by None addr = None
place_by (Some c) addr = place c.pieces addr

-- the byte that an address of a process denotes
abbrev pub place_of : Machine → ℕ → ℕ → Option Place
place_of s pid addr = place_by (caller_of s pid) addr
