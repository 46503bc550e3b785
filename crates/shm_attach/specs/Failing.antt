-- The address at which an access fails, and the first address whose page has no frame.
use Rattle.std.specs.Prelude.{ℕ, zero, suc, ◌+◌, ◌/◌, Bool, false, not, ◌||◌, if◌then◌else◌, List, Option, Some, None, is_some}
use Rattle.shm_base.specs.State.{Piece}
use Rattle.shm_base.specs.Access.{Place, place}
use Rattle.shm_base.specs.declared.paging.TheConstants.{PAGE_SIZE}

-- an access may use the byte that an address denotes
abbrev pub is_allowed : Bool → Option Place → Bool
is_allowed write None = false
is_allowed write (Some p) = not write || p.writable

-- the first address, from a on, without a piece; for a write, also the first that is read-only
abbrev pub first_failed : Bool → List Piece → ℕ → ℕ → Option ℕ
first_failed write ps a zero = None
first_failed write ps a (suc n) = if is_allowed write (place ps a) then first_failed write ps (a + 1) n else Some a

-- this address if its page has no frame, else the one found above it; none if it denotes no byte
abbrev pub absent_from : (ℕ → ℕ → Option ℕ) → ℕ → Option Place → Option ℕ → Option ℕ
absent_from frame a None above = None
absent_from frame a (Some p) above = if is_some (frame p.seg (p.at / PAGE_SIZE)) then above else Some a

-- the first address, from a on, whose page has no frame, if all addresses below it are in pieces
abbrev pub first_absent : (ℕ → ℕ → Option ℕ) → List Piece → ℕ → ℕ → Option ℕ
first_absent frame ps a zero = None
first_absent frame ps a (suc n) = absent_from frame a (place ps a) (first_absent frame ps (a + 1) n)
