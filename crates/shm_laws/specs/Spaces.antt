-- Address spaces: the pieces of a process do not overlap, are within the addresses, and are not too many.
use Rattle.std.specs.Prelude.{◌≡◌, ◌≤◌, ℕ, ◌%◌, true, List, length, Some, slice_get, All}
use Rattle.shm_base.specs.declared.call.Event.{Event}
use Rattle.shm_base.specs.State.{Piece, Runner, Machine, Opening}
use Rattle.shm_base.specs.Access.{end_of, covers}
use Rattle.shm_base.specs.Space.{lowest_address, end_address}
use Rattle.shm_laws.specs.Standing.{Always}
use Rattle.shm_base.specs.declared.paging.TheConstants.{PAGE_SIZE}

-- no address is in two pieces
abbrev pub LieApart : List Piece → Type 0
LieApart ps =
    (address j k : ℕ) (p q : Piece) → slice_get ps j ≡ Some p → slice_get ps k ≡ Some q
    → covers p address ≡ true → covers q address ≡ true → j ≡ k

-- the piece has whole pages, at least one, from the lowest address to the last
pub record LiesInside (p : Piece) : Type 0 where
  pub page : p.base % PAGE_SIZE ≡ 0
  pub some : 1 ≤ p.pages
  pub from : lowest_address ≤ p.base
  pub to : end_of p ≤ end_address

-- the pieces of one process, of which there may be at most this many
pub record AreLaidOut (most : ℕ) (ps : List Piece) : Type 0 where
  pub apart : LieApart ps
  pub inside : All LiesInside ps
  pub few : length ps ≤ most

-- THE LAW. At each moment the pieces of each process are laid out this way
pub record SpacesAreLaidOut (o : Opening) (events : List Event) (end : Machine) : Type 0 where
  pub spaces :
      Always (λ before s. All (λ (r : Runner). AreLaidOut o.limits.most_pieces r.pieces) s.runners) o events
