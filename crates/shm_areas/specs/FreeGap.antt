-- The least gap beside the ranges that the host reserved, and how it is searched: from the first address that may be chosen, and
-- from the end of each reserved range.
use Rattle.std.specs.Prelude.{◌≡◌, ℕ, ◌+◌, ◌*◌, ◌%◌, ◌≤◌, ◌==◌, true, false, if◌then◌else◌, List, [], ◌∷◌, Option, Some, None, MatchOption, max, All}
use Rattle.shm_base.specs.State.{Piece}
use Rattle.shm_base.specs.Guest.{is_range}
use Rattle.shm_base.specs.Space.{first_chosen, is_free_gap, is_reserved, lesser}
use Rattle.shm_base.specs.declared.guest.HostRange.{HostRange}
use Rattle.shm_base.specs.declared.paging.TheConstants.{PAGE_SIZE}
use Rattle.shm_areas.specs.Gap.{gap_from}

-- each range is one that can be reserved
abbrev pub AreRanges : List HostRange → Type 0
AreRanges rs = All (λ (r : HostRange). is_range r ≡ true) rs

-- a gap for this many pages beside the pieces and the reserved ranges; no lower one exists
pub record IsLeastFreeGap (ps : List Piece) (rs : List HostRange) (pages base : ℕ) : Type 0 where
  pub gap : is_free_gap ps rs pages base ≡ true
  pub aligned : base % PAGE_SIZE ≡ 0
  pub least : (b : ℕ) → is_free_gap ps rs pages b ≡ true → base ≤ b

abbrev pub HasNoFreeGap : List Piece → List HostRange → ℕ → Type 0
HasNoFreeGap ps rs pages = (b : ℕ) → is_free_gap ps rs pages b ≡ false

-- the least gap, or none if there is no gap
abbrev pub ChoosesLeast : List Piece → List HostRange → ℕ → Option ℕ → Type 0
ChoosesLeast ps rs pages chosen = MatchOption chosen (HasNoFreeGap ps rs pages) (IsLeastFreeGap ps rs pages)

-- an address, if this many pages from it meet no reserved range
abbrev pub unless_reserved : List HostRange → ℕ → Option ℕ → Option ℕ
unless_reserved rs pages None = None
unless_reserved rs pages (Some b) = if is_reserved rs b (b + PAGE_SIZE * pages) then None else Some b

-- the first gap among the pieces at or above an address, if it meets no reserved range
abbrev pub free_from : List Piece → List HostRange → ℕ → ℕ → Option ℕ
free_from ps rs pages from = unless_reserved rs pages (gap_from pages (max from first_chosen) ps)

abbrev pub lesser_of : Option ℕ → Option ℕ → Option ℕ
lesser_of None b = b
lesser_of (Some n) b = lesser n b

-- the least of those that are found from the ends of a process's ranges
abbrev pub free_from_ends : List Piece → List HostRange → ℕ → ℕ → List HostRange → Option ℕ
free_from_ends ps rs pages pid [] = None
free_from_ends ps rs pages pid (q ∷ qs) =
    if q.pid == pid
    then lesser_of (free_from ps rs pages q.to) (free_from_ends ps rs pages pid qs)
    else free_from_ends ps rs pages pid qs
