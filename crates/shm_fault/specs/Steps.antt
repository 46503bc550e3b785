-- The effects of a call on the residency and on the swap.
use Rattle.std.specs.Prelude.{ℕ, ◌≡◌, true, if◌then◌else◌, List, [], ◌∷◌, Option, Some, None, is_some}
use Rattle.shm_fault.specs.Held.{holds_locked}
use Rattle.shm_fault.specs.declared.touched.PageMove.{PageMove}
use Rattle.shm_fault.specs.declared.touched.PageMove.TheVariants.{Gone, Came}
pub use Rattle.shm_fault.specs.Store.{is_page}
use Rattle.shm_fault.specs.Store.{StoreView, held, frame_of}

-- the frame of one page after the moves, from its frame before them
abbrev pub moved : List PageMove → ℕ → ℕ → Option ℕ → Option ℕ
moved [] seg page f = f
moved (Gone r ∷ ms) seg page f = moved ms seg page (if is_page r seg page then None else f)
moved (Came r k ∷ ms) seg page f = moved ms seg page (if is_page r seg page then Some k else f)

-- the moves lead from one residency to the other
abbrev pub MovesLead : List PageMove → StoreView → StoreView → Type 0
MovesLead ms before after =
    (seg page : ℕ) → frame_of after seg page ≡ moved ms seg page (frame_of before seg page)

-- every resident page of a locked segment stays resident while the segment is locked
abbrev pub LockedPagesStay : StoreView → StoreView → Type 0
LockedPagesStay before after =
    (seg page : ℕ) → holds_locked (held before) seg ≡ true → holds_locked (held after) seg ≡ true
    → is_some (frame_of before seg page) ≡ true → is_some (frame_of after seg page) ≡ true
