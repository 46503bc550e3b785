-- What the tests know of the stores that they make.
use Rattle.std.proofs.Common.{◌≡◌, ℕ, zero, suc, ◌<◌, true, List, [], ◌∷◌, length, get_or, map, replicate, Option, Some, None, refl, arith, ◌*◌}
use Rattle.std.proofs.lemmas.Bool.Decides.{eqb_tells}
use Rattle.shm_fault.proofs.Pasted.{length-paste}
use Rattle.std.proofs.lemmas.List.{length-replicate}
use Rattle.std.proofs.lemmas.Grind.{common_steps}
use Rattle.shm_base.specs.declared.paging.PageRef.{PageRef}
use Rattle.shm_base.specs.declared.paging.Span.{Span}
use Rattle.shm_pager_core.specs.Pages.{PagerView}
use Rattle.shm_fault.specs.Held.{Held, held_id, FitsPage, pages_in_store, written, with_zeros}
use Rattle.shm_slots.specs.View.{AreaView, SwapView, fresh, new_swap, owner_of, size_of}
use Rattle.shm_frames.specs.Frame.{Frame}
use Rattle.shm_fault.specs.Store.{fresh_store, held}

-- areas that were just passed in have no owned slot
none-owned : (n slot : ℕ) → get_or {A = Option PageRef} (replicate n None) slot None ≡ None
none-owned zero slot = refl
none-owned (suc n) zero = refl
none-owned (suc n) (suc slot) = none-owned n slot

pub fresh-free : {X : Type 0} (f : X → PagerView) (xs : List X) (area slot : ℕ) → owner_of (new_swap (map (λ x. fresh (f x)) xs)) area slot ≡ None
fresh-free f [] area slot = refl
fresh-free f (x ∷ xs) zero slot = none-owned (length (f x).pages) slot
fresh-free f (x ∷ xs) (suc area) slot = fresh-free f xs area slot

pub fresh-held : (frames : List Frame) (swap : SwapView) → held (fresh_store frames swap) ≡ []
unfolding held
fresh-held frames swap = refl

-- what is known of three pages
pub added : (n : ℕ) → (map held_id (with_zeros [] 0 n) ≡ 0 ∷ []) × (pages_in_store (with_zeros [] 0 n) ≡ n)
added n = let size : length {A = ℕ} (replicate (4096 * n) 0) ≡ 4096 * n = length-replicate (4096 * n) 0 in (refl, omega (arith, size))

pub three-fit : (hs : List Held) (p : Span) → map held_id hs ≡ 0 ∷ [] → pages_in_store hs ≡ 3 → p.seg ≡ 0 → p.at < 12288 → p.len ≡ 1 → FitsPage hs p
three-fit [] p ids pages seg at len = cc
three-fit (g ∷ []) p ids pages seg at len = grind (arith, common_steps, eqb_tells)
three-fit (g ∷ h ∷ hs) p ids pages seg at len = cc

pub three-written : (hs : List Held) (p : Span) (new : List ℕ) → map held_id hs ≡ 0 ∷ [] → pages_in_store hs ≡ 3 → FitsPage hs p → (map held_id (written hs (p ∷ []) new) ≡ 0 ∷ []) × (pages_in_store (written hs (p ∷ []) new) ≡ 3)
three-written [] p new ids pages fit = cc
three-written (g ∷ []) p new ids pages fit = grind (arith, common_steps, eqb_tells, length-paste)
three-written (g ∷ h ∷ hs) p new ids pages fit = cc

-- an area that has a size is there
pub sized : (a : AreaView) (n : ℕ) → size_of a ≡ Some n → (a.here ≡ true) × (length a.pages ≡ n)
sized a n e = grind (arith, common_steps)
