-- The keeper of a run, from one publication to the next.
use Rattle.shm_threads.proofs.Names.{◌≡◌, ◌∙◌, ◌++◌, List, [], ◌∷◌, Option, Bool, true, false, IsTrue, IsFalse, ap, append-nil, append_assoc, refl, sym, CellName, Seat, StartsWith, stores, Reading, IsKept, cell_of, stored_of}

pub starts-trans : (all more some : List Reading) → StartsWith all more → StartsWith more some → StartsWith all some
starts-trans all more some (late, is) (early, was) = (early ++ late, is ∙ ap (λ (rs : List Reading). rs ++ late) was ∙ append_assoc some early late)

pub kept-trans : (cell : Option CellName) (stored : List Reading) (was now : Option Seat) → IsKept cell stored was → IsKept (cell_of was) (stored_of was) now → IsKept cell stored now
kept-trans cell stored was now first more =
    record { same_cell = more.same_cell ∙ first.same_cell; grows = starts-trans (stored_of now) (stored_of was) stored more.grows first.grows }

-- what a publication leaves, stored or not
module _ (was now : Seat) (r : Reading) where
  pub published-cell : (stored : Bool) → (IsTrue stored → now ≡ stores was r) → (IsFalse stored → now ≡ was) → now.cell ≡ was.cell
  published-cell true new same = ap (λ (k : Seat). k.cell) (new refl)
  published-cell false new same = ap (λ (k : Seat). k.cell) (same refl)

  pub published-more : (stored : Bool) → (IsTrue stored → now ≡ stores was r) → (IsFalse stored → now ≡ was) → StartsWith now.stored was.stored
  published-more true new same = (r ∷ [], ap (λ (k : Seat). k.stored) (new refl))
  published-more false new same = ([], ap (λ (k : Seat). k.stored) (same refl) ∙ sym (append-nil was.stored))
