-- Entries that are true of one residency, and then of another.
use Rattle.shm_attach.proofs.Names.{◌≡◌, ℕ, zero, suc, ◌+◌, ◌<◌, List, [], ◌∷◌, length, get_or, take, Option, arith, Slab, PageMove, moved, AllTrue, TableView}

-- THE MOVES, ONE AFTER ANOTHER

moved-step : (ms : List PageMove) (i : ℕ) (d : PageMove) (seg page : ℕ) (f : Option ℕ) → i < length ms
    → moved (take (suc i) ms) seg page f ≡ moved (get_or ms i d ∷ []) seg page (moved (take i ms) seg page f)
moved-step [] i d seg page f lt = absurd (omega arith)
moved-step (m ∷ ms) zero d seg page f lt = grind arith
moved-step (m ∷ ms) (suc i) d seg page f lt = grind (arith, moved-step ms i d seg page)

pub moved-more : (ms : List PageMove) (i : ℕ) (d : PageMove) (seg page : ℕ) (f : Option ℕ) → i < length ms
    → moved (take (i + 1) ms) seg page f ≡ moved (get_or ms i d ∷ []) seg page (moved (take i ms) seg page f)
moved-more ms i d seg page f lt = let next : i + 1 ≡ suc i = omega arith in rw next (moved-step ms i d seg page f lt)

-- an entry is true of an equal residency
pub true-same : (at by : ℕ → ℕ → Option ℕ) (t : Slab TableView) → ((seg page : ℕ) → at seg page ≡ by seg page) → AllTrue at t → AllTrue by t
true-same at by t same all k = grind arith
