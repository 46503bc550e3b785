-- A property of all pieces that each part of a piece inherits holds after a cut and an insertion.
use Rattle.shm_areas.proofs.Names.{◌≡◌, Bool, Some, find, nat_tests, none-some, ℕ, nat_lt, List, [], ◌∷◌, inl, inr, cases_Bool, cut, inserted, parts, ◌+◌, ◌≤◌, arith, common_steps, All, flat_map, flat_map-cons, All-append, All-cons, All-head, All-nil, All-tail}
use Rattle.shm_base.specs.State.{Piece}

pub all-flat_map : {X Y : Type 0} (P : X → Type 0) (Q : Y → Type 0) (f : X → List Y) → ((x : X) → P x → All Q (f x)) → (xs : List X) → All P xs → All Q (flat_map f xs)
all-flat_map P Q f each [] all = All-nil Q
all-flat_map P Q f each (x ∷ xs) all =
    rw (flat_map-cons f x xs) (All-append Q (f x) (flat_map f xs) (each x (All-head P x xs all)) (all-flat_map P Q f each xs (All-tail P x xs all)))

pub all-cut : (P : Piece → Type 0) (from to : ℕ) → ((p : Piece) → P p → All P (parts from to p)) → (ps : List Piece) → All P ps → All P (cut from to ps)
all-cut P from to parted = all-flat_map P P (parts from to) parted

pub all-inserted : (P : Piece → Type 0) (p : Piece) (ps : List Piece) → P p → All P ps → All P (inserted p ps)
all-inserted P p [] own all = All-cons P p [] own (All-nil P)
all-inserted P p (q ∷ qs) own all = elim (cases_Bool (nat_lt p.base q.base)) [
  | inl h ↦ rw h (All-cons P p (q ∷ qs) own all)
  | inr h ↦ rw h (All-cons P q (inserted p qs) (All-head P q qs all) (all-inserted P p qs own (All-tail P q qs all)))
]

-- no part of a piece has a higher page than the piece
pub within-parts : (reach from to : ℕ) (p : Piece) → p.first_page + p.pages ≤ reach → All (λ (q : Piece). q.first_page + q.pages ≤ reach) (parts from to p)
within-parts reach from to p le = grind (arith, common_steps, le)

-- it holds of the piece that a search finds
pub found-passes : (P : Piece → Type 0) (test : Piece → Bool) (ps : List Piece) (p : Piece) → All P ps → find test ps ≡ Some p → P p
found-passes P test [] p all is = absurd (none-some p is)
found-passes P test (q ∷ qs) p all is = grind (arith, nat_tests, All-head P q qs all, found-passes P test qs p (All-tail P q qs all))
