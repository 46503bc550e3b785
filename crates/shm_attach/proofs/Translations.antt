-- The translations of all pieces are true if each entry is.
use Rattle.shm_attach.proofs.Names.{◌≡◌, ◌≢◌, ℕ, zero, suc, ◌+◌, ◌<◌, List, [], ◌∷◌, ◌++◌, length, get_or, Option, Some, None, refl, ap, sym, subst, ◌∙◌, arith, common_steps, All, ⊤, flat_map, All-append, All-nil, All-cons, All-head, All-tail, Slab, get, StoreView, frame_of, Tables, Translation, AreTrue, translations_from, translations_in, translations_of, seg_in, TrueSlot, AllTrue, counted, OneTableEach, TableView}

abbrev IsTrueAt : (ℕ → ℕ → Option ℕ) → Translation → Type 0
IsTrueAt at t = t.frame ≡ at t.seg t.page

All-left : {X : Type 0} (P : X → Type 0) (xs ys : List X) → All P (xs ++ ys) → All P xs
All-left P [] ys all = All-nil P
All-left P (x ∷ xs) ys all = All-cons P x xs (All-head P x (xs ++ ys) all) (All-left P xs ys (All-tail P x (xs ++ ys) all))

All-right : {X : Type 0} (P : X → Type 0) (xs ys : List X) → All P (xs ++ ys) → All P ys
All-right P [] ys all = all
All-right P (x ∷ xs) ys all = All-right P xs ys (All-tail P x (xs ++ ys) all)

-- ONE ENTRY

frames-of : (at : ℕ → ℕ → Option ℕ) (seg first : ℕ) (fs : List (Option ℕ)) → All (IsTrueAt at) (translations_from seg first fs)
    → (j : ℕ) → j < length fs → get_or fs j None ≡ at seg (first + j)
frames-of at seg first [] all j lt = absurd (omega arith)
frames-of at seg first (f ∷ fs) all zero lt = grind (arith, common_steps, All-head, translations_from)
frames-of at seg first (f ∷ fs) all (suc j) lt =
    grind (arith, common_steps, frames-of at seg (first + 1) fs (All-tail (IsTrueAt at) (record { seg = seg; page = first; frame = f }) (translations_from seg (first + 1) fs) all) j)

of-frames : (at : ℕ → ℕ → Option ℕ) (seg first : ℕ) (fs : List (Option ℕ)) → ((j : ℕ) → j < length fs → get_or fs j None ≡ at seg (first + j))
    → All (IsTrueAt at) (translations_from seg first fs)
of-frames at seg first [] each = All-nil (IsTrueAt at)
of-frames at seg first (f ∷ fs) each =
    let here : first + 0 ≡ first = omega arith in
    let head : f ≡ at seg first = rw here at (each 0 (omega arith)) in
    All-cons (IsTrueAt at) (record { seg = seg; page = first; frame = f }) (translations_from seg (first + 1) fs) head
    (of-frames at seg (first + 1) fs (λ j lt. let next : (first + 1) + j ≡ first + suc j = omega arith in rw next (each (suc j) (omega (arith, lt)))))

-- ALL ENTRIES

slots-of : (at : ℕ → ℕ → Option ℕ) (os : List (Option TableView)) → All (IsTrueAt at) (flat_map translations_in os) → (k : ℕ) → TrueSlot at (get_or os k None)
slots-of at [] all k = tt
slots-of at (None ∷ os) all zero = tt
slots-of at (Some e ∷ os) all zero =
    λ j lt. let here : 0 + j ≡ j = omega arith in rw here at (frames-of at e.seg 0 e.frames (All-left (IsTrueAt at) (translations_from e.seg 0 e.frames) (flat_map translations_in os) all) j lt)
slots-of at (o ∷ os) all (suc k) = slots-of at os (All-right (IsTrueAt at) (translations_in o) (flat_map translations_in os) all) k

-- a fact about each entry's translations is one about all
slots-all : (P : Translation → Type 0) (S : Option TableView → Type 0) → ((o : Option TableView) → S o → All P (translations_in o)) → (os : List (Option TableView))
    → ((k : ℕ) → S (get_or os k None)) → All P (flat_map translations_in os)
slots-all P S one [] each = All-nil P
slots-all P S one (o ∷ os) each = All-append P (translations_in o) (flat_map translations_in os) (one o (each 0)) (slots-all P S one os (λ k. each (suc k)))

of-slot : (at : ℕ → ℕ → Option ℕ) (o : Option TableView) → TrueSlot at o → All (IsTrueAt at) (translations_in o)
of-slot at None tr = All-nil (IsTrueAt at)
of-slot at (Some e) tr = of-frames at e.seg 0 e.frames (λ j lt. let here : 0 + j ≡ j = omega arith in rw here (tr j lt))

pub all-true : (at : ℕ → ℕ → Option ℕ) (t : Slab TableView) → All (λ (x : Translation). x.frame ≡ at x.seg x.page) (translations_of t) → AllTrue at t
all-true at t all = slots-of at t.slots all

pub true-all : (at : ℕ → ℕ → Option ℕ) (t : Slab TableView) → AllTrue at t → All (λ (x : Translation). x.frame ≡ at x.seg x.page) (translations_of t)
true-all at t all = slots-all (IsTrueAt at) (TrueSlot at) (of-slot at) t.slots all

-- translations stay true if each entry does
pub keeps : (ts : List Translation) (t u : Slab TableView) → translations_of t ≡ ts → ((at : ℕ → ℕ → Option ℕ) → AllTrue at t → AllTrue at u)
    → (m : StoreView) → AreTrue ts m → AreTrue (translations_of u) m
keeps ts t u is step m old = true-all (frame_of m) u (step (frame_of m) (all-true (frame_of m) t (subst (λ (xs : List Translation). AreTrue xs m) (sym is) old)))

-- A SEGMENT THAT NO PIECE NAMES

abbrev Apart : ℕ → Translation → Type 0
Apart seg t = t.seg ≢ seg

frames-apart : (seg own first : ℕ) (fs : List (Option ℕ)) → own ≢ seg → All (Apart seg) (translations_from own first fs)
frames-apart seg own first [] other = All-nil (Apart seg)
frames-apart seg own first (f ∷ fs) other = grind (arith, common_steps, frames-apart seg own (first + 1) fs other)

abbrev pub SlotApart : ℕ → Option TableView → Type 0
SlotApart seg None = ⊤
SlotApart seg (Some e) = e.seg ≢ seg

slot-apart : (seg : ℕ) (o : Option TableView) → SlotApart seg o → All (Apart seg) (translations_in o)
slot-apart seg None tr = All-nil (Apart seg)
slot-apart seg (Some e) tr = frames-apart seg e.seg 0 e.frames tr

pub apart-all : (seg : ℕ) (t : Slab TableView) → ((k : ℕ) → SlotApart seg (get t k)) → All (λ (x : Translation). x.seg ≢ seg) (translations_of t)
apart-all seg t each = slots-all (Apart seg) (SlotApart seg) (slot-apart seg) t.slots each

pub unnamed : (seg : ℕ) (t : Tables) → OneTableEach t → counted t seg ≡ 0 → All (λ (x : Translation). x.seg ≢ seg) (translations_of t.slab)
unnamed seg t tied none = apart-all seg t.slab (λ k. by k (get t.slab k) refl)
  where
    by : (k : ℕ) (o : Option TableView) → get t.slab k ≡ o → SlotApart seg (get t.slab k)
    by k None at = rw at tt
    by k (Some e) at =
        let other : e.seg ≢ seg = λ same. cc (tied.named seg k (ap seg_in at ∙ ap Some same), tied.some seg none) in
        rw at other
