-- Bytes one by one, and bytes by spans.
use Rattle.shm_segments.proofs.Names.{◌≡◌, ◌≢◌, ℕ, zero, suc, ◌+◌, ◌<◌, ◌≤◌, ◌==◌, if◌then◌else◌, Bool, true, List, [], ◌∷◌, ◌++◌, length, set, take, drop, map, refl, sym, ap, ◌∙◌, arith, length-set, append_assoc, append-nil, take-append-drop, drop_more, map-append, drop-set-lt, sum_by-cons, common_steps, take-set_at, eqb_tells, nat_tests, slice_index, sum_by, All, Place, Span, run, span_places, Held, bytes_of, is_held, paste, pasted, written, FitsPage, read_from, bytes_of-pasted_same, bytes_of-pasted_other, fits-pasted, cases_eq, slice_set}

-- BYTES BY PLACE

abbrev pub put_in : ℕ → ℕ → ℕ → Held → Held
put_in id at b g = if g.id == id then record g { bytes = slice_set g.bytes at b } else g

-- one byte replaced
abbrev pub put : List Held → Place → ℕ → List Held
put hs p b = map (put_in p.seg p.at b) hs

-- the bytes at these places replaced, in order
abbrev pub puts : List Held → List Place → List ℕ → List Held
puts hs [] bs = hs
puts hs (p ∷ ps) [] = hs
puts hs (p ∷ ps) (b ∷ bs) = puts (put hs p b) ps bs

abbrev pub get : List Held → Place → ℕ
get hs p = slice_index (bytes_of hs p.seg) p.at

-- two stores with the same bytes of each segment
abbrev pub SameBytes : List Held → List Held → Type 0
SameBytes hs gs = (id : ℕ) → bytes_of gs id ≡ bytes_of hs id

pub bytes_of-put_same : (hs : List Held) (p : Place) (b : ℕ) → bytes_of (put hs p b) p.seg ≡ set (bytes_of hs p.seg) p.at b
bytes_of-put_same [] p b = refl
bytes_of-put_same (g ∷ gs) p b = grind (arith, nat_tests, bytes_of-put_same gs p b)

pub bytes_of-put_other : (hs : List Held) (p : Place) (b id : ℕ) → id ≢ p.seg → bytes_of (put hs p b) id ≡ bytes_of hs id
bytes_of-put_other [] p b id ne = refl
bytes_of-put_other (g ∷ gs) p b id ne = grind (arith, nat_tests, bytes_of-put_other gs p b id ne)

-- BYTES ONE AFTER ANOTHER MAKE A SPAN

abbrev sets : List ℕ → ℕ → List ℕ → List ℕ
sets xs at [] = xs
sets xs at (b ∷ bs) = sets (set xs at b) (at + 1) bs

paste-set : (xs : List ℕ) (at b : ℕ) (bs : List ℕ) → at < length xs → paste (set xs at b) (at + 1) bs ≡ paste xs at (b ∷ bs)
paste-set xs at b bs lt = grind (arith, common_steps, take-set_at xs at (at + 1) b refl lt, drop-set-lt (at + 1 + length bs) xs at b, append_assoc)

paste-none : (xs : List ℕ) (at : ℕ) → xs ≡ paste xs at []
paste-none xs at = grind (arith, append-nil, take-append-drop)

sets-paste : (bs xs : List ℕ) (at : ℕ) → at + length bs ≤ length xs → sets xs at bs ≡ paste xs at bs
sets-paste [] xs at le = paste-none xs at
sets-paste (b ∷ bs) xs at le =
    let n : length (set xs at b) ≡ length xs = length-set xs at b in
    sets-paste bs (set xs at b) (at + 1) (omega arith) ∙ paste-set xs at b bs (omega arith)

bytes_of-puts_same : (n : ℕ) (hs : List Held) (seg at : ℕ) (w : Bool) (bs : List ℕ) → length bs ≡ n → bytes_of (puts hs (run seg at n w) bs) seg ≡ sets (bytes_of hs seg) at bs
bytes_of-puts_same zero hs seg at w [] e = refl
bytes_of-puts_same zero hs seg at w (b ∷ bs) e = absurd (omega arith)
bytes_of-puts_same (suc n) hs seg at w [] e = absurd (omega arith)
bytes_of-puts_same (suc n) hs seg at w (b ∷ bs) e =
    let p : Place = record { seg = seg; at = at; writable = w } in
    bytes_of-puts_same n (put hs p b) seg (at + 1) w bs (omega arith) ∙ ap (λ xs. sets xs (at + 1) bs) (bytes_of-put_same hs p b)

bytes_of-puts_other : (n : ℕ) (hs : List Held) (seg at : ℕ) (w : Bool) (bs : List ℕ) (id : ℕ) → id ≢ seg → bytes_of (puts hs (run seg at n w) bs) id ≡ bytes_of hs id
bytes_of-puts_other zero hs seg at w bs id ne = refl
bytes_of-puts_other (suc n) hs seg at w [] id ne = refl
bytes_of-puts_other (suc n) hs seg at w (b ∷ bs) id ne =
    let p : Place = record { seg = seg; at = at; writable = w } in
    bytes_of-puts_other n (put hs p b) seg (at + 1) w bs id ne ∙ bytes_of-put_other hs p b id ne

-- writing bytes one by one pastes a span
same-pasted : (hs : List Held) (seg at n : ℕ) (w : Bool) (bs : List ℕ) → length bs ≡ n → is_held hs seg ≡ true → at + n ≤ length (bytes_of hs seg)
    → SameBytes (puts hs (run seg at n w) bs) (map (pasted seg at bs) hs)
same-pasted hs seg at n w bs e there le id = grind (arith, common_steps, eqb_tells, bytes_of-pasted_same, sets-paste, bytes_of-puts_same, bytes_of-pasted_other, bytes_of-puts_other)

-- SPAN AFTER SPAN

length-run : (n seg at : ℕ) (w : Bool) → length (run seg at n w) ≡ n
length-run zero seg at w = refl
length-run (suc n) seg at w = ap suc (length-run n seg (at + 1) w)

puts-append : (hs : List Held) (ps qs : List Place) (bs : List ℕ) → puts hs (ps ++ qs) bs ≡ puts (puts hs ps (take (length ps) bs)) qs (drop (length ps) bs)
puts-append hs [] qs bs = refl
puts-append hs (p ∷ ps) [] [] = refl
puts-append hs (p ∷ ps) (q ∷ qs) [] = refl
puts-append hs (p ∷ ps) qs (b ∷ bs) = puts-append (put hs p b) ps qs bs

same-put : (hs gs : List Held) (p : Place) (b : ℕ) → SameBytes hs gs → SameBytes (put hs p b) (put gs p b)
same-put hs gs p b h id = grind (arith, nat_tests, cases_eq id p.seg, bytes_of-put_same gs p b, bytes_of-put_same hs p b, h p.seg, h id, bytes_of-put_other gs p b id, bytes_of-put_other hs p b id)

same-puts : (ps : List Place) (bs : List ℕ) (hs gs : List Held) → SameBytes hs gs → SameBytes (puts hs ps bs) (puts gs ps bs)
same-puts [] bs hs gs h = h
same-puts (p ∷ ps) [] hs gs h = h
same-puts (p ∷ ps) (b ∷ bs) hs gs h = same-puts ps bs (put hs p b) (put gs p b) (same-put hs gs p b h)

-- a fact of each element, element by element
abbrev pub Each : {X : Type 0} → (X → Type 0) → List X → Type 0
Each P [] = Unit {0}
Each P (x ∷ xs) = P x × Each P xs

pub each : {X : Type 0} (P : X → Type 0) (xs : List X) → All P xs → Each P xs
each P [] h = tt
each P (x ∷ xs) h = (h 0 x (omega arith), each P xs (λ k d lt. h (suc k) d (omega arith)))

abbrev pub len_of : Span → ℕ
len_of p = p.len

pub each-pasted : (qs : List Span) (hs : List Held) (p : Span) (new : List ℕ) → length new ≤ p.len → FitsPage hs p → Each (FitsPage hs) qs → Each (FitsPage (map (pasted p.seg p.at new) hs)) qs
each-pasted [] hs p new le fit h = tt
each-pasted (q ∷ qs) hs p new le fit h = (fits-pasted hs p q new le fit h.0, each-pasted qs hs p new le fit h.1)

-- what each span keeps of a store, all of them keep
pub written-keeps : (P : List Held → Type 0) → ((hs : List Held) (p : Span) (new : List ℕ) → P hs → FitsPage hs p → length new ≤ p.len → P (map (pasted p.seg p.at new) hs))
    → (ps : List Span) (hs : List Held) (new : List ℕ) → P hs → Each (FitsPage hs) ps → P (written hs ps new)
written-keeps P step [] hs new here fits = here
written-keeps P step (p ∷ ps) hs new here fits = grind (arith, common_steps, nat_tests, each-pasted, written-keeps P step ps)

-- replacing the bytes one by one is replacing them span by span
pub written-same : (ps : List Span) (w : Bool) (hs : List Held) (new : List ℕ) → Each (FitsPage hs) ps → sum_by len_of ps ≡ length new → SameBytes (puts hs (span_places w ps) new) (written hs ps new)
written-same [] w hs new h e id = refl
written-same (p ∷ ps) w hs new h e id =
    let first : List ℕ = take p.len new in
    let rest : List ℕ = drop p.len new in
    let places : List Place = span_places w ps in
    let sum : p.len + sum_by len_of ps ≡ length new = sym (sum_by-cons len_of p ps) ∙ e in
    let lf : length (take p.len new) ≡ p.len = grind (arith, common_steps, sum) in
    let lr : sum_by len_of ps ≡ length (drop p.len new) = grind (arith, common_steps, sum) in
    let parts = rw (length-run p.len p.seg p.at w) at (puts-append hs (run p.seg p.at p.len w) places new) in
    let hs1 : List Held = puts hs (run p.seg p.at p.len w) first in
    let gs1 : List Held = map (pasted p.seg p.at first) hs in
    let same = same-puts places rest hs1 gs1 (same-pasted hs p.seg p.at p.len w first lf h.0.0 h.0.1) in
    written-same ps w gs1 rest (each-pasted ps hs p first (omega (arith, lf)) h.0 h.1) lr id ∙ same id ∙ ap (λ x. bytes_of x id) (sym parts)

-- BYTES READ

get-run : (n : ℕ) (hs : List Held) (seg at : ℕ) (w : Bool) → at + n ≤ length (bytes_of hs seg) → map (get hs) (run seg at n w) ≡ take n (drop at (bytes_of hs seg))
get-run zero hs seg at w le = refl
get-run (suc n) hs seg at w le = grind (arith, common_steps, drop_more, get-run n hs seg (at + 1) w (omega arith))

-- reading the bytes one by one is reading them span by span
pub get-spans : (ps : List Span) (w : Bool) (hs : List Held) → Each (FitsPage hs) ps → map (get hs) (span_places w ps) ≡ read_from hs ps
get-spans [] w hs h = refl
get-spans (p ∷ ps) w hs h = grind (arith, common_steps, map-append, get, p.at, p.len, get-run, h.0.1, h.1, get-spans ps w hs h.1)
