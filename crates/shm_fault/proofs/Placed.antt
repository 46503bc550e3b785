-- The places of a store, through each change of its frames, its pages and its slots.
use Rattle.shm_fault.proofs.Names.{length-owners, owners-at, ◌≡◌, ◌≢◌, ℕ, zero, suc, ◌<◌, ◌+◌, Bool, true, false, not, ◌&&◌, cond, List, [], ◌∷◌, map, set, get_or, length, Option, Some, None, is_none, is_some, refl, sym, ap, ◌∙◌, inl, inr, arith, cases_Bool, eq-eqb, ne_eqb, false≢true, PageRef, Slot, SwapView, area_at, IsFirstFree, IsArea, Frame, no_frame, frame_at, may_go, owner_passes, is_pinned, map-set, length-map, unwrap_or, slice_index, find, take_while, position, position_or_len, is_free, position_is, position-none, candidates, victim_of, passed_by, unset, unset_all, is_clear, is_referenced, bare, is_left_out, free_from, slot_owners}
use Rattle.std.proofs.Math.Path.{fun_ext}
use Rattle.std.proofs.Math.ListN.{get_or-map as at-map}
use Rattle.shm_fault.specs.Placing.{free_slot}

-- a frame without its bytes
pub bare-at : (frames : List Frame) (f : ℕ) → frame_at (map bare frames) f ≡ bare (frame_at frames f)
bare-at frames f = at-map bare frames f no_frame

pub bare-set : (frames : List Frame) (f : ℕ) (x : Frame) → map bare (set frames f x) ≡ set (map bare frames) f (bare x)
bare-set frames f x = map-set bare frames f x

-- the clock looks at no byte
may-bare : (passes : PageRef → Bool) (pinned : Option ℕ) (frames : List Frame) → may_go passes pinned (map bare frames) ≡ may_go passes pinned frames
may-bare passes pinned frames = fun_ext (λ i. ap (λ (x : Frame). owner_passes passes x.owner && not (is_pinned pinned i)) (bare-at frames i))

pub candidates-bare : (passes : PageRef → Bool) (pinned : Option ℕ) (frames : List Frame) (hand : ℕ) → candidates passes pinned (map bare frames) hand ≡ candidates passes pinned frames hand
candidates-bare passes pinned frames hand = rw (length-map frames bare, may-bare passes pinned frames) refl

referenced-bare : (frames : List Frame) → is_referenced (map bare frames) ≡ is_referenced frames
referenced-bare frames = fun_ext (λ i. ap (λ (x : Frame). x.referenced) (bare-at frames i))

clear-bare : (frames : List Frame) → is_clear (map bare frames) ≡ is_clear frames
clear-bare frames = fun_ext (λ i. ap (λ (x : Frame). not x.referenced) (bare-at frames i))

pub victim-bare : (frames : List Frame) (list : List ℕ) → victim_of (map bare frames) list ≡ victim_of frames list
victim-bare frames list = ap (λ p. unwrap_or (find p list) (slice_index list 0)) (clear-bare frames)

pub passed-bare : (frames : List Frame) (list : List ℕ) → passed_by (map bare frames) list ≡ passed_by frames list
passed-bare frames list = ap (λ p. take_while p list) (referenced-bare frames)

pub unset-bare : (frames : List Frame) (list : List ℕ) → unset_all (map bare frames) list ≡ map bare (unset_all frames list)
unset-bare frames [] = refl
unset-bare frames (i ∷ list) =
    let one : unset (map bare frames) i ≡ map bare (unset frames i) = rw (bare-at frames i) (sym (bare-set frames i (record (frame_at frames i) { referenced = false }))) in
    rw one (unset-bare (unset frames i) list)

-- the first free frame
free-bare : (frames : List Frame) → position_or_len is_free (map bare frames) ≡ position_or_len is_free frames
free-bare [] = refl
free-bare (x ∷ xs) = ap (λ n. cond (not (is_free x)) (1 + n) 0) (free-bare xs)

pub position-bare : (frames : List Frame) → position is_free (map bare frames) ≡ position is_free frames
position-bare frames = rw (free-bare frames, length-map frames bare) refl

-- the least free slot of the lowest-numbered area that has one is the slot of which that is true
some-not : (o : Option PageRef) → is_some o ≡ true → is_none o ≡ false
some-not None e = cc
some-not (Some r) e = refl

none-free : (owners : List (Option PageRef)) → ((j : ℕ) → j < length owners → is_some (get_or owners j None) ≡ true) → position is_none owners ≡ None
none-free owners all = position-none is_none owners None (λ j lt. some-not (get_or owners j None) (all j lt))

first-from : (rows : List (List (Option PageRef))) (base : ℕ) (left_out : Option ℕ) (i j : ℕ) → i < length rows → j < length (get_or rows i [])
    → get_or (get_or rows i []) j None ≡ None → is_left_out left_out (base + i) ≡ false
    → ((a : ℕ) → a < i → is_left_out left_out (base + a) ≡ false → (n : ℕ) → n < length (get_or rows a []) → is_some (get_or (get_or rows a []) n None) ≡ true)
    → ((n : ℕ) → n < j → is_some (get_or (get_or rows i []) n None) ≡ true)
    → free_from base left_out rows ≡ Some (record { area = base + i; slot = j })
first-from [] base left_out i j there within free outside lowest least = absurd (omega (arith, there))
first-from (r ∷ rs) base left_out zero j there within free outside lowest least =
    let z : base + 0 ≡ base = omega arith in
    let out : is_left_out left_out base ≡ false = rw z at outside in
    let here : position is_none r ≡ Some j = position_is is_none r None j within (rw free refl) (λ n lt. some-not (get_or r n None) (least n lt)) in
    rw (out, here, z) refl
first-from (r ∷ rs) base left_out (suc i) j there within free outside lowest least =
    let s : (a : ℕ) → suc base + a ≡ base + suc a = λ a. omega arith in
    let rest : free_from (suc base) left_out rs ≡ Some (record { area = suc base + i; slot = j }) =
    first-from rs (suc base) left_out i j (omega (arith, there)) within free (rw (s i) outside) (λ a lt out. lowest (suc a) (omega (arith, lt)) (rw (s a) at out)) least in
    let z : base + 0 ≡ base = omega arith in
    elim (cases_Bool (is_left_out left_out base)) [
      | inl out ↦ rw out (rw (s i) at rest)
      | inr in_list ↦ (let full : position is_none r ≡ None = none-free r (lowest 0 (omega arith) (rw z in_list)) in rw (in_list, full) (rw (s i) at rest))
    ]

out-not : (left_out : Option ℕ) (area : ℕ) → is_left_out left_out area ≡ false → left_out ≢ Some area
out-not left_out area e same = let h : is_left_out (Some area) area ≡ false = rw same at e in false≢true (sym h ∙ eq-eqb area area refl)

not-out : (left_out : Option ℕ) (area : ℕ) → left_out ≢ Some area → is_left_out left_out area ≡ false
not-out None area n = refl
not-out (Some other) area n = ne_eqb other area (λ same. n (ap Some same))

pub found-free : (swap : SwapView) (left_out : Option ℕ) (k : Slot) → ((area : ℕ) → IsArea (area_at swap area)) → IsFirstFree swap left_out k → free_slot left_out (slot_owners swap) ≡ Some k
unfolding free_slot
found-free swap left_out k each first =
    let rows = slot_owners swap in
    let len : length rows ≡ length swap.areas = length-owners swap in
    let row = λ (area : ℕ). owners-at swap area in
    let z : (a : ℕ) → 0 + a ≡ a = λ a. omega arith in
    rw (z k.area) at (first-from rows 0 left_out k.area k.slot (rw len first.there.0)
    (rw (row k.area, (each k.area).owned) first.there.1)
    (rw (row k.area) first.free)
    (rw (z k.area) (not-out left_out k.area first.outside))
    (λ a lt out n l. rw (row a) (first.lowest a lt (out-not left_out a (rw (z a) at out)) n (rw (row a) at l)))
    (λ n lt. rw (row k.area) (first.least n lt)))
