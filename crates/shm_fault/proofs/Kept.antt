-- All identifiers are different, after any addition, drop or change.
use Rattle.shm_fault.proofs.Names.{◌≡◌, ◌≢◌, ℕ, zero, suc, ◌<◌, Bool, true, false, List, [], ◌∷◌, length, get_or, set, drop, map, Some, option_map, refl, ◌∙◌, inl, inr, ne_eqb, arith, common_steps, eqb_tells, drop_more, slice_get_read, slice_get, Held, find_held, is_held, without, lock_changed, with_lock, AreHeldApart}

pub true_false : true ≡ false → ⊥
true_false e = cc

-- AN IDENTIFIER THAT IS FOUND, OR IS NOT

-- what is found under an identifier has it
pub find_held-id : (hs : List Held) (id : ℕ) (g : Held) → find_held hs id ≡ Some g → g.id ≡ id
find_held-id [] id g found = cc
find_held-id (h ∷ hs) id g found = grind (arith, common_steps, (find_held-id hs id g))

-- a segment in the list is held
pub stands-held : (hs : List Held) (i : ℕ) (g : Held) → slice_get hs i ≡ Some g → is_held hs g.id ≡ true
stands-held [] i g at = cc
stands-held (h ∷ hs) zero g at = grind (arith, common_steps)
stands-held (h ∷ hs) (suc i) g at = grind (arith, common_steps, (stands-held hs i g at))

-- the search from a place on finds the segment there
pub found_here : (hs : List Held) (i : ℕ) (g : Held) (id : ℕ) → i < length hs → g ≡ get_or hs i g → g.id ≡ id → find_held (drop i hs) id ≡ find_held hs id → find_held hs id ≡ slice_get hs i
found_here hs i g id within is own rest = grind (arith, common_steps, drop_more, slice_get_read)

-- DROPPED

held-without : (hs : List Held) (id at : ℕ) → is_held hs at ≡ false → is_held (without hs id) at ≡ false
held-without [] id at none = refl
held-without (h ∷ hs) id at none = grind (arith, common_steps, (held-without hs id at))

pub apart-without : (hs : List Held) (id : ℕ) → AreHeldApart hs → AreHeldApart (without hs id)
apart-without [] id apart = tt
apart-without (h ∷ hs) id apart = grind (arith, common_steps, (apart-without hs id apart.1), eqb_tells, held-without)

-- CHANGED

-- a change that leaves identifiers
abbrev pub KeepsId : (Held → Held) → Type 0
KeepsId f = (g : Held) → (f g).id ≡ g.id

pub find-map : (f : Held → Held) → KeepsId f → (hs : List Held) (id : ℕ) → find_held (map f hs) id ≡ option_map f (find_held hs id)
find-map f keeps [] id = refl
find-map f keeps (h ∷ hs) id = grind (arith, common_steps, (find-map f keeps hs id))

pub held-map : (f : Held → Held) → KeepsId f → (hs : List Held) (id : ℕ) → is_held (map f hs) id ≡ is_held hs id
held-map f keeps [] id = refl
held-map f keeps (h ∷ hs) id = grind (arith, common_steps, (held-map f keeps hs id))

pub apart-map : (f : Held → Held) → KeepsId f → (hs : List Held) → AreHeldApart hs → AreHeldApart (map f hs)
apart-map f keeps [] apart = tt
apart-map f keeps (h ∷ hs) apart = (rw (keeps h) (held-map f keeps hs h.id ∙ apart.0), apart-map f keeps hs apart.1)

-- a change of the segments with an identifier, of which none is held
map-none : (f : Held → Held) (id : ℕ) → ((g : Held) → g.id ≢ id → f g ≡ g) → (hs : List Held) → is_held hs id ≡ false → map f hs ≡ hs
map-none f id others [] none = refl
map-none f id others (h ∷ hs) none = grind (arith, common_steps, (map-none f id others hs))

-- the segment with an identifier is changed at its place
pub map-set : (f : Held → Held) (id : ℕ) → ((g : Held) → g.id ≢ id → f g ≡ g) → (hs : List Held) (i : ℕ) (g : Held)
    → AreHeldApart hs → find_held hs id ≡ slice_get hs i → slice_get hs i ≡ Some g → map f hs ≡ set hs i (f g)
map-set f id others [] i g apart found at = refl
map-set f id others (h ∷ hs) zero g apart found at = grind (arith, common_steps, find_held-id, map-none)
map-set f id others (h ∷ hs) (suc i) g apart found at = grind (arith, common_steps, (map-set f id others hs i g apart.1), eqb_tells, true_false, stands-held)

-- the same, by the elements before and after it
pub set-map : (f : Held → Held) (id : ℕ) → ((g : Held) → g.id ≢ id → f g ≡ g) → (hs : List Held) (i : ℕ) (g y : Held)
    → AreHeldApart hs → find_held hs id ≡ slice_get hs i → i < length hs → g ≡ get_or hs i g → (g.id ≡ id → y ≡ f g) → set hs i y ≡ map f hs
set-map f id others hs i g y apart found within is after = grind (arith, common_steps, slice_get_read, set, find_held-id, map-set)

-- A LOCK SET

lock_changed-others : (id : ℕ) (locked : Bool) (g : Held) → g.id ≢ id → lock_changed id locked g ≡ g
lock_changed-others id locked g other = rw (ne_eqb g.id id other) refl

lock_changed-keeps : (id : ℕ) (locked : Bool) → KeepsId (lock_changed id locked)
lock_changed-keeps id locked g = elim (eqb_tells g.id id) [ inl w ↦ rw w.0 refl | inr w ↦ rw w.0 refl ]

pub lock-set : (hs : List Held) (id i : ℕ) (locked : Bool) (g y : Held) → AreHeldApart hs → find_held hs id ≡ slice_get hs i → i < length hs → g ≡ get_or hs i g → y ≡ record g { locked = locked }
    → set hs i y ≡ with_lock hs id locked
lock-set hs id i locked g y apart found within is after = grind (arith, common_steps, set-map, lock_changed-others)

pub apart-lock : (hs : List Held) (id : ℕ) (locked : Bool) → AreHeldApart hs → AreHeldApart (with_lock hs id locked)
apart-lock hs id locked apart = apart-map (lock_changed id locked) (lock_changed-keeps id locked) hs apart
