-- Bytes that are written at different places may be written in either order; at one place the last counts.
use Rattle.shm_outcomes.proofs.Names.{◌≡◌, ◌≢◌, ℕ, ◌%◌, suc, zero, true, false, List, [], ◌∷◌, ◌++◌, filter, Option, Some, None, slice_get, slice_set, option_map, refl, ap, sym, subst, ◌∙◌, arith, inl, inr, cases_Bool, cases_eq, common_steps, byte_set, entry_byte_set, set_in, attach_all, attached, change, with_entry, Entry, Machine, Segment, is_above, is_below, put, Write}

-- ONE ELEMENT OF A LIST

abbrev edited : {X : Type 0} → ℕ → (X → X) → List X → List X
edited i f [] = []
edited zero f (x ∷ xs) = f x ∷ xs
edited (suc i) f (x ∷ xs) = x ∷ edited i f xs

edited-set : (i : ℕ) (f : Entry → Entry) (t : List Entry) → set_in t i f (slice_get t i) ≡ edited i f t
edited-set i f [] = refl
edited-set zero f (e ∷ es) = refl
edited-set (suc i) f (e ∷ es) = grind (arith, common_steps, edited-set i f es)

edited-other : {X : Type 0} (i j : ℕ) (f g : X → X) (xs : List X) → i ≢ j → edited i f (edited j g xs) ≡ edited j g (edited i f xs)
edited-other i j f g [] apart = refl
edited-other zero zero f g (x ∷ xs) apart = absurd (apart refl)
edited-other zero (suc j) f g (x ∷ xs) apart = refl
edited-other (suc i) zero f g (x ∷ xs) apart = refl
edited-other (suc i) (suc j) f g (x ∷ xs) apart = ap (λ l. x ∷ l) (edited-other i j f g xs (λ h. apart (ap (λ (n : ℕ). suc n) h)))

-- edits that do the same in either order
edited-swap : {X : Type 0} (i j : ℕ) (f g : X → X) → ((x : X) → f (g x) ≡ g (f x)) → (xs : List X) → edited i f (edited j g xs) ≡ edited j g (edited i f xs)
edited-swap i j f g same [] = refl
edited-swap zero zero f g same (x ∷ xs) = ap (λ y. y ∷ xs) (same x)
edited-swap zero (suc j) f g same (x ∷ xs) = refl
edited-swap (suc i) zero f g same (x ∷ xs) = refl
edited-swap (suc i) (suc j) f g same (x ∷ xs) = ap (λ l. x ∷ l) (edited-swap i j f g same xs)

-- two edits of one element, which are two others one after another
edited-same : {X : Type 0} (i : ℕ) (f g h k : X → X) → ((x : X) → f (g x) ≡ h (k x)) → (xs : List X) → edited i f (edited i g xs) ≡ edited i h (edited i k xs)
edited-same i f g h k same [] = refl
edited-same zero f g h k same (x ∷ xs) = ap (λ y. y ∷ xs) (same x)
edited-same (suc i) f g h k same (x ∷ xs) = ap (λ l. x ∷ l) (edited-same i f g h k same xs)

edited-twice : {X : Type 0} (i : ℕ) (f g : X → X) → ((x : X) → f (g x) ≡ f x) → (xs : List X) → edited i f (edited i g xs) ≡ edited i f xs
edited-twice i f g same [] = refl
edited-twice zero f g same (x ∷ xs) = ap (λ y. y ∷ xs) (same x)
edited-twice (suc i) f g same (x ∷ xs) = ap (λ l. x ∷ l) (edited-twice i f g same xs)

set-other : (i j : ℕ) (a b : ℕ) (xs : List ℕ) → i ≢ j → slice_set (slice_set xs j b) i a ≡ slice_set (slice_set xs i a) j b
set-other i j a b [] apart = refl
set-other zero zero a b (x ∷ xs) apart = absurd (apart refl)
set-other zero (suc j) a b (x ∷ xs) apart = refl
set-other (suc i) zero a b (x ∷ xs) apart = refl
set-other (suc i) (suc j) a b (x ∷ xs) apart = ap (λ (l : List ℕ). x ∷ l) (set-other i j a b xs (λ h. apart (ap (λ (n : ℕ). suc n) h)))

set-twice : (i a b : ℕ) (xs : List ℕ) → slice_set (slice_set xs i b) i a ≡ slice_set xs i a
set-twice i a b [] = refl
set-twice zero a b (x ∷ xs) = refl
set-twice (suc i) a b (x ∷ xs) = ap (λ (l : List ℕ). x ∷ l) (set-twice i a b xs)

-- A TABLE

byte-other : (at to a b : ℕ) → at ≢ to → (e : Entry) → entry_byte_set at a (entry_byte_set to b e) ≡ entry_byte_set to b (entry_byte_set at a e)
byte-other at to a b apart e = by e.segment
  where
    by : (o : Option Segment) → record e { segment = option_map (byte_set at a) (option_map (byte_set to b) o) } ≡ record e { segment = option_map (byte_set to b) (option_map (byte_set at a) o) }
    by None = refl
    by (Some x) = ap (λ (l : List ℕ). record e { segment = Some (record x { bytes = l }) }) (set-other at to a b x.bytes apart)

byte-twice : (at a b : ℕ) (e : Entry) → entry_byte_set at a (entry_byte_set at b e) ≡ entry_byte_set at a e
byte-twice at a b e = by e.segment
  where
    by : (o : Option Segment) → record e { segment = option_map (byte_set at a) (option_map (byte_set at b) o) } ≡ record e { segment = option_map (byte_set at a) o }
    by None = refl
    by (Some x) = ap (λ (l : List ℕ). record e { segment = Some (record x { bytes = l }) }) (set-twice at a b x.bytes)

-- the table with a byte written
abbrev pub overwritten : List Entry → Write → List Entry
overwritten t w = set_in t w.index (entry_byte_set w.at w.byte) (slice_get t w.index)

overwritten-is : (t : List Entry) (w : Write) → overwritten t w ≡ edited w.index (entry_byte_set w.at w.byte) t
overwritten-is t w = edited-set w.index (entry_byte_set w.at w.byte) t

-- different places
abbrev AreApart : Write → Write → Type 0
AreApart v w = v.index ≡ w.index → v.at ≢ w.at

both-are : (t : List Entry) (v w : Write) → overwritten (overwritten t v) w ≡ edited w.index (entry_byte_set w.at w.byte) (edited v.index (entry_byte_set v.at v.byte) t)
both-are t v w = overwritten-is (overwritten t v) w ∙ ap (edited w.index (entry_byte_set w.at w.byte)) (overwritten-is t v)

table-other : (t : List Entry) (v w : Write) → AreApart v w → overwritten (overwritten t v) w ≡ overwritten (overwritten t w) v
table-other t v w apart =
    both-are t v w ∙ elim (cases_eq v.index w.index) [
      | inl same ↦
          subst
          (λ (i : ℕ). edited i (entry_byte_set w.at w.byte) (edited v.index (entry_byte_set v.at v.byte) t) ≡ edited v.index (entry_byte_set v.at v.byte) (edited i (entry_byte_set w.at w.byte) t))
          same
          (edited-same v.index (entry_byte_set w.at w.byte) (entry_byte_set v.at v.byte) (entry_byte_set v.at v.byte) (entry_byte_set w.at w.byte) (λ e. byte-other w.at v.at w.byte v.byte (λ h. apart same (sym h)) e) t)
      | inr other ↦ edited-other w.index v.index (entry_byte_set w.at w.byte) (entry_byte_set v.at v.byte) t (λ h. other (sym h))
    ] ∙ sym (both-are t w v)

table-twice : (t : List Entry) (v w : Write) → v.index ≡ w.index → v.at ≡ w.at → overwritten (overwritten t v) w ≡ overwritten t w
table-twice t v w index at =
    both-are t v w
    ∙ subst
    (λ (i : ℕ). edited w.index (entry_byte_set w.at w.byte) (edited i (entry_byte_set v.at v.byte) t) ≡ edited w.index (entry_byte_set w.at w.byte) t)
    (sym index)
    (subst
    (λ (a : ℕ). edited w.index (entry_byte_set w.at w.byte) (edited w.index (entry_byte_set a v.byte) t) ≡ edited w.index (entry_byte_set w.at w.byte) t)
    (sym at)
    (edited-twice w.index (entry_byte_set w.at w.byte) (entry_byte_set w.at v.byte) (byte-twice w.at w.byte v.byte) t))
    ∙ sym (overwritten-is t w)

-- a segment is attached before or after its byte is written
entry-swap : (n pid at b : ℕ) (e : Entry) → with_entry (attached n pid) (entry_byte_set at b e) ≡ entry_byte_set at b (with_entry (attached n pid) e)
entry-swap n pid at b e = by e.segment
  where
    by : (o : Option Segment) → record e { segment = option_map (attached n pid) (option_map (byte_set at b) o) } ≡ record e { segment = option_map (byte_set at b) (option_map (attached n pid) o) }
    by None = refl
    by (Some x) = refl

change-swap : (n pid id : ℕ) (t : List Entry) (w : Write) → change (overwritten t w) id (attached n pid) ≡ overwritten (change t id (attached n pid)) w
change-swap n pid id t w =
    let f : Entry → Entry = with_entry (attached n pid) in
    let g : Entry → Entry = entry_byte_set w.at w.byte in
    edited-set (id % 32768) f (overwritten t w)
    ∙ ap (edited (id % 32768) f) (overwritten-is t w)
    ∙ edited-swap (id % 32768) w.index f g (entry-swap n pid w.at w.byte) t
    ∙ sym (ap (edited w.index g) (edited-set (id % 32768) f t))
    ∙ sym (overwritten-is (change t id (attached n pid)) w)

pub attach-swap : (n pid : ℕ) (ids : List ℕ) (t : List Entry) (w : Write) → attach_all n pid (overwritten t w) ids ≡ overwritten (attach_all n pid t ids) w
attach-swap n pid [] t w = refl
attach-swap n pid (id ∷ ids) t w = ap (λ (u : List Entry). attach_all n pid u ids) (change-swap n pid id t w) ∙ attach-swap n pid ids (change t id (attached n pid)) w

-- A MACHINE

abbrev pub with_write : Machine → Write → Machine
with_write s w = record s { table = overwritten s.table w }

-- the machine after these bytes were written, one after another
abbrev pub written : Machine → List Write → Machine
written s [] = s
written s (w ∷ ws) = written (with_write s w) ws

other-order : (s : Machine) (v w : Write) → AreApart v w → with_write (with_write s v) w ≡ with_write (with_write s w) v
other-order s v w apart = ap (λ (t : List Entry). record s { table = t }) (table-other s.table v w apart)

last-counts : (s : Machine) (v w : Write) → v.index ≡ w.index → v.at ≡ w.at → with_write (with_write s v) w ≡ with_write s w
last-counts s v w index at = ap (λ (t : List Entry). record s { table = t }) (table-twice s.table v w index at)

written-append : (s : Machine) (xs ys : List Write) → written s (xs ++ ys) ≡ written (written s xs) ys
written-append s [] ys = refl
written-append s (x ∷ xs) ys = written-append (with_write s x) xs ys

-- a byte may be written after those that are below another, if it is at none of their places
across : (s : Machine) (v w : Write) → ((u : Write) → is_below w u ≡ true → AreApart v u) → (ws : List Write)
    → written (with_write s v) (filter (is_below w) ws) ≡ with_write (written s (filter (is_below w) ws)) v
across s v w apart [] = refl
across s v w apart (u ∷ us) =
    elim (cases_Bool (is_below w u)) [
      | inl yes-below ↦
          rw yes-below (ap (λ (m : Machine). written m (filter (is_below w) us)) (other-order s v u (apart u yes-below)) ∙ across (with_write s u) v w apart us)
      | inr not-below ↦ rw not-below (across s v w apart us)
    ]

below-apart : (w u : Write) → is_below w u ≡ true → AreApart w u
below-apart w u below index at = grind (arith, below, index, at)

above-apart : (w v : Write) → is_above w v ≡ true → AreApart v w
above-apart w v above index at = grind (arith, above, index, at)

above-below : (w v u : Write) → is_above w v ≡ true → is_below w u ≡ true → AreApart v u
above-below w v u above below index at = grind (arith, above, below, index, at)

abbrev IsThere : Write → Write → Type 0
IsThere v w = (v.index ≡ w.index) × (v.at ≡ w.at)

which : (w v : Write) → is_below w v ≡ false → is_above w v ≡ false → IsThere v w
which w v below above = (grind (arith, below, above), grind (arith, below, above))

not-both : (w v : Write) → is_above w v ≡ true → is_below w v ≡ false
not-both w v above = grind (arith, above)

-- writing a byte among the others in order is writing it last
pub put-last : (s : Machine) (w : Write) (ws : List Write) → written s (put w ws) ≡ with_write (written s ws) w
put-last s w [] = refl
put-last s w (v ∷ vs) =
    let b : List Write = filter (is_below w) vs in
    let a : List Write = filter (is_above w) vs in
    let rest : written (with_write (written (with_write s v) b) w) a ≡ with_write (written (with_write s v) vs) w =
    sym (written-append (with_write s v) b (w ∷ a)) ∙ put-last (with_write s v) w vs in
    elim (cases_Bool (is_below w v)) [
      | inl below ↦
          let above : is_above w v ≡ false = grind (arith, below) in
          rw (below, above) (put-last (with_write s v) w vs)
      | inr not-below ↦
          elim (cases_Bool (is_above w v)) [
            | inl above ↦
                rw (not-below, above)
                (written-append s b (w ∷ v ∷ a)
                ∙ ap (λ (m : Machine). written m a) (other-order (written s b) w v (λ i h. above-apart w v above (sym i) (sym h)))
                ∙ ap (λ (m : Machine). written (with_write m w) a) (sym (across s v w (λ u below. above-below w v u above below) vs))
                ∙ rest)
            | inr not-above ↦
                let there = which w v not-below not-above in
                rw (not-below, not-above)
                (written-append s b (w ∷ a)
                ∙ ap (λ (m : Machine). written m a) (sym (last-counts (written s b) v w there.0 there.1))
                ∙ ap (λ (m : Machine). written (with_write m w) a) (sym (across s v w (λ u below i h. below-apart w u below (sym there.0 ∙ i) (sym there.1 ∙ h)) vs))
                ∙ rest)
          ]
    ]
