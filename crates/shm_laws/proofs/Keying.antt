-- A key leads to one segment.
use Rattle.shm_laws.proofs.Names.{◌≡◌, ◌≢◌, ◌⊎◌, ℕ, pos, Bool, true, false, ◌||◌, Option, Some, None, refl, sym, ap, ◌∙◌, inl, inr, Id, Event, Segment, Machine, find_key, Caller, caller_of, IsMove, IsMarked, HasKey, KeysAreApart, FindsByKey, KeepsKeys, IsFree}
use Rattle.shm_laws.proofs.Stepping.{made_by, Moved, removed}
use Rattle.shm_laws.proofs.Fates.{IsMachineSound, names, key_after}
use Rattle.shm_laws.proofs.Removing.{key-stays}
use Rattle.shm_laws.proofs.Naming.{Before, came-from}
use Rattle.shm_laws.proofs.Getting.{has-found, gets-move}

-- ONE MOVE

module _ (s : Machine) (e : Event) (id : ℕ) where
  -- who has a key other than 0 had it, or the event made it, and no segment had the key
  abbrev HadKey : ℕ → Type 0
  HadKey key = HasKey s id key ⊎ (IsFree s.table key × (e.reply ≡ Id (pos id)))

  free-made : (key : ℕ) (y : Segment) (o : Option Caller) → key ≢ 0 → y.key ≡ key → made_by s.table o e.call y → IsFree s.table key
  free-made key y None named is made = absurd made
  free-made key y (Some c) named is made = by made.free
    where
      by : (y.key ≡ 0) ⊎ IsFree s.table y.key → IsFree s.table key
      by (inl none) = absurd (named (sym is ∙ none))
      by (inr free) = λ i x found. free i x (ap (find_key s.table) is ∙ found)

  key-before : (key : ℕ) (y : Segment) → key ≢ 0 → y.key ≡ key → Before s e id y → HadKey key
  key-before key y named is (inr new) = inr (free-made key y (caller_of s e.pid) named is new.made, new.makes.1)
  key-before key y named is (inl old) = by (names (removed e.call e.reply) id) refl
    where
      by : (b : Bool) → names (removed e.call e.reply) id ≡ b → HadKey key
      by true h = absurd (named (sym is ∙ old.key ∙ ap (λ b. key_after b old.segment) h))
      by false h = inl (record { segment = old.segment; stands = old.stood; keyed = ap (λ b. key_after b old.segment) (sym h) ∙ sym old.key ∙ is })

  -- a marked segment has no key
  unkeyed : (y : Segment) → KeysAreApart s → y.dest ≡ true → Before s e id y → y.key ≡ 0
  unkeyed y apart dest (inr new) = absurd (cc (sym dest ∙ new.dest))
  unkeyed y apart dest (inl old) = by (names (removed e.call e.reply) id) refl
    where
      by : (b : Bool) → names (removed e.call e.reply) id ≡ b → y.key ≡ 0
      by true h = old.key ∙ ap (λ b. key_after b old.segment) h
      by false h =
          let mark : IsMarked s id = record { segment = old.segment; stands = old.stood; dest = ap (λ b. b || old.segment.dest) (sym h) ∙ sym old.dest ∙ dest } in
          let has = apart.marked id mark in
          let stood = old.stood in
          let there = has.stands in
          let one : has.segment ≡ old.segment = cc in
          old.key ∙ ap (λ b. key_after b old.segment) h ∙ ap (λ (x : Segment). x.key) (sym one) ∙ has.keyed

one-key : (s : Machine) (e : Event) (key a b : ℕ) → KeysAreApart s → key ≢ 0 → HadKey s e a key → HadKey s e b key → a ≡ b
one-key s e key a b apart named (inl h) (inl k) = apart.one key a b named h k
one-key s e key a b apart named (inl h) (inr k) = absurd (let f = has-found s a key h in k.0 f.0 f.1 f.2)
one-key s e key a b apart named (inr h) (inl k) = absurd (let f = has-found s b key k in h.0 f.0 f.1 f.2)
one-key s e key a b apart named (inr h) (inr k) = cc (sym h.1 ∙ k.1)

pub apart-after : (s : Machine) (e : Event) (t : Machine) → IsMachineSound s → Moved s e t → KeysAreApart s → KeysAreApart t
apart-after s e t sound k apart =
    record {
      one = λ key a b named h j.
          one-key s e key a b apart named
          (key-before s e a key h.segment named h.keyed (came-from s t e sound k a h.segment h.stands))
          (key-before s e b key j.segment named j.keyed (came-from s t e sound k b j.segment j.stands));
      marked = λ id mark. record { segment = mark.segment; stands = mark.stands; keyed = unkeyed s e id mark.segment apart mark.dest (came-from s t e sound k id mark.segment mark.stands) };
    }

pub keeps-keys : (s : Machine) (e : Event) (t : Machine) → IsMachineSound s → Moved s e t → KeepsKeys s e t
keeps-keys s e t sound k id key has = key-stays s t e sound k id has.segment has.stands key has.keyed

pub finds-by-key : (s : Machine) (n : ℕ) (e : Event) (t : Machine) → IsMachineSound s → IsMove s n e t → FindsByKey s e t
finds-by-key s n e t sound m key size mode flags answer asked told =
    let g = gets-move s n e t sound.short m key size mode flags answer asked told in (
      g.id,
      g.named,
      elim g.either [
        | inl h ↦ inl (record { named = h.named; has = record { segment = h.segment; stands = h.stands; keyed = h.keyed } })
        | inr h ↦ inr h
      ],
    )
