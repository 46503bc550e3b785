-- The reply of a shmget: the segment that has its key, with the permission that it asks for; or a new one if none has the key.
use Rattle.shm_laws.proofs.Names.{◌≡◌, ◌≢◌, ◌⊎◌, ℕ, zero, suc, ◌+◌, ◌/◌, ◌%◌, ◌<◌, ℤ, pos, true, List, [], ◌∷◌, Option, Some, None, slice_get, refl, sym, ap, subst, ◌∙◌, inl, inr, arith, common_steps, true≢false, none-some, cases_Bool, cases_lt, Errno, GetFlags, ProcessCall, Shmget, Reply, Id, Event, Segment, Entry, Machine, Found, grants, wish_of, identifier, destroyed_in, destroyed_at, free_index, with_segment, look_segment, has_key, key_from, find_key, Caller, Outcome, caller_of, acts, gives, refuses, new_segment, shmget, is_refusal, IsMove, Stands, HasKey, IsCreated, IsFree, by-shmget}
use Rattle.shm_laws.proofs.Fresh.{made-at, never}
use Rattle.shm_laws.proofs.Looks.{holds, stands-at, at-stands}
use Rattle.shm_laws.proofs.Refusing.{by-move}
use Rattle.shm_laws.proofs.Fates.{IsShort, new-small}

-- THE SEARCH FOR A KEY

record HasIt (key j : ℕ) (o : Option Segment) : Type 0 where
  segment : Segment
  is : o ≡ Some segment
  found : look_segment j o ≡ Found j segment
  named : segment.key ≡ key

has-it : (key j : ℕ) (o : Option Segment) → has_key key o ≡ true → HasIt key j o
has-it key j None h = absurd (true≢false (sym h))
has-it key j (Some x) h = record { segment = x; is = refl; found = refl; named = grind (arith, common_steps) }

-- where a segment has the key one is found
key-there : (key j i : ℕ) (t : List Entry) (d : ℕ) (x : Segment) → slice_get t i ≡ holds d x → x.key ≡ key → (k : ℕ) × (y : Segment) × (key_from key j t ≡ Found k y)
key-there key j i [] d x is named = absurd (none-some _ is)
key-there key j zero (e ∷ es) d x is named = (j, x, grind (arith, common_steps))
key-there key j (suc i) (e ∷ es) d x is named =
    elim (cases_Bool (has_key key e.segment)) [
      | inl h ↦ (let a = has-it key j e.segment h in (j, a.segment, rw h a.found))
      | inr h ↦ (let rest = key-there key (j + 1) i es d x is named in (rest.0, rest.1, rw h rest.2))
    ]

-- and what is found has it
record KeyAt (key j i : ℕ) (x : Segment) (t : List Entry) : Type 0 where
  place : ℕ
  at : j + place ≡ i
  destroyed : ℕ
  held : slice_get t place ≡ holds destroyed x
  named : x.key ≡ key

key-leads : (key j i : ℕ) (x : Segment) (t : List Entry) → key_from key j t ≡ Found i x → KeyAt key j i x t
key-leads key j i x [] found = absurd (cc found)
key-leads key j i x (e ∷ es) found =
    elim (cases_Bool (has_key key e.segment)) [
      | inl h ↦
          let a = has-it key j e.segment h in
          let same : Found j a.segment ≡ Found i x = sym a.found ∙ (rw h at found) in
          let one : a.segment ≡ x = cc same in
          record {
            place = 0;
            at = let here : j ≡ i = cc same in omega (arith, here);
            destroyed = e.destroyed;
            held = ap (λ o. Some (record { destroyed = e.destroyed; segment = o })) (a.is ∙ ap (λ y. Some y) one);
            named = ap (λ (y : Segment). y.key) (sym one) ∙ a.named;
          }
      | inr h ↦
          let rest = key-leads key (j + 1) i x es (rw h at found) in
          record { place = suc rest.place; at = omega (arith, rest.at); destroyed = rest.destroyed; held = rest.held; named = rest.named }
    ]

-- a key that a segment has is found
pub has-found : (s : Machine) (id key : ℕ) → HasKey s id key → (k : ℕ) × (y : Segment) × (find_key s.table key ≡ Found k y)
has-found s id key has = key-there key 0 (id % 32768) s.table (id / 32768) has.segment (stands-at s.table id has.segment has.stands) has.keyed

-- WHAT IS ANSWERED

-- the segment that has the key, with what the mode asks for
pub record IsGot (s : Machine) (c : Caller) (key mode id : ℕ) : Type 0 where
  pub named : key ≢ 0
  pub segment : Segment
  pub stands : Stands s id segment
  pub keyed : segment.key ≡ key
  pub permitted : grants c.cred segment.perm (wish_of s.limits.rules mode) ≡ true

abbrev pub Gets : Machine → Caller → ℕ → ℕ → Reply → Machine → Type 0
Gets s c key mode r t = (answer : ℤ) → r ≡ Id answer → (id : ℕ) × (answer ≡ pos id) × (IsGot s c key mode id ⊎ IsCreated s key id t)

module _ (s : Machine) (n : ℕ) (c : Caller) (short : IsShort s.table) (mode : ℕ) where
  abbrev G : ℕ → Outcome → Type 0
  G key o = Gets s c key mode o.reply o.state

  none : (key : ℕ) (e : Errno) → G key (refuses s e)
  none key e answer told = absurd (cc told)

  -- the index is in the table's range
  small-at : (i d : ℕ) (x : Segment) → slice_get s.table i ≡ holds d x → i < 32768
  small-at i d x is =
      elim (cases_lt i 32768) [
        | inl small ↦ small
        | inr far ↦ absurd (none-some _ (sym (short i far) ∙ is))
      ]

  got : (key i : ℕ) (x : Segment) → key ≢ 0 → find_key s.table key ≡ Found i x → grants c.cred x.perm (wish_of s.limits.rules mode) ≡ true
      → G key (gives s (Id (pos (identifier i (destroyed_at s.table i)))))
  got key i x named found permitted answer told = (identifier i (destroyed_at s.table i), cc told, inl (record { named = named; segment = x; stands = stands; keyed = k.named; permitted = permitted }))
    where
      k : KeyAt key 0 i x s.table
      k = key-leads key 0 i x s.table found

      held : slice_get s.table i ≡ holds k.destroyed x
      held = let here : k.place ≡ i = omega (arith, k.at) in rw here at k.held

      small : i < 32768
      small = small-at i k.destroyed x held

      count : destroyed_at s.table i ≡ k.destroyed
      count = ap destroyed_in held

      stands : Stands s (identifier i (destroyed_at s.table i)) x
      stands =
          at-stands s.table (identifier i (destroyed_at s.table i)) x
          (let low : identifier i (destroyed_at s.table i) % 32768 ≡ i = omega (arith, small) in
          let high : identifier i (destroyed_at s.table i) / 32768 ≡ k.destroyed = omega (arith, small, count) in
          ap (slice_get s.table) low ∙ held ∙ ap (λ d. holds d x) (sym high))

  made : (key size i : ℕ) → (key ≡ 0) ⊎ ((other : ℕ) → HasKey s other key → ⊥) → free_index s.table ≡ Some i
      → G key (gives (record s { table = with_segment s.table i (new_segment n c key size mode) }) (Id (pos (identifier i (destroyed_at s.table i)))))
  made key size i free is answer told =
      let x = new_segment n c key size mode in
      let id = identifier i (destroyed_at s.table i) in
      let small = new-small s.table i short is in
      let low : id % 32768 ≡ i = omega (arith, small) in
      let high : id / 32768 ≡ destroyed_at s.table i = omega (arith, small) in
      let m = made-at s.table i x is in (
        id,
        cc told,
        inr (record {
          free = free;
          never = never s.table id (destroyed_at s.table i) (slice_get s.table i) (ap (slice_get s.table) low) m.empty (sym high);
          has =
              record {
                segment = x;
                stands = at-stands (with_segment s.table i x) id x (ap (slice_get (with_segment s.table i x)) low ∙ m.here ∙ ap (λ d. holds d x) (sym high));
                keyed = refl;
              };
        }),
      )

  -- a free key is one that no segment has
  free-key : (key : ℕ) → (key ≡ 0) ⊎ IsFree s.table key → (key ≡ 0) ⊎ ((other : ℕ) → HasKey s other key → ⊥)
  free-key key (inl none) = inl none
  free-key key (inr free) = inr (λ other has. let f = has-found s other key has in free f.0 f.1 f.2)

  shmget-gets : (key size : ℕ) (flags : GetFlags) → G key (shmget s n c key size mode flags)
  shmget-gets key size flags =
      by-shmget s n c size mode G (λ k e other. none k e) got (λ k i free some is. made k size i (free-key k free) is) key flags

  acts-gets : (call : ProcessCall) (key size : ℕ) (flags : GetFlags) → call ≡ Shmget key size mode flags → G key (acts s n c call)
  acts-gets call key size flags asked = subst (λ a. G key (acts s n c a)) (sym asked) (shmget-gets key size flags)

-- EACH MOVE

-- by a live process
pub record GetsBy (s : Machine) (pid key mode : ℕ) (answer : ℤ) (t : Machine) : Type 0 where
  pub caller : Caller
  pub live : caller_of s pid ≡ Some caller
  pub id : ℕ
  pub named : answer ≡ pos id
  pub either : IsGot s caller key mode id ⊎ IsCreated s key id t

pub gets-move : (s : Machine) (n : ℕ) (e : Event) (t : Machine) → IsShort s.table → IsMove s n e t
    → (key size mode : ℕ) (flags : GetFlags) (answer : ℤ) → e.call ≡ Shmget key size mode flags → e.reply ≡ Id answer → GetsBy s e.pid key mode answer t
gets-move s n e t short m key size mode flags answer asked =
    by-move s n e t (λ r u. r ≡ Id answer → GetsBy s e.pid key mode answer u)
    (λ c is told. let g = acts-gets s n c short mode e.call key size flags asked answer told in record { caller = c; live = is; id = g.0; named = g.1; either = g.2 })
    (λ r no told. absurd (true≢false (sym no ∙ ap is_refusal told))) m
