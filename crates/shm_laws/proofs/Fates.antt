-- What becomes of each index of the table in a step, and of what is kept.
use Rattle.shm_laws.proofs.Names.{length-replicate, if◌then◌else◌, ◌≡◌, ◌≢◌, ◌⊎◌, ℕ, ◌/◌, ◌%◌, ◌<◌, ◌≤◌, ◌==◌, ◌||◌, pos, Bool, false, List, replicate, Option, Some, None, slice_get, refl, sym, ap, subst, ◌∙◌, inl, inr, arith, eq-eqb, ne_eqb, common_steps, option_map, cases_eq, cases_lt, free_index, Reply, Id, Event, Segment, Entry, Runner, Machine, identifier, destroyed_in, with_segment, destroyed_at, attach_count, with_entry, marked, change, swept_at, caller_of, IsMove, orphan_in, orphan, IsSame, put, pieces_of_caller, swept, true}
use Rattle.shm_laws.proofs.Turning.{same_refl, set_in-here, set_in-there, swept_entry, swept-get, Turned, unchanged, turned-over, turned-as, entry-none}
use Rattle.shm_laws.proofs.Fresh.{IsEmpty, made-at, free-small}
use Rattle.shm_laws.proofs.Looks.{holds, stands-at}
use Rattle.shm_laws.proofs.Callers.{caller-there}
use Rattle.shm_laws.proofs.Refusing.{by-move, refused-removed, refused-put}
use Rattle.shm_laws.proofs.Stepping.{Bare, SweepTo, MakeTo, RemoveTo, IsIdle, Kind, over_put, overlay, MadeBy, made_by, Moved, removed, kind-acts, still}

-- WHAT EACH MOVE IS

pub kind-move : (s : Machine) (n : ℕ) (e : Event) (t : Machine) → Bare s.runners → IsMove s n e t → Moved s e t
kind-move s n e t bare =
    by-move s n e t (λ r u. Kind (over_put (pieces_of_caller (caller_of s e.pid)) (put e.call r)) (made_by s.table (caller_of s e.pid) e.call) s (removed e.call r) r u)
    (λ c is. rw is (kind-acts (MadeBy s.table c e.call) s n c (caller-there s e.pid c is) e.call bare
    (λ key size mode flags asked free some. record { mode = mode; flags = flags; asked = asked; free = free; some = some; pages = length-replicate _ 0; process = refl; user = refl; group = refl })))
    (λ r no. rw (refused-removed e.call r no, refused-put e.call r no) (still (made_by s.table (caller_of s e.pid) e.call) s r))

-- WHAT IS KEPT

abbrev pub IsShort : List Entry → Type 0
IsShort t = (i : ℕ) → 32768 ≤ i → slice_get t i ≡ None

-- a marked segment has a piece, a process that is not born has none, and no index from 32768 on was ever used
pub record IsMachineSound (s : Machine) : Type 0 where
  pub orphans : (i : ℕ) → i < 32768 → orphan s.runners s.table i ≡ false
  pub short : IsShort s.table
  pub bare : Bare s.runners

abbrev pub names : Option ℕ → ℕ → Bool
names None id = false
names (Some n) id = n == id

-- a mark takes the key
abbrev pub key_after : Bool → Segment → ℕ
key_after b x = if b then 0 else x.key

-- an index whose segment, if it has one, is swept; the segment is unchanged except for a mark
record Goes (over : List ℕ → List ℕ) (i : ℕ) (rs : List Runner) (b : Bool) (before after : Option Entry) : Type 0 where
  turn : Segment → Segment
  same : (x : Segment) → IsSame x (turn x)
  dest : (x : Segment) → (turn x).dest ≡ (b || x.dest)
  key : (x : Segment) → (turn x).key ≡ key_after b x
  bytes : (x : Segment) → (turn x).bytes ≡ over x.bytes
  at : after ≡ option_map (swept_entry i rs) (option_map (with_entry turn) before)

-- a segment that existed
pub record Stays (over : List ℕ → List ℕ) (i : ℕ) (rs : List Runner) (b : Bool) (d : ℕ) (x : Segment) (after : Option Entry) : Type 0 where
  pub now : Segment
  pub same : IsSame x now
  pub dest : now.dest ≡ (b || x.dest)
  pub key : now.key ≡ key_after b x
  pub bytes : now.bytes ≡ over x.bytes
  pub at : after ≡ Some (swept_at i rs d (Some now))

-- a new one
pub record IsNew (like : Segment → Type 0) (i : ℕ) (reply : Reply) (d : ℕ) (after : Option Entry) : Type 0 where
  pub now : Segment
  pub made : like now
  pub answer : reply ≡ Id (pos (identifier i d))
  pub dest : now.dest ≡ false
  pub zeros : (n : ℕ) × (now.bytes ≡ replicate n 0)
  pub at : after ≡ holds d now

record Comes (like : Segment → Type 0) (i : ℕ) (reply : Reply) (before after : Option Entry) : Type 0 where
  destroyed : ℕ
  empty : IsEmpty destroyed before
  new : IsNew like i reply destroyed after

empty-count : (d : ℕ) (o : Option Entry) → IsEmpty d o → destroyed_in o ≡ d
empty-count d o empty = grind arith

still-empty : (i : ℕ) (rs : List Runner) (f : Segment → Segment) (d : ℕ) (o : Option Entry) → IsEmpty d o → option_map (swept_entry i rs) (option_map (with_entry f) o) ≡ o
still-empty i rs f d o empty = grind arith

pub holds-empty : (d e : ℕ) (x : Segment) (o : Option Entry) → o ≡ holds d x → IsEmpty e o → ⊥
holds-empty d e x o is empty = grind arith

-- a swept segment has pieces or no mark
swept-sound : (i : ℕ) (rs : List Runner) (o : Option Entry) → orphan_in i rs (option_map (swept_entry i rs) o) ≡ false
swept-sound i rs o = grind arith

module _ (over : ℕ → List ℕ → List ℕ) (like : Segment → Type 0) (r : Option ℕ) (reply : Reply) (s t : Machine) (sound : IsMachineSound s) (i : ℕ) (small : i < 32768) where
  -- what becomes of the index
  abbrev Fate : Bool → Type 0
  Fate b = Goes (over i) i t.runners b (slice_get s.table i) (slice_get t.table i) ⊎ Comes like i reply (slice_get s.table i) (slice_get t.table i)

  fate-still : Turned (over i) s.table t.table i → ((id : ℕ) → 1 ≤ attach_count s.runners id → 1 ≤ attach_count t.runners id) → Fate false
  fate-still u kept = grind (arith, common_steps)

  -- it is swept, after a change of its entry
  fate-turned : (b : Bool) (f : Segment → Segment) (middle : List Entry) → IsIdle over → ((x : Segment) → IsSame x (f x)) → ((x : Segment) → (f x).dest ≡ (b || x.dest)) → ((x : Segment) → (f x).key ≡ key_after b x)
      → ((x : Segment) → (f x).bytes ≡ x.bytes) → slice_get middle i ≡ option_map (with_entry f) (slice_get s.table i) → t.table ≡ swept t.runners middle → Fate b
  fate-turned b f middle none same dest key bytes changed table =
      let at = ap (λ (es : List Entry). slice_get es i) table ∙ swept-get t.runners middle i ∙ ap (option_map (swept_entry i t.runners)) changed in
      inl (record { turn = f; same = same; dest = dest; key = key; bytes = λ x. bytes x ∙ sym (none i x.bytes); at = at })

  fate-swept : IsIdle over → SweepTo s t → Fate false
  fate-swept none k = let u = k.turned i in fate-turned false u.turn k.middle none u.same (λ x. (u.alike x).dest) (λ x. (u.alike x).key) u.bytes u.at k.table

  fate-made : IsIdle over → MakeTo like s reply t → Fate false
  fate-made none k =
      let m = made-at s.table k.index k.segment k.free in
      let table = ap (λ (es : List Entry). slice_get es i) k.table in
      elim (cases_eq k.index i) [
        | inl h ↦
            inr (record {
              destroyed = destroyed_at s.table k.index;
              empty = subst (IsEmpty (destroyed_at s.table k.index)) (ap (slice_get s.table) h) m.empty;
              new =
                  record {
                    now = k.segment;
                    made = k.made;
                    answer = k.answer ∙ (λ j. Id (pos (identifier (h j) (destroyed_at s.table k.index))));
                    dest = k.fresh;
                    zeros = k.zeros;
                    at = table ∙ sym (ap (slice_get (with_segment s.table k.index k.segment)) h) ∙ m.here;
                  };
            })
        | inr apart ↦
            fate-still (turned-over unchanged (over i) s.table t.table i (λ bytes. sym (none i bytes)) (turned-as s.table t.table i (table ∙ m.there i apart)))
            (λ id. rw k.runners (omega arith))
      ]

  fate-removed : (d id : ℕ) → destroyed_at s.table i ≡ d → IsIdle over → RemoveTo s t id → Fate (id == identifier i d)
  fate-removed d id count none k =
      elim (cases_eq (id % 32768) i) [
        | inl here ↦
            let there : slice_get s.table i ≡ holds (id / 32768) k.segment = rw here at (stands-at s.table id k.segment k.found) in
            let held : id / 32768 ≡ d = sym (ap destroyed_in there) ∙ count in
            let twice : (id % 32768) % 32768 ≡ i = omega (arith, here) in
            rw (eq-eqb id (identifier i d) (omega (arith, here, held)))
            (fate-turned true marked middle none (λ x. record { size = refl; cpid = refl; cuid = refl; cgid = refl }) (λ x. refl) (λ x. refl) (λ x. refl)
            (rw twice (set_in-here s.table i (with_entry marked) (slice_get s.table i) refl)) swept_to)
        | inr apart ↦
            let other : id ≢ identifier i d = λ same. apart (omega (arith, same, small)) in
            let twice : (id % 32768) % 32768 ≢ i = λ same. apart (omega (arith, same)) in
            rw (ne_eqb id (identifier i d) other)
            (fate-turned false (λ x. x) middle none same_refl (λ x. refl) (λ x. refl) (λ x. refl)
            (set_in-there s.table _ i (with_entry marked) _ twice ∙ sym (entry-none (slice_get s.table i))) swept_to)
      ]
    where
      middle : List Entry
      middle = change s.table (id % 32768) marked

      swept_to : t.table ≡ swept t.runners middle
      swept_to = rw k.runners k.table

  fate : (d : ℕ) → destroyed_at s.table i ≡ d → Kind over like s r reply t → Fate (names r (identifier i d))
  fate d count h2 = grind (arith, fate-still, fate-swept, fate-made, fate-removed)

  -- a segment that existed
  pub stays : (d : ℕ) (x : Segment) → Kind over like s r reply t → slice_get s.table i ≡ holds d x → Stays (over i) i t.runners (names r (identifier i d)) d x (slice_get t.table i)
  stays d x k is = by (fate d (ap destroyed_in is) k)
    where
      by : Fate (names r (identifier i d)) → Stays (over i) i t.runners (names r (identifier i d)) d x (slice_get t.table i)
      by (inl f) =
          let at = f.at ∙ ap (λ o. option_map (swept_entry i t.runners) (option_map (with_entry f.turn) o)) is in
          record { now = f.turn x; same = f.same x; dest = f.dest x; key = f.key x; bytes = f.bytes x; at = at }
      by (inr f) = absurd (holds-empty d f.destroyed x (slice_get s.table i) is f.empty)

  -- an index that held no segment
  pub comes : (d : ℕ) (o : Option Entry) → Kind over like s r reply t → slice_get s.table i ≡ o → IsEmpty d o → (slice_get t.table i ≡ o) ⊎ IsNew like i reply d (slice_get t.table i)
  comes d o k is empty = by (fate d count k)
    where
      count : destroyed_at s.table i ≡ d
      count = ap destroyed_in is ∙ empty-count d o empty

      by : Fate (names r (identifier i d)) → (slice_get t.table i ≡ o) ⊎ IsNew like i reply d (slice_get t.table i)
      by (inl f) = inl (f.at ∙ ap (λ e. option_map (swept_entry i t.runners) (option_map (with_entry f.turn) e)) is ∙ still-empty i t.runners f.turn d o empty)
      by (inr f) = inr (subst (λ n. IsNew like i reply n (slice_get t.table i)) (sym (empty-count f.destroyed (slice_get s.table i) f.empty) ∙ count) f.new)

  orphan-after : Kind over like s r reply t → orphan t.runners t.table i ≡ false
  orphan-after k = by (fate (destroyed_at s.table i) refl k)
    where
      by : Fate (names r (identifier i (destroyed_at s.table i))) → orphan t.runners t.table i ≡ false
      by (inl f) = ap (orphan_in i t.runners) f.at ∙ swept-sound i t.runners (option_map (with_entry f.turn) (slice_get s.table i))
      by (inr f) = ap (orphan_in i t.runners) f.new.at ∙ rw f.new.dest refl

-- what was never used is not used by these
short-turned : (over : List ℕ → List ℕ) (t u : List Entry) (i : ℕ) → Turned over t u i → slice_get t i ≡ None → slice_get u i ≡ None
short-turned over t u i k none = k.at ∙ ap (option_map (with_entry k.turn)) none

short-swept : (rs : List Runner) (t : List Entry) (i : ℕ) → slice_get t i ≡ None → slice_get (swept rs t) i ≡ None
short-swept rs t i none = swept-get rs t i ∙ ap (option_map (swept_entry i rs)) none

short-made : (t : List Entry) (k : ℕ) (x : Segment) → free_index t ≡ Some k → IsShort t → IsShort (with_segment t k x)
short-made t k x free short i far = by (cases_eq k i)
  where
    by : (k ≡ i) ⊎ (k ≢ i) → slice_get (with_segment t k x) i ≡ None
    by (inl here) = absurd (let small = free-small t k free (short k (omega (arith, here, far))) in omega (arith, here, far, small))
    by (inr apart) = (made-at t k x free).there i apart ∙ short i far

short-after : (s : Machine) (e : Event) (t : Machine) → Moved s e t → IsShort s.table → IsShort t.table
short-after s e t (inl (none, inl k)) short i far = short-turned (overlay s e i) s.table t.table i (k.turned i) (short i far)
short-after s e t (inl (none, inr (idle, inl k))) short i far =
    ap (λ (es : List Entry). slice_get es i) k.table ∙ short-swept t.runners k.middle i (short-turned unchanged s.table k.middle i (k.turned i) (short i far))
short-after s e t (inl (none, inr (idle, inr k))) short i far = ap (λ (es : List Entry). slice_get es i) k.table ∙ short-made s.table k.index k.segment k.free short i far
short-after s e t (inr (idle, k)) short i far =
    let there = set_in-there s.table ((k.id % 32768) % 32768) i (with_entry marked) (slice_get s.table ((k.id % 32768) % 32768)) (λ same. omega (arith, same, far)) in
    ap (λ (es : List Entry). slice_get es i) k.removes.table ∙ short-swept s.runners (change s.table (k.id % 32768) marked) i (there ∙ short i far)

-- a new segment's index
pub new-small : (t : List Entry) (i : ℕ) → IsShort t → free_index t ≡ Some i → i < 32768
new-small t i short free = by (cases_lt i 32768)
  where
    by : (i < 32768) ⊎ (32768 ≤ i) → i < 32768
    by (inl small) = small
    by (inr far) = free-small t i free (short i far)

bare-after : (s : Machine) (e : Event) (t : Machine) → Moved s e t → Bare s.runners → Bare t.runners
bare-after s e t h1 bare = grind (arith, common_steps)

pub sound-after : (s : Machine) (e : Event) (t : Machine) → Moved s e t → IsMachineSound s → IsMachineSound t
sound-after s e t k sound =
    record {
      orphans = λ i small. orphan-after (overlay s e) (made_by s.table (caller_of s e.pid) e.call) (removed e.call e.reply) e.reply s t sound i small k;
      short = short-after s e t k sound.short;
      bare = bare-after s e t k sound.bare;
    }
