-- An identifier names one segment.
use Rattle.shm_laws.proofs.Names.{◌≡◌, ◌⊎◌, ℕ, ◌/◌, ◌%◌, ◌<◌, ◌||◌, pos, false, List, [], ◌∷◌, ◌++◌, replicate, Option, Some, None, slice_get, refl, sym, ap, subst, ◌∙◌, inl, inr, arith, common_steps, Id, Event, Segment, Entry, Runner, Machine, Opening, start_of, Invalid, identifier, destroyed_in, look, swept_at, Caller, caller_of, IsHistory, segment_in, Stands, IsGone, Since, Began, Lasted, IsSame, KeepsNames, NamesAnew, IsMadeBy, StandsAs, Makes, caller-at}
use Rattle.shm_laws.specs.Identity.{AreMade}
use Rattle.shm_laws.proofs.Fresh.{IsEmpty, never}
use Rattle.shm_laws.proofs.Turning.{same_refl, same_trans}
use Rattle.shm_laws.proofs.Inducting.{since-map}
use Rattle.shm_laws.proofs.Looks.{holds, bare_entry, stands-at, at-stands, at-gone, entry-gone}
use Rattle.shm_laws.proofs.Stepping.{overlay, made_by, Moved, removed}
use Rattle.shm_laws.proofs.Fates.{IsMachineSound, IsNew, Stays, names, key_after, stays, comes, holds-empty}
use Rattle.shm_laws.proofs.Removing.{stands-or-gone}

-- WHERE A SEGMENT COMES FROM IN ONE MOVE

-- a segment that existed, whose bytes became the present ones
pub record Stood (s : Machine) (e : Event) (id : ℕ) (y : Segment) : Type 0 where
  pub segment : Segment
  pub stood : Stands s id segment
  pub same : IsSame segment y
  pub dest : y.dest ≡ (names (removed e.call e.reply) id || segment.dest)
  pub key : y.key ≡ key_after (names (removed e.call e.reply) id) segment
  pub bytes : y.bytes ≡ overlay s e (id % 32768) segment.bytes

-- one that was made
pub record Made (s : Machine) (e : Event) (id : ℕ) (y : Segment) : Type 0 where
  pub makes : Makes s e id
  pub dest : y.dest ≡ false
  pub zeros : (n : ℕ) × (y.bytes ≡ replicate n 0)
  pub made : made_by s.table (caller_of s e.pid) e.call y

abbrev pub Before : Machine → Event → ℕ → Segment → Type 0
Before s e id y = Stood s e id y ⊎ Made s e id y

module _ (s t : Machine) (e : Event) (sound : IsMachineSound s) (k : Moved s e t) (id : ℕ) where
  small : id % 32768 < 32768
  small = omega arith

  gone-swept : (rs : List Runner) (d : ℕ) (y : Segment) → id / 32768 < d → slice_get t.table (id % 32768) ≡ Some (swept_at (id % 32768) rs d (Some y)) → IsGone t id
  gone-swept rs d y past at = grind (arith, common_steps)

  gone-entry : (d : ℕ) (p : Option Segment) → slice_get s.table (id % 32768) ≡ Some (record { destroyed = d; segment = p }) → id / 32768 < d → IsGone t id
  gone-entry d (Some x) is past =
      let q = stays (overlay s e) (made_by s.table (caller_of s e.pid) e.call) (removed e.call e.reply) e.reply s t sound (id % 32768) small d x k is in gone-swept t.runners d q.now past q.at
  gone-entry d None is past =
      elim (comes (overlay s e) (made_by s.table (caller_of s e.pid) e.call) (removed e.call e.reply) e.reply s t sound (id % 32768) small d (bare_entry d) k is (inl refl)) [
        | inl h ↦ at-gone t.table id d None h past
        | inr h ↦ at-gone t.table id d (Some h.now) h.at past
      ]

  gone-on : IsGone s id → IsGone t id
  gone-on gone = grind (arith, common_steps, entry-gone, gone-entry)

  own : identifier (id % 32768) (id / 32768) ≡ id
  own = omega arith

  -- what is held after a sweep was held before it
  unswept : (d : ℕ) (y z : Segment) → Some (swept_at (id % 32768) t.runners d (Some z)) ≡ holds (id / 32768) y → (d ≡ id / 32768) × (z ≡ y)
  unswept d y z now = grind (arith, common_steps)

  -- a segment that existed
  was-swept : (d : ℕ) (x y : Segment) → slice_get s.table (id % 32768) ≡ holds d x → (q : Stays (overlay s e (id % 32768)) (id % 32768) t.runners (names (removed e.call e.reply) (identifier (id % 32768) d)) d x (slice_get t.table (id % 32768)))
      → slice_get t.table (id % 32768) ≡ holds (id / 32768) y → Before s e id y
  was-swept d x y is q at =
      let same = unswept d y q.now (sym q.at ∙ at) in
      let held : slice_get s.table (id % 32768) ≡ holds (id / 32768) x = is ∙ ap (λ n. holds n x) same.0 in
      let named : identifier (id % 32768) d ≡ id = ap (identifier (id % 32768)) same.0 ∙ own in
      inl (record {
        segment = x;
        stood = at-stands s.table id x held;
        same = subst (IsSame x) same.1 q.same;
        dest = ap (λ (w : Segment). w.dest) (sym same.1) ∙ q.dest ∙ ap (λ n. names (removed e.call e.reply) n || x.dest) named;
        key = ap (λ (w : Segment). w.key) (sym same.1) ∙ q.key ∙ ap (λ n. key_after (names (removed e.call e.reply) n) x) named;
        bytes = ap (λ (w : Segment). w.bytes) (sym same.1) ∙ q.bytes;
      })

  -- a segment that is new
  was-empty : (y : Segment) → slice_get t.table (id % 32768) ≡ holds (id / 32768) y → (d : ℕ) (o : Option Entry) → slice_get s.table (id % 32768) ≡ o → IsEmpty d o
      → Before s e id y
  was-empty y at d o is empty = either (comes (overlay s e) (made_by s.table (caller_of s e.pid) e.call) (removed e.call e.reply) e.reply s t sound (id % 32768) small d o k is empty)
    where
      either : (slice_get t.table (id % 32768) ≡ o) ⊎ IsNew (made_by s.table (caller_of s e.pid) e.call) (id % 32768) e.reply d (slice_get t.table (id % 32768)) → Before s e id y
      either (inl h) = absurd (holds-empty (id / 32768) d y o (sym h ∙ at) empty)
      either (inr h) =
          let same : holds d h.now ≡ holds (id / 32768) y = sym h.at ∙ at in
          let count : d ≡ id / 32768 = ap destroyed_in same in
          let numbered : identifier (id % 32768) d ≡ id = ap (identifier (id % 32768)) count ∙ own in
          let segment : h.now ≡ y = cc (ap segment_in same) in
          inr (record {
            makes = (never s.table id d o is empty count, h.answer ∙ ap (λ n. Id (pos n)) numbered);
            dest = ap (λ (w : Segment). w.dest) (sym segment) ∙ h.dest;
            zeros = (h.zeros.0, ap (λ (w : Segment). w.bytes) (sym segment) ∙ h.zeros.1);
            made = subst (made_by s.table (caller_of s e.pid) e.call) segment h.made;
          })

  was-entry : (y : Segment) → slice_get t.table (id % 32768) ≡ holds (id / 32768) y → (d : ℕ) (p : Option Segment) → slice_get s.table (id % 32768) ≡ Some (record { destroyed = d; segment = p }) → Before s e id y
  was-entry y at d (Some x) is =
      was-swept d x y is (stays (overlay s e) (made_by s.table (caller_of s e.pid) e.call) (removed e.call e.reply) e.reply s t sound (id % 32768) small d x k is) at
  was-entry y at d None is = was-empty y at d (bare_entry d) is (inl refl)

  was-before : (y : Segment) → slice_get t.table (id % 32768) ≡ holds (id / 32768) y → (o : Option Entry) → slice_get s.table (id % 32768) ≡ o → Before s e id y
  was-before y at None is = was-empty y at 0 None is (inr (refl, refl))
  was-before y at (Some x) is = was-entry y at x.destroyed x.segment is

  -- a segment that exists existed before, with bytes that became these, or was made
  pub came-from : (y : Segment) → Stands t id y → Before s e id y
  came-from y stands = was-before y (stands-at t.table id y stands) (slice_get s.table (id % 32768)) refl

  named : (y : Segment) → Stands t id y → ((x : Segment) × Stands s id x × IsSame x y) ⊎ (look s.table (pos id) ≡ Invalid)
  named y stands =
      elim (came-from y stands) [
        | inl h ↦ inl (h.segment, h.stood, h.same)
        | inr h ↦ inr h.makes.0
      ]

-- KEPT FROM ONE TIME TO ANOTHER

pub keeps-refl : (s : Machine) → KeepsNames s s
keeps-refl s = record { stands = λ id x h. inl (x, h, same_refl x); gone = λ id h. h }

pub keeps-trans : (s u t : Machine) → KeepsNames s u → KeepsNames u t → KeepsNames s t
keeps-trans s u t a b = grind (arith, common_steps)

-- WHAT ONE MOVE DOES TO THE NAMES OF ALL SEGMENTS

pub keeps-names : (s : Machine) (e : Event) (t : Machine) → IsMachineSound s → Moved s e t → KeepsNames s t
keeps-names s e t sound k = record { stands = λ id x stood. stands-or-gone s t e sound k id x stood; gone = λ id h. gone-on s t e sound k id h }

pub names-anew : (s : Machine) (e : Event) (t : Machine) → IsMachineSound s → Moved s e t → NamesAnew s e t
names-anew s e t sound k = record { new = λ id y stands. named s t e sound k id y stands }

-- WHO MADE IT

made-now : (s : Machine) (e : Event) (id : ℕ) (y : Segment) → Made s e id y → IsMadeBy s e id y
made-now s e id y m = by (caller_of s e.pid) refl m.made
  where
    by : (o : Option Caller) → caller_of s e.pid ≡ o → made_by s.table o e.call y → IsMadeBy s e id y
    by None is none = absurd none
    by (Some c) is made =
        let at = caller-at e.pid s.runners c is in
        record {
          key = y.key;
          mode = made.mode;
          flags = made.flags;
          call = made.asked;
          reply = m.makes.1;
          never = m.makes.0;
          process = sym at.own ∙ sym made.process;
          caller = c;
          live = is;
          user = made.user;
          group = made.group;
        }

since-same : (o : Opening) (before : List Event) (id : ℕ) (x y : Segment) → IsSame x y → Since o (λ u e. IsMadeBy u e id x) (λ u e. StandsAs u id x) before → Since o (λ u e. IsMadeBy u e id y) (λ u e. StandsAs u id y) before
since-same o before id x y same since = grind (arith, common_steps, since-map, same_trans)

-- kept by each move
pub made-on : (o : Opening) (before : List Event) (s : Machine) (e : Event) (t : Machine) → IsHistory o before s → IsMachineSound s → Moved s e t → AreMade o before s → AreMade o (before ++ e ∷ []) t
unfolding AreMade
made-on o before s e t h sound k made id y stands = from (came-from s t e sound k id y stands)
  where
    from : Before s e id y → Since o (λ u e. IsMadeBy u e id y) (λ u e. StandsAs u id y) (before ++ e ∷ [])
    from (inr new) = Began before s e h (made-now s e id y new)
    from (inl old) = Lasted before s e h (old.segment, old.stood, old.same) (since-same o before id old.segment y old.same (made id old.segment old.stood))

pub made-start : (o : Opening) → AreMade o [] (start_of o)
unfolding AreMade
made-start o id y stands = absurd (cc stands)
