-- Each move destroys exactly what is due, and a marked segment has a piece.
use Rattle.shm_laws.proofs.Names.{◌≡◌, ◌≤◌, ◌⊎◌, ℕ, suc, zero, ◌+◌, ◌/◌, ◌%◌, ◌==◌, ◌&&◌, ◌||◌, ◌≢◌, pos, Bool, true, false, List, [], ◌∷◌, map, Some, None, slice_get, refl, sym, ap, ◌∙◌, inl, inr, arith, eq-eqb, ne_eqb, cases_eq, common_steps, or_right, none-some, Process, Event, Segment, Runner, Machine, Opening, start_of, runner_at_start, identifier, attach_count, caller_of, Stands, IsGone, IsSame, MarkedHavePieces, IsDue, DestroysWhatIsDue, IsMarked, IsRemoval, HasKey}
use Rattle.shm_laws.proofs.Looks.{stands-at, at-stands, at-gone, not-both}
use Rattle.shm_laws.proofs.Stepping.{Bare, overlay, made_by, Moved, removed}
use Rattle.shm_laws.proofs.Fates.{IsMachineSound, names, key_after, Stays, stays}

-- WHERE A MACHINE STARTS

bare-start : (ps : List Process) → Bare (map runner_at_start ps)
bare-start [] k r is u = absurd (none-some r is)
bare-start (p ∷ ps) zero r is u = let same : runner_at_start p ≡ r = cc is in ap (λ (q : Runner). q.pieces) (sym same)
bare-start (p ∷ ps) (suc k) r is u = bare-start ps k r is u

pub sound-start : (o : Opening) → IsMachineSound (start_of o)
sound-start o = record { orphans = λ i small. refl; short = λ i far. refl; bare = bare-start o.processes }

-- WHAT IS MARKED

pub marked-pieces : (s : Machine) → IsMachineSound s → MarkedHavePieces s
marked-pieces s sound id x stands dest = grind (arith, common_steps)

-- ONE SEGMENT IN ONE MOVE

module _ (s t : Machine) (e : Event) (sound : IsMachineSound s) (k : Moved s e t) (id : ℕ) (x : Segment) (stood : Stands s id x) where
  own : identifier (id % 32768) (id / 32768) ≡ id
  own = omega arith

  after : Stays (overlay s e (id % 32768)) (id % 32768) t.runners (names (removed e.call e.reply) (identifier (id % 32768) (id / 32768))) (id / 32768) x (slice_get t.table (id % 32768))
  after = stays (overlay s e) (made_by s.table (caller_of s e.pid) e.call) (removed e.call e.reply) e.reply s t sound (id % 32768) (omega arith) (id / 32768) x k (stands-at s.table id x stood)

  pub same-runners : removed e.call e.reply ≡ Some id → t.runners ≡ s.runners
  same-runners h = grind arith

  -- it is swept
  abbrev goes : Bool
  goes = after.now.dest && (attach_count t.runners (identifier (id % 32768) (id / 32768)) == 0)

  stands-on : goes ≡ false → Stands t id after.now
  stands-on h = at-stands t.table id after.now (after.at ∙ rw h refl)

  goes-now : goes ≡ true → IsGone t id
  goes-now h = at-gone t.table id (id / 32768 + 1) None (after.at ∙ rw h refl) (omega arith)

  due : goes ≡ true → IsDue s e t id x
  due h = grind (arith, common_steps)

  pub just : IsGone t id → IsDue s e t id x
  just gone = grind (arith, common_steps, inl, due, inr, not-both, pos, after, stands-on)

  goes-by : after.now.dest ≡ true → attach_count t.runners id ≡ 0 → goes ≡ true
  goes-by dest none = rw (dest, own) (eq-eqb _ 0 none)

  pub must : IsDue s e t id x → IsGone t id
  must h1 = grind (arith, common_steps, own, goes-now, goes-by, same-runners, or_right)

  -- a segment that existed still exists as the same segment, or is destroyed
  pub stands-or-gone : ((y : Segment) × Stands t id y × IsSame x y) ⊎ IsGone t id
  stands-or-gone = grind (arith, common_steps, inl, inr, goes-now, after, stands-on)

  -- a marked segment is still marked, or destroyed
  marks : after.now.dest ≡ true → IsMarked t id ⊎ IsGone t id
  marks dest = by goes refl
    where
      by : (b : Bool) → goes ≡ b → IsMarked t id ⊎ IsGone t id
      by true h = inr (goes-now h)
      by false h = inl (record { segment = after.now; stands = stands-on h; dest = dest })

  -- the segment of a successful rmid is marked, or destroyed
  pub removal : removed e.call e.reply ≡ Some id → ((1 ≤ attach_count s.runners id) × IsMarked t id) ⊎ ((attach_count s.runners id ≡ 0) × IsGone t id)
  removal r = by (cases_eq (attach_count s.runners id) 0)
    where
      dest : after.now.dest ≡ true
      dest = after.dest ∙ ap (λ o. names o (identifier (id % 32768) (id / 32768)) || x.dest) r ∙ rw (eq-eqb id (identifier (id % 32768) (id / 32768)) (sym own)) refl

      same : attach_count t.runners id ≡ attach_count s.runners id
      same = ap (λ rs. attach_count rs id) (same-runners r)

      by : (attach_count s.runners id ≡ 0) ⊎ (attach_count s.runners id ≢ 0) → ((1 ≤ attach_count s.runners id) × IsMarked t id) ⊎ ((attach_count s.runners id ≡ 0) × IsGone t id)
      by (inl none) = inr (none, goes-now (goes-by dest (same ∙ none)))
      by (inr some) = inl (omega (arith, some), record { segment = after.now; stands = stands-on (rw (dest, own, same) (ne_eqb _ 0 some)); dest = dest })

  -- a key stays, or the segment is marked, or destroyed
  pub key-stays : (key : ℕ) → x.key ≡ key → HasKey t id key ⊎ (IsMarked t id ⊎ IsGone t id)
  key-stays key is = by goes (names (removed e.call e.reply) (identifier (id % 32768) (id / 32768))) refl refl
    where
      by : (g b : Bool) → goes ≡ g → names (removed e.call e.reply) (identifier (id % 32768) (id / 32768)) ≡ b → HasKey t id key ⊎ (IsMarked t id ⊎ IsGone t id)
      by true b h k = inr (inr (goes-now h))
      by false true h k = inr (inl (record { segment = after.now; stands = stands-on h; dest = after.dest ∙ ap (λ b. b || x.dest) k }))
      by false false h k = inl (record { segment = after.now; stands = stands-on h; keyed = after.key ∙ ap (λ b. key_after b x) k ∙ is })

  -- a mark stays
  pub mark-stays : x.dest ≡ true → IsMarked t id ⊎ IsGone t id
  mark-stays dest = marks (after.dest ∙ or_right _ x.dest dest)

-- a granted rmid finds its segment
pub removal-finds : (s t : Machine) (e : Event) (id : ℕ) → Moved s e t → IsRemoval e id → (x : Segment) × Stands s id x
removal-finds s t e id k r = grind (arith, common_steps)

-- ONE MOVE

pub destroys : (s : Machine) (e : Event) (t : Machine) → IsMachineSound s → IsMachineSound t → Moved s e t → DestroysWhatIsDue s e t
destroys s e t sound next k =
    record {
      just = λ id x stood gone. just s t e sound k id x stood gone;
      must = λ id x stood due. must s t e sound k id x stood due;
      marked = marked-pieces t next;
    }
