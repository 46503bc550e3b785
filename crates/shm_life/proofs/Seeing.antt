-- A table seen with other times, and with the bytes of some segments hidden: what it counts and finds, and how it changes.
use Rattle.shm_life.proofs.Names.{◌≡◌, ℕ, suc, zero, ◌+◌, ◌/◌, ◌%◌, ◌==◌, ◌&&◌, ℤ, pos, negsuc, Bool, true, false, is_none, cond, if◌then◌else◌, List, [], ◌∷◌, ◌++◌, length, replicate, Option, Some, None, slice_get, slice_set, refl, sym, ap, ◌∙◌, inl, inr, arith, cases_Bool, cases_eq, common_steps, length-replicate, sum_by-cons, Place, set_in, entry_byte_set, with_byte, stored, byte_at, loaded, Look, Found, Removed, Invalid, destroyed_at, find_key, free_from, has_key, key_from, look, look_entry, look_segment, with_segment, attach_all, attached, change, change_all, detach_all, detached, locked, locked_by_user, pages_held, pages_locked, pages_locked_by, reserved, segment_count, swept_at, swept_from, with_entry, Entry, Runner, Segment, pages_in, get-set_other, get-set_same, length-slice_set, is_some, option_map, sum_by}

-- a segment with other times, and with its bytes hidden or not
abbrev pub seen : (ℕ → ℕ) → Bool → Segment → Segment
seen time hides x =
    record x { atime = time x.atime; dtime = time x.dtime; ctime = time x.ctime; bytes = if hides then replicate (length x.bytes) 0 else x.bytes }

-- an entry, whose bytes are hidden by how many segments were destroyed at it
abbrev pub seen_entry : (ℕ → ℕ) → (ℕ → Bool) → Entry → Entry
seen_entry time hides e = record e { segment = option_map (seen time (hides e.destroyed)) e.segment }

-- a table, whose bytes are hidden by the index, and by how many segments were destroyed there
abbrev pub seen_table : (ℕ → ℕ) → (ℕ → ℕ → Bool) → List Entry → List Entry
seen_table time hidden [] = []
seen_table time hidden (e ∷ es) = seen_entry time (hidden 0) e ∷ seen_table time (λ i. hidden (suc i)) es

-- what a look finds in it
abbrev pub seen_look : (ℕ → ℕ) → Bool → Look → Look
seen_look time b (Found i x) = Found i (seen time b x)
seen_look time b Removed = Removed
seen_look time b Invalid = Invalid

-- whether the bytes of a place's segment are hidden
abbrev pub is_hidden : (ℕ → ℕ → Bool) → List Entry → Place → Bool
is_hidden hidden t q = hidden (q.seg % 32768) (destroyed_at t (q.seg % 32768))

-- for `true`, the bytes at each of these places are hidden; for `false`, those at none are
abbrev pub AreHidden : (ℕ → ℕ → Bool) → Bool → List Entry → List Place → Type 0
AreHidden hidden b t qs = (k : ℕ) (q : Place) → slice_get qs k ≡ Some q → is_hidden hidden t q ≡ b

-- an entry is set to what it is
set-same : (t : List Entry) (i : ℕ) (e : Entry) → slice_get t i ≡ Some e → slice_set t i e ≡ t
set-same [] i e is = refl
set-same (x ∷ xs) zero e is = grind arith
set-same (x ∷ xs) (suc i) e is = ap (λ ys. x ∷ ys) (set-same xs i e is)

-- a stored byte changes no count of destroyed segments
byte-destroyed : (t : List Entry) (q : Place) (v i : ℕ) → destroyed_at (with_byte t q v) i ≡ destroyed_at t i
byte-destroyed t q v i = by (slice_get t (q.seg % 32768)) refl
  where
    k : ℕ
    k = q.seg % 32768

    by : (o : Option Entry) → slice_get t k ≡ o → destroyed_at (set_in t k (entry_byte_set q.at v) o) i ≡ destroyed_at t i
    by None is = refl
    by (Some e) is = grind (arith, cases_eq k i, get-set_same t k (entry_byte_set q.at v e) e is, get-set_other t k i (entry_byte_set q.at v e), is)

module _ (time : ℕ → ℕ) where
  pub seen-pages : (b : Bool) (x : Segment) → pages_in (seen time b x) ≡ pages_in x
  seen-pages true x = ap (λ n. n / 4096) (length-replicate (length x.bytes) 0)
  seen-pages false x = refl

  -- what depends on neither times nor bytes
  same-seen : {X : Type 0} (f : Option Segment → X) (b : Bool) → ((x : Segment) → f (Some (seen time b x)) ≡ f (Some x)) → (o : Option Segment) → f (option_map (seen time b) o) ≡ f o
  same-seen f b same None = refl
  same-seen f b same (Some x) = same x

  segment-seen : (i : ℕ) (b : Bool) (o : Option Segment) → look_segment i (option_map (seen time b) o) ≡ seen_look time b (look_segment i o)
  segment-seen i b o = grind arith

  entry-seen : (hides : ℕ → Bool) (i q : ℕ) (o : Option Entry) → (b : Bool) × (look_entry i q (option_map (seen_entry time hides) o) ≡ seen_look time b (look_entry i q o))
  entry-seen hides i q None = (false, refl)
  entry-seen hides i q (Some e) = (hides e.destroyed, grind (arith, segment-seen))

  swept-entry : (hides : ℕ → Bool) (k : ℕ) (rs : List Runner) (d : ℕ) (o : Option Segment) → swept_at k rs d (option_map (seen time (hides d)) o) ≡ seen_entry time hides (swept_at k rs d o)
  swept-entry hides k rs d o = grind arith

  -- f does to the seen segment what g does to the segment
  abbrev pub Match : (Segment → Segment) → (Segment → Segment) → Type 0
  Match f g = (b : Bool) (x : Segment) → f (seen time b x) ≡ seen time b (g x)

  -- ALL ENTRIES

  abbrev See : (ℕ → ℕ → Bool) → List Entry → List Entry
  See hidden t = seen_table time hidden t

  -- what is hidden in the entries after the first
  abbrev rest : (ℕ → ℕ → Bool) → ℕ → ℕ → Bool
  rest hidden i = hidden (suc i)

  seen-get : (hidden : ℕ → ℕ → Bool) (t : List Entry) (i : ℕ) → slice_get (See hidden t) i ≡ option_map (seen_entry time (hidden i)) (slice_get t i)
  seen-get hidden [] i = refl
  seen-get hidden (e ∷ es) zero = refl
  seen-get hidden (e ∷ es) (suc i) = seen-get (rest hidden) es i

  pub seen-destroyed : (hidden : ℕ → ℕ → Bool) (t : List Entry) (i : ℕ) → destroyed_at (See hidden t) i ≡ destroyed_at t i
  seen-destroyed hidden [] i = refl
  seen-destroyed hidden (e ∷ es) zero = refl
  seen-destroyed hidden (e ∷ es) (suc i) = seen-destroyed (rest hidden) es i

  seen-set : (hidden : ℕ → ℕ → Bool) (t : List Entry) (i : ℕ) (e : Entry) → See hidden (slice_set t i e) ≡ slice_set (See hidden t) i (seen_entry time (hidden i) e)
  seen-set hidden [] i e = refl
  seen-set hidden (x ∷ xs) zero e = refl
  seen-set hidden (x ∷ xs) (suc i) e = ap (λ es. seen_entry time (hidden 0) x ∷ es) (seen-set (rest hidden) xs i e)

  seen-length : (hidden : ℕ → ℕ → Bool) (t : List Entry) → length (See hidden t) ≡ length t
  seen-length hidden [] = refl
  seen-length hidden (e ∷ es) = ap suc (seen-length (rest hidden) es)

  seen-last : (hidden : ℕ → ℕ → Bool) (t : List Entry) (e : Entry) → See hidden (t ++ e ∷ []) ≡ See hidden t ++ seen_entry time (hidden (length t)) e ∷ []
  seen-last hidden [] e = refl
  seen-last hidden (x ∷ xs) e = ap (λ es. seen_entry time (hidden 0) x ∷ es) (seen-last (rest hidden) xs e)

  sum-seen : (hidden : ℕ → ℕ → Bool) (f : Option Segment → ℕ) → ((b : Bool) (x : Segment) → f (Some (seen time b x)) ≡ f (Some x)) → (t : List Entry)
      → sum_by (λ (e : Entry). f e.segment) (See hidden t) ≡ sum_by (λ (e : Entry). f e.segment) t
  sum-seen hidden f same [] = refl
  sum-seen hidden f same (e ∷ es) =
      let b = hidden 0 e.destroyed in
      sum_by-cons (λ (e : Entry). f e.segment) (seen_entry time (hidden 0) e) (See (rest hidden) es)
      ∙ (λ j. same-seen f b (same b) e.segment j + sum-seen (rest hidden) f same es j)
      ∙ sym (sum_by-cons (λ (e : Entry). f e.segment) e es)

  pub free-seen : (hidden : ℕ → ℕ → Bool) (i : ℕ) (t : List Entry) → free_from i (See hidden t) ≡ free_from i t
  free-seen hidden i [] = refl
  free-seen hidden i (e ∷ es) =
      let same = same-seen is_none (hidden 0 e.destroyed) (λ x. refl) e.segment in
      grind (arith, common_steps, same, free-seen (rest hidden) (i + 1) es)

  key-seen : (hidden : ℕ → ℕ → Bool) (key i : ℕ) (t : List Entry) → (b : Bool) × (key_from key i (See hidden t) ≡ seen_look time b (key_from key i t))
  key-seen hidden key i [] = (false, refl)
  key-seen hidden key i (e ∷ es) =
      let b = hidden 0 e.destroyed in
      let later = key-seen (rest hidden) key (i + 1) es in
      let same = same-seen (has_key key) b (λ x. refl) e.segment in
      let own = segment-seen i b e.segment in
      elim (cases_Bool (has_key key e.segment)) [
        | inl h ↦ (b, grind arith)
        | inr h ↦ (later.0, grind arith)
      ]

  pub swept-seen : (hidden : ℕ → ℕ → Bool) (i : ℕ) (rs : List Runner) (t : List Entry) → swept_from i rs (See hidden t) ≡ See hidden (swept_from i rs t)
  swept-seen hidden i rs [] = refl
  swept-seen hidden i rs (e ∷ es) = λ j. swept-entry (hidden 0) i rs e.destroyed e.segment j ∷ swept-seen (rest hidden) (i + 1) rs es j

module _ (time : ℕ → ℕ) (hidden : ℕ → ℕ → Bool) where
  abbrev V : List Entry → List Entry
  V t = seen_table time hidden t

  -- COUNTS AND LOOKS

  pub reserved-seen : (t : List Entry) → reserved (V t) ≡ reserved t
  reserved-seen = sum-seen time hidden pages_held (seen-pages time)

  pub locked-seen : (t : List Entry) → locked (V t) ≡ locked t
  locked-seen = sum-seen time hidden pages_locked (λ b x. ap (λ n. if x.locked then n else 0) (seen-pages time b x))

  pub locked_by-seen : (uid : ℕ) (t : List Entry) → locked_by_user uid (V t) ≡ locked_by_user uid t
  locked_by-seen uid = sum-seen time hidden (pages_locked_by uid) (λ b x. ap (λ n. if x.locked && (x.locker == uid) then n else 0) (seen-pages time b x))

  pub count-seen : (t : List Entry) → segment_count (V t) ≡ segment_count t
  count-seen = sum-seen time hidden (λ o. cond (is_some o) 1 0) (λ b x. refl)

  pub find-seen : (key : ℕ) (t : List Entry) → (b : Bool) × (find_key (V t) key ≡ seen_look time b (find_key t key))
  find-seen key t = key-seen time hidden key 0 t

  pub look-seen : (t : List Entry) (id : ℤ) → (b : Bool) × (look (V t) id ≡ seen_look time b (look t id))
  look-seen t (pos n) =
      let i = n % 32768 in
      let e = entry-seen time (hidden i) i (n / 32768) (slice_get t i) in
      (e.0, ap (look_entry i (n / 32768)) (seen-get time hidden t i) ∙ e.1)
  look-seen t (negsuc n) = (false, refl)

  -- CHANGES

  in-seen : (t : List Entry) (i : ℕ) (f g : Entry → Entry) (o : Option Entry) → slice_get t i ≡ o → ((e : Entry) → o ≡ Some e → f (seen_entry time (hidden i) e) ≡ seen_entry time (hidden i) (g e))
      → set_in (V t) i f (slice_get (V t) i) ≡ V (set_in t i g (slice_get t i))
  in-seen t i f g o is same = grind (arith, common_steps, seen-get, seen-set, arith)

  pub change-seen : (f g : Segment → Segment) → Match time f g → (t : List Entry) (id : ℕ) → change (V t) id f ≡ V (change t id g)
  change-seen f g same t id = in-seen t (id % 32768) (with_entry f) (with_entry g) (slice_get t (id % 32768)) refl (λ e is. grind (arith, same))

  all-seen : (f g : Segment → Segment) → Match time f g → (ids : List ℕ) (t : List Entry) → change_all f (V t) ids ≡ V (change_all g t ids)
  all-seen f g same [] t = refl
  all-seen f g same (id ∷ ids) t = ap (λ u. change_all f u ids) (change-seen f g same t id) ∙ all-seen f g same ids (change t id g)

  pub detach-seen : (n pid : ℕ) (ids : List ℕ) (t : List Entry) → detach_all (time n) pid (V t) ids ≡ V (detach_all n pid t ids)
  detach-seen n pid = all-seen (detached (time n) pid) (detached n pid) (λ b x. refl)

  pub attach-seen : (n pid : ℕ) (ids : List ℕ) (t : List Entry) → attach_all (time n) pid (V t) ids ≡ V (attach_all n pid t ids)
  attach-seen n pid = all-seen (attached (time n) pid) (attached n pid) (λ b x. refl)

  pub made-seen : (t : List Entry) (i : ℕ) (x y : Segment) → ((b : Bool) → seen time b x ≡ y) → with_segment (V t) i y ≡ V (with_segment t i x)
  made-seen t i x y is = grind (arith, common_steps, seen-length, seen-last, seen-set, seen-destroyed, arith)

  -- BYTES

  byte-seen : (t : List Entry) (q : Place) → is_hidden hidden t q ≡ false → byte_at (V t) q ≡ byte_at t q
  byte-seen t q clear = grind (arith, common_steps, ap, seen-get, slice_get)

  pub loaded-seen : (t : List Entry) (qs : List Place) → AreHidden hidden false t qs → loaded (V t) qs ≡ loaded t qs
  loaded-seen t [] clear = refl
  loaded-seen t (q ∷ qs) clear = λ j. byte-seen t q (clear 0 q refl) j ∷ loaded-seen t qs (λ k p is. clear (suc k) p is) j

  -- a stored byte leaves the other places hidden, or not, as they were
  others : (b : Bool) (t : List Entry) (q : Place) (qs : List Place) (v : ℕ) → AreHidden hidden b t (q ∷ qs) → AreHidden hidden b (with_byte t q v) qs
  others b t q qs v all k p is = ap (hidden (p.seg % 32768)) (byte-destroyed t q v (p.seg % 32768)) ∙ all (suc k) p is

  byte-stored : (t : List Entry) (q : Place) (v : ℕ) → is_hidden hidden t q ≡ false → with_byte (V t) q v ≡ V (with_byte t q v)
  byte-stored t q v clear = in-seen t (q.seg % 32768) (entry_byte_set q.at v) (entry_byte_set q.at v) (slice_get t (q.seg % 32768)) refl (λ e is. grind (arith, is, clear))

  pub stored-seen : (t : List Entry) (qs : List Place) (vs : List ℕ) → AreHidden hidden false t qs → stored (V t) qs vs ≡ V (stored t qs vs)
  stored-seen t [] vs clear = refl
  stored-seen t (q ∷ qs) [] clear = refl
  stored-seen t (q ∷ qs) (v ∷ vs) clear = ap (λ u. stored u qs vs) (byte-stored t q v (clear 0 q refl)) ∙ stored-seen (with_byte t q v) qs vs (others false t q qs v clear)

  byte-hidden : (t : List Entry) (q : Place) (v : ℕ) → is_hidden hidden t q ≡ true → V (with_byte t q v) ≡ V t
  byte-hidden t q v hid = grind (arith, common_steps, seen-get, seen-set, length-slice_set, arith, set-same)

  pub stored-hidden : (t : List Entry) (qs : List Place) (vs : List ℕ) → AreHidden hidden true t qs → V (stored t qs vs) ≡ V t
  stored-hidden t [] vs hid = refl
  stored-hidden t (q ∷ qs) [] hid = refl
  stored-hidden t (q ∷ qs) (v ∷ vs) hid = stored-hidden (with_byte t q v) qs vs (others true t q qs v hid) ∙ byte-hidden t q v (hid 0 q refl)
