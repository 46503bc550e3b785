-- The counts of the table.
use Rattle.std.proofs.Common.{◌≡◌, ◌≢◌, ℕ, zero, suc, ◌+◌, ◌-◌, ◌<◌, ◌≤◌, Bool, true, false, cond, List, [], ◌∷◌, length, get_or, set, None, Some, is_some, refl, sym, ap, ◌∙◌, add-one, arith, rules, length-set}
use Rattle.std.proofs.lemmas.Grind.{common_steps}
use Rattle.std.specs.Prelude.{count_by}
use Rattle.std.specs.Int.{from_bool}
use Rattle.std.proofs.lemmas.List.Sums.{sum_by-cons, sum_by-set, count_by-le-length}
use Rattle.shm_base.specs.declared.paging.PageRef.{PageRef}
use Rattle.shm_base.specs.Stored.{padded}
use Rattle.shm_base.proofs.Stored.{size-padded, get_or-padded}
use Rattle.shm_frames.proofs.Shown.{count-padded}
use Rattle.shm_frames.specs.declared.frames.FrameState.{FrameState}
use Rattle.shm_frames.specs.Table.{free_entry, state_at, has_owner, has_no_owner, has_changed, is_on_loan, UsedBelow, IsFrameTable}

-- a test that implies another passes no more often
count_by-le : {X : Type 0} (p q : X → Bool) (d : X) (xs : List X) → ((i : ℕ) → i < length xs → p (get_or xs i d) ≡ true → q (get_or xs i d) ≡ true) → count_by p xs ≤ count_by q xs
count_by-le p q d [] both = omega arith
count_by-le p q d (x ∷ xs) both =
    let rest : count_by p xs ≤ count_by q xs = count_by-le p q d xs (λ i l h. both (suc i) (omega arith) h) in
    let here : p x ≡ true → q x ≡ true = both 0 (omega arith) in
    rw (sum_by-cons (λ y. cond (p y) 1 0) x xs, sum_by-cons (λ y. cond (q y) 1 0) x xs) (by (p x) (q x) here rest)
  where
    by : (a b : Bool) → (a ≡ true → b ≡ true) → count_by p xs ≤ count_by q xs → cond a 1 0 + count_by p xs ≤ cond b 1 0 + count_by q xs
    by true true h le = omega arith
    by true false h le = absurd (search (rules, h refl))
    by false b h le = elim b as (λ v. 0 + count_by p xs ≤ cond v 1 0 + count_by q xs) [ true ↦ omega arith | false ↦ omega arith ]

changed-owned : (x : FrameState) → (x.owner ≡ None → x ≡ free_entry) → has_changed x ≡ true → has_owner x ≡ true
changed-owned x clear changed = grind arith

-- a dirty frame is owned
pub dirty-le-resident : (table : List FrameState) (first owned changed : ℕ) → IsFrameTable table first owned changed → changed ≤ owned
dirty-le-resident table first owned changed k =
    rw (k.resident, k.dirty) (count_by-le has_changed has_owner free_entry table (λ i l h. changed-owned (state_at table i) (k.clear i) h))

pub resident-le : (table : List FrameState) (first owned changed : ℕ) → IsFrameTable table first owned changed → owned ≤ length table
resident-le table first owned changed k = rw k.resident (count_by-le-length has_owner table)

worth : (b : Bool) → cond b 1 0 ≡ from_bool b
worth true = refl
worth false = refl

-- a count after an edit of one entry, which was `was`
counted-set : (p : FrameState → Bool) (table : List FrameState) {n i : ℕ} {was : FrameState} → n ≡ count_by p table → i < length table → was ≡ state_at table i → (x : FrameState) → count_by p (set table i x) + from_bool (p was) ≡ n + from_bool (p x)
counted-set p table {n} {i} {was} count there at x = rw (← worth (p was), ← worth (p x), at, count) (sum_by-set (λ y. cond (p y) 1 0) table i x free_entry there)

-- the number of pages on loan, after an edit of one entry, which was `was`
module _ (table : List FrameState) {loans i : ℕ} {was : FrameState} (count : loans ≡ count_by is_on_loan table) (there : i < length table) (at : was ≡ state_at table i) where
  loans-set : (x : FrameState) → count_by is_on_loan (set table i x) + from_bool was.lent ≡ loans + from_bool x.lent
  loans-set = counted-set is_on_loan table count there at

  pub loans-there : from_bool was.lent ≤ loans
  loans-there = let e : count_by is_on_loan (set table i free_entry) + from_bool was.lent ≡ loans + 0 = loans-set free_entry in omega arith

  pub loans-more : (now : Bool) → loans - from_bool was.lent + from_bool now ≤ length table
  loans-more now =
      let x : FrameState = record was { lent = now } in
      let e : count_by is_on_loan (set table i x) + from_bool was.lent ≡ loans + from_bool now = loans-set x in
      omega (arith, loans-there, count_by-le-length is_on_loan (set table i x), length-set table i x)

  pub kept-loans : (x : FrameState) → loans - from_bool was.lent + from_bool x.lent ≡ count_by is_on_loan (set table i x)
  kept-loans x = omega (arith, loans-there, loans-set x)

  pub same-loans : (x : FrameState) → x.lent ≡ was.lent → loans ≡ count_by is_on_loan (set table i x)
  same-loans x same =
      let e : count_by is_on_loan (set table i x) + from_bool was.lent ≡ loans + from_bool was.lent = loans-set x ∙ ap (λ b. loans + from_bool b) same in
      omega arith

-- the invariant after an edit of one entry, which was `was`
module _ {table : List FrameState} {first owned changed i : ℕ} {was : FrameState} (k : IsFrameTable table first owned changed) (there : i < length table) (at : was ≡ state_at table i) where
  owned-set : (x : FrameState) → count_by has_owner (set table i x) + from_bool (has_owner was) ≡ owned + from_bool (has_owner x)
  owned-set = counted-set has_owner table k.resident there at

  changed-set : (x : FrameState) → count_by has_changed (set table i x) + from_bool was.dirty ≡ changed + from_bool x.dirty
  changed-set = counted-set has_changed table k.dirty there at

  -- it was counted if it was owned, and if it was dirty
  pub owned-there : from_bool (has_owner was) ≤ owned
  owned-there = let e : count_by has_owner (set table i free_entry) + from_bool (has_owner was) ≡ owned + 0 = owned-set free_entry in omega arith

  pub changed-there : from_bool was.dirty ≤ changed
  changed-there = let e : count_by has_changed (set table i free_entry) + from_bool was.dirty ≡ changed + 0 = changed-set free_entry in omega arith

  -- there is room for one more if it was not counted
  pub owned-more : was.owner ≡ None → owned + 1 ≤ length table
  owned-more free =
      grind (arith, common_steps, has_owner was, count_by-le-length has_owner (set table i (record was { owner = Some (record { seg = 0; page = 0 }) })))

  pub changed-more : (now : Bool) → changed - from_bool was.dirty + from_bool now ≤ length table
  changed-more now =
      let x : FrameState = record was { dirty = now } in
      let e : count_by has_changed (set table i x) + from_bool was.dirty ≡ changed + from_bool now = changed-set x in
      omega (arith, changed-there, count_by-le-length has_changed (set table i x), length-set table i x)

  clear-set : (x : FrameState) → (x.owner ≡ None → x ≡ free_entry) → (j : ℕ) → (state_at (set table i x) j).owner ≡ None → state_at (set table i x) j ≡ free_entry
  clear-set x clear j = grind (arith, common_steps)

  used-set : (x : FrameState) (n : ℕ) → has_no_owner x ≡ false → ((j : ℕ) → j < n → j ≢ i → has_no_owner (state_at table j) ≡ false) → UsedBelow (set table i x) n
  used-set x n busy others j lt = grind (arith, common_steps)

  -- the bits of an owned frame change
  pub kept-bits : (x : FrameState) (changed' : ℕ) → is_some was.owner ≡ true → x.owner ≡ was.owner → changed' + from_bool was.dirty ≡ changed + from_bool x.dirty → IsFrameTable (set table i x) first owned changed'
  kept-bits x changed' some same by = grind (arith, common_steps)

  -- a free frame is given to a page
  pub kept-fill : (r : PageRef) (later : ℕ) → was.owner ≡ None → later ≤ length table → ((j : ℕ) → j < later → j ≢ i → has_no_owner (state_at table j) ≡ false) → IsFrameTable (set table i (record was { owner = Some r })) later (owned + 1) changed
  kept-fill r later free bound used = grind (arith, common_steps, owned-set, length-set, used-set, changed-set, clear-set)

-- more frames are used, and are free
pub kept-reach : (table : List FrameState) (first owned changed n : ℕ) → IsFrameTable table first owned changed → IsFrameTable (padded table n free_entry) first owned changed
kept-reach table first owned changed n k =
    let same = λ (i : ℕ). get_or-padded table n i free_entry in
    record {
      bound = let size = size-padded table n free_entry in omega (arith, size, k.bound);
      used = λ i l. ap has_no_owner (same i) ∙ k.used i l;
      resident = k.resident ∙ sym (count-padded has_owner table n refl);
      dirty = k.dirty ∙ sym (count-padded has_changed table n refl);
      clear = λ i free. same i ∙ k.clear i (sym (ap (λ (e : FrameState). e.owner) (same i)) ∙ free);
    }

pub loans-reach : (table : List FrameState) (loans n : ℕ) → loans ≡ count_by is_on_loan table → loans ≡ count_by is_on_loan (padded table n free_entry)
loans-reach table loans n count = count ∙ sym (count-padded is_on_loan table n refl)

pub all-counted : {X : Type 0} (p : X → Bool) (d : X) (xs : List X) → count_by p xs ≡ length xs → (i : ℕ) → i < length xs → p (get_or xs i d) ≡ true
all-counted p d [] e i l = absurd (omega arith)
all-counted p d (x ∷ xs) e i l =
    let few : count_by p xs ≤ length xs = count_by-le-length p xs in
    let sum : cond (p x) 1 0 + count_by p xs ≡ length xs + 1 = sym (sum_by-cons (λ y. cond (p y) 1 0) x xs) ∙ rw add-one e in
    by i l (p x) refl few sum (all-counted p d xs)
  where
    by : (j : ℕ) → j < suc (length xs) → (b : Bool) → p x ≡ b → count_by p xs ≤ length xs → cond b 1 0 + count_by p xs ≡ length xs + 1 → (count_by p xs ≡ length xs → (k : ℕ) → k < length xs → p (get_or xs k d) ≡ true) → p (get_or (x ∷ xs) j d) ≡ true
    by zero lt true h few sum rest = h
    by (suc j) lt true h few sum rest = rest (omega arith) j (omega arith)
    by j lt false h few sum rest = absurd (omega arith)

-- if as many are owned as were used, none of these is free
pub none-free : (table : List FrameState) (owned : ℕ) → owned ≡ count_by has_owner table → owned ≡ length table → UsedBelow table (length table)
none-free table owned resident e i l = rw (all-counted has_owner free_entry table (sym resident ∙ e) i l) refl
