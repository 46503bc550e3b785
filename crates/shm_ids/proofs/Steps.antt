-- What each change of a table keeps.
use Rattle.shm_ids.proofs.Names.{ℤ, Option, option_map, none-some, free_index, id_at, index_of, ◌≡◌, ◌≢◌, ℕ, ◌+◌, ◌<◌, ◌≤◌, nat_eq, not, ◌&&◌, List, [], true, false, length, set, Some, None, if◌then◌else◌, refl, sym, ap, ◌∙◌, arith, length-set, common_steps, IndexMap, get, Entry, Row, entry_at, key_at, row_key, find_key, NumbersView, is_taken, WithTaken, IsLeastNumber, nat_tests, nat_lt, is_open, TakenAs, AreIndexesKnown, filled, with_row, with_key, without_row, with_value, rows_in, Keyed, Sound}
use Rattle.shm_ids.proofs.Entries.{at_past, at_row, at_row_other, at_set, at_set_other, with_row-few}
use Rattle.shm_ids.proofs.Free.{least_free, free_found}
use Rattle.shm_ids.proofs.Keys.{Keyed-put, Keyed-drop}
use Rattle.shm_ids.proofs.Rest.{few_entries}
use Rattle.shm_ids.proofs.Look.{identifier-mod}

-- the same numbers are taken, and there is no less room
pub record SameIndexes (v w : NumbersView) : Type 0 where
  pub taken : (n : ℕ) → is_taken w n ≡ is_taken v n
  pub room : v.room ≤ w.room

module _ {T : Type 0} where
  -- another map with the same answers will do
  pub Keyed-same : {S : Type 0} (t : List (Entry T)) (keys after : IndexMap ℕ ℕ S) → Keyed t keys → ((q : ℕ) → get nat_eq after q ≡ get nat_eq keys q) → Keyed t after
  Keyed-same t keys after k same = record { found = λ key i h. k.found key i (sym (same key) ∙ h); live = λ i n. same (key_at t i) ∙ k.live i n }

  pub known-same : (t : List (Entry T)) (v w : NumbersView) → AreIndexesKnown t v → SameIndexes v w → AreIndexesKnown t w
  known-same t v w known same = record { taken = λ i. same.taken i ∙ known.taken i; room = let a = known.room in let b = same.room in omega (arith, a, b) }

  pub Sound-same : {S : Type 0} (t u : List (Entry T)) (v w : NumbersView) (keys after : IndexMap ℕ ℕ S) → Sound t v keys → SameIndexes v w → u ≡ t → ((q : ℕ) → get nat_eq after q ≡ get nat_eq keys q) → Sound u w after
  Sound-same t u v w keys after s indexes e same =
      rw e (record { identifiers = s.identifiers; known = known-same t v w s.known indexes; keyed = Keyed-same t keys after s.keyed same })

  -- what an insert needs to know of the index that it uses
  pub record Fresh (t : List (Entry T)) (i : ℕ) : Type 0 where
    pub within : i ≤ length t
    pub small : i < 32768
    pub row : (entry_at t i).row ≡ None
    pub wear : (entry_at t i).destroyed < 65536

  pub fresh : (t : List (Entry T)) (i : ℕ) → length t ≤ 32768 → free_index t ≡ Some i → Fresh t i
  fresh t i few h =
      let f = free_found 0 i t h in
      let at : f.place ≡ i = omega (arith, f.at) in
      grind (arith, common_steps)

  -- the identifier of the next row, and its index
  pub record Next (t : List (Entry T)) (id : ℤ) (i : ℕ) : Type 0 where
    pub found : free_index t ≡ Some i
    pub is : id ≡ id_at t i
    pub own : index_of id ≡ i
    pub fresh : Fresh t i

  pub next : {S : Type 0} (t : List (Entry T)) (v : NumbersView) (id : ℤ) (keys : IndexMap ℕ ℕ S) → Sound t v keys → option_map (id_at t) (free_index t) ≡ Some id → Next t id (index_of id)
  next t v id keys s is = by (free_index t) refl is
    where
      by : (o : Option ℕ) → free_index t ≡ o → option_map (id_at t) o ≡ Some id → Next t id (index_of id)
      by None found z = absurd (none-some id z)
      by (Some i) found z =
          let f = fresh t i (few_entries t s.identifiers) found in
          let same : id_at t i ≡ id = cc z in
          let own : index_of id ≡ i = rw (← same) (identifier-mod i (entry_at t i).destroyed f.small) in
          rw own (record { found = found; is = sym same; own = own; fresh = f })

  -- it is the least number that is not taken
  pub least_next : {S : Type 0} (t : List (Entry T)) (v : NumbersView) (n i : ℕ) (keys : IndexMap ℕ ℕ S) → Sound t v keys → IsLeastNumber v n → free_index t ≡ Some i → n ≡ i
  least_next t v n i keys s least found = let is = sym (least_free t v n s.known least (few_entries t s.identifiers)) ∙ found in grind (arith, nat_tests, is)

  pub Sound-put : {S : Type 0} (t : List (Entry T)) (n w : NumbersView) (i key : ℕ) (v : T) (keys after : IndexMap ℕ ℕ S)
      → Sound t n keys → Fresh t i → find_key t key ≡ None → WithTaken n w i → i < w.room → n.room ≤ w.room
      → ((q : ℕ) → get nat_eq after q ≡ (if not (nat_eq key 0) && nat_eq key q then Some i else get nat_eq keys q))
      → Sound (with_row t i key v) w after
  Sound-put t n w i key v keys after s f none take within more put =
      record {
        identifiers = record { indexes = let few = with_row-few t i key v f.within f.small (few_entries t s.identifiers) in omega (arith, few); sequences = sequences };
        known = record { taken = taken; room = room };
        keyed = Keyed-put t (with_row t i key v) keys after i key s.keyed none (ap row_key f.row) (ap (λ e. row_key e.row) here) (λ j n. ap (λ e. row_key e.row) (there j n)) put;
      }
    where
      here : entry_at (with_row t i key v) i ≡ filled (entry_at t i) key v
      here = at_row t i key v f.within

      there : (j : ℕ) → j ≢ i → entry_at (with_row t i key v) j ≡ entry_at t j
      there j n = at_row_other t i j key v f.within n

      sequences : (j : ℕ) → (entry_at (with_row t i key v) j).destroyed + rows_in (entry_at (with_row t i key v) j).row ≤ 65536
      sequences j = let before = s.identifiers.sequences j in let same = there j in grind (arith, here, f.wear)

      taken : (j : ℕ) → is_taken w j ≡ not (is_open (entry_at (with_row t i key v) j))
      taken j = let before = s.known.taken j in let same = there j in let put = take j in grind (arith, common_steps, nat_tests, here, before, same, put)

      room : length (with_row t i key v) ≤ w.room
      room = let before = s.known.room in let some = f.within in grind (arith, common_steps, before, some, within, more)

  -- a change of an entry, which may remove its key
  pub Sound-drop : {S : Type 0} (t : List (Entry T)) (n w : NumbersView) (i key : ℕ) (e : Entry T) (keys after : IndexMap ℕ ℕ S)
      → Sound t n keys → i < length t → key_at t i ≡ key → row_key e.row ≡ 0 → e.destroyed + rows_in e.row ≤ 65536
      → TakenAs n w i (is_open e) → n.room ≤ w.room
      → ((q : ℕ) → get nat_eq after q ≡ (if not (nat_eq key 0) && nat_eq key q then None else get nat_eq keys q))
      → Sound (set t i e) w after
  Sound-drop t n w i key e keys after s within was now wear change more put =
      record {
        identifiers = record { indexes = rw (length-set t i e) s.identifiers.indexes; sequences = sequences };
        known = record { taken = taken; room = let before = s.known.room in rw (length-set t i e) (omega (arith, before, more)) };
        keyed = Keyed-drop t (set t i e) keys after i key s.keyed was (ap (λ e. row_key e.row) here ∙ now) (λ j n. ap (λ e. row_key e.row) (there j n)) put;
      }
    where
      here : entry_at (set t i e) i ≡ e
      here = at_set t i e within

      there : (j : ℕ) → j ≢ i → entry_at (set t i e) j ≡ entry_at t j
      there j n = at_set_other t i j e n

      sequences : (j : ℕ) → (entry_at (set t i e) j).destroyed + rows_in (entry_at (set t i e) j).row ≤ 65536
      sequences j = let before = s.identifiers.sequences j in let same = there j in grind (arith, here, wear)

      taken : (j : ℕ) → is_taken w j ≡ not (is_open (entry_at (set t i e) j))
      taken j = let before = s.known.taken j in let same = there j in let c = change j in grind (arith, common_steps, nat_tests, here, before, same, c)

  -- a change of a value
  pub Sound-value : {S : Type 0} (t : List (Entry T)) (n : NumbersView) (i : ℕ) (v : T) (keys : IndexMap ℕ ℕ S) → Sound t n keys → i < length t → Sound (with_value t i v) n keys
  Sound-value t n i v keys s within =
      record {
        identifiers = record { indexes = rw (length-set t i _) s.identifiers.indexes; sequences = λ j. rw (destroyed j, rows_in-same j) (s.identifiers.sequences j) };
        known = record { taken = λ j. s.known.taken j ∙ ap not (sym (open_same j)); room = rw (length-set t i _) s.known.room };
        keyed = record { found = λ key j h. rw (key_same j) (s.keyed.found key j h); live = λ j n. rw (key_same j) (s.keyed.live j (λ z. n (key_same j ∙ z))) };
      }
    where
      destroyed : (j : ℕ) → (entry_at (with_value t i v) j).destroyed ≡ (entry_at t j).destroyed
      destroyed j = grind (arith, common_steps)

      rows_in-same : (j : ℕ) → rows_in (entry_at (with_value t i v) j).row ≡ rows_in (entry_at t j).row
      rows_in-same j = grind (arith, common_steps)

      open_same : (j : ℕ) → is_open (entry_at (with_value t i v) j) ≡ is_open (entry_at t j)
      open_same j = grind (arith, common_steps)

      key_same : (j : ℕ) → key_at (with_value t i v) j ≡ key_at t j
      key_same j = grind (arith, common_steps)

  -- a table without entries
  pub Sound-new : {S : Type 0} (v : NumbersView) (keys : IndexMap ℕ ℕ S) → ((n : ℕ) → is_taken v n ≡ false) → ((q : ℕ) → get nat_eq keys q ≡ None) → Sound {T = T} [] v keys
  Sound-new v keys free none =
      record {
        identifiers = record { indexes = omega arith; sequences = λ k. omega arith };
        known = record { taken = λ i. free i; room = omega arith };
        keyed = record { found = λ key i h. absurd (none-some i (sym (none key) ∙ h)); live = λ i n. absurd (n refl) };
      }

  -- the row that the map names
  pub record Named (t : List (Entry T)) (i : ℕ) : Type 0 where
    pub within : i < length t
    pub small : i < 32768
    pub wear : (entry_at t i).destroyed < 65536

  pub named : {S : Type 0} (t : List (Entry T)) (n : NumbersView) (key i : ℕ) (keys : IndexMap ℕ ℕ S) → Sound t n keys → get nat_eq keys key ≡ Some i → Named t i
  named t n key i keys s h =
      let there = s.keyed.found key i h in
      let within : i < length t = grind (arith, common_steps, at_past) in
      record { within = within; small = omega (arith, s.identifiers.indexes); wear = let sequence = s.identifiers.sequences i in grind (arith, there) }

  -- a row's key is hidden
  pub Sound-hide : {S : Type 0} (t : List (Entry T)) (n : NumbersView) (i : ℕ) (r : Row T) (keys after : IndexMap ℕ ℕ S)
      → Sound t n keys → i < length t → (entry_at t i).row ≡ Some r
      → ((q : ℕ) → get nat_eq after q ≡ (if not (nat_eq (key_at t i) 0) && nat_eq (key_at t i) q then None else get nat_eq keys q))
      → Sound (with_key t i 0) n after
  Sound-hide t n i r keys after s within there put =
      let sequence = s.identifiers.sequences i in
      Sound-drop t n n i (key_at t i) _ keys after s within refl
      (rw there refl) (rw there (rw there at sequence)) (λ j. let k = s.known.taken i in grind (arith, nat_tests, k, there)) (omega arith) put

  -- the index of a row is taken
  pub taken_row : {S : Type 0} (t : List (Entry T)) (n : NumbersView) (i : ℕ) (r : Row T) (keys : IndexMap ℕ ℕ S) → Sound t n keys → (entry_at t i).row ≡ Some r → is_taken n i ≡ true
  taken_row t n i r keys s there = let k = s.known.taken i in grind (arith, nat_tests, k, there)

  -- a row is destroyed
  pub Sound-destroy : {S : Type 0} (t : List (Entry T)) (n w : NumbersView) (i : ℕ) (r : Row T) (keys after : IndexMap ℕ ℕ S)
      → Sound t n keys → i < length t → (entry_at t i).row ≡ Some r → TakenAs n w i (nat_lt ((entry_at t i).destroyed + 1) 65536) → n.room ≤ w.room
      → ((q : ℕ) → get nat_eq after q ≡ (if not (nat_eq r.key 0) && nat_eq r.key q then None else get nat_eq keys q))
      → Sound (without_row t i) w after
  Sound-destroy t n w i r keys after s within there change more put =
      let sequence = s.identifiers.sequences i in
      Sound-drop t n w i r.key _ keys after s within (ap row_key there)
      refl (omega (arith, rw there at sequence)) change more put
