-- Items by their index.
use Rattle.std.proofs.Common.{◌≡◌, ◌≢◌, ℕ, zero, suc, ◌+◌, ◌-◌, ◌*◌, ◌/◌, ◌%◌, ◌<◌, ◌≤◌, List, [], ◌∷◌, ◌++◌, length, get_or, set, replicate, refl, sym, ap, ◌∙◌, arith, inl, inr, ◌⊎◌, append-nil, length-append}
use Rattle.std.proofs.lemmas.Bool.{cases_eq, cases_lt}
use Rattle.std.proofs.lemmas.List.{get_or-set_same, get_or-set_other, get_or_past, length-replicate}
use Rattle.shm_sparse.specs.Sparse.{AreRuns, IsShort, extended, item_at, items_from, items_of, no_place, place_at}
use Rattle.shm_sparse.proofs.Runs.{few-stored, place-padded}

module _ {X : Type 0} (item : ℕ → X) where
  pub length-items : (from n : ℕ) → length (items_from item from n) ≡ n
  length-items from zero = refl
  length-items from (suc n) = ap suc (length-items (from + 1) n)

  pub get-items : (from n i : ℕ) (d : X) → i < n → get_or (items_from item from n) i d ≡ item (from + i)
  get-items from zero i d there = absurd (omega (arith, there))
  get-items from (suc n) zero d there = ap item (omega arith)
  get-items from (suc n) (suc i) d there = get-items (from + 1) n i d (omega (arith, there)) ∙ ap item (omega arith)

  -- items that are all alike from an index on
  pub alike-items : (from n : ℕ) (x : X) → ((i : ℕ) → from ≤ i → item i ≡ x) → items_from item from n ≡ replicate n x
  alike-items from zero x alike = refl
  alike-items from (suc n) x alike = rw (alike from (omega arith)) (ap (λ l. x ∷ l) (alike-items (from + 1) n x (λ i past. alike i (omega (arith, past)))))

  -- more items that are all alike
  pub more-items : (from n k : ℕ) (x : X) → ((i : ℕ) → from + n ≤ i → item i ≡ x) → items_from item from (n + k) ≡ items_from item from n ++ replicate k x
  more-items from zero k x alike = rw (let e : 0 + k ≡ k = omega arith in e) (alike-items from k x (λ i past. alike i (omega (arith, past))))
  more-items from (suc n) k x alike = rw (let e : suc n + k ≡ suc (n + k) = omega arith in e) (ap (λ l. item from ∷ l) (more-items (from + 1) n k x (λ i past. alike i (omega (arith, past)))))

-- what is read at any index
pub read-item : {X : Type 0} (other : X) (runs : List ℕ) (stored : List X) (count index : ℕ) → IsShort other runs stored count
    → item_at other runs stored index ≡ get_or (items_of other runs stored count) index other
read-item other runs stored count index short = by (cases_lt index count)
  where
    by : (index < count) ⊎ (count ≤ index) → item_at other runs stored index ≡ get_or (items_of other runs stored count) index other
    by (inl there) = let e : 0 + index ≡ index = omega arith in sym (get-items (item_at other runs stored) 0 count index other there ∙ ap (item_at other runs stored) e)
    by (inr past) = short index past ∙ sym (get_or_past (items_of other runs stored count) index other (rw (length-items (item_at other runs stored) 0 count) past))

-- an item of a run that is not stored
pub item-other : {X : Type 0} (other : X) (runs : List ℕ) (stored : List X) (index : ℕ) → length stored ≤ 256 * no_place → place_at runs (index / 256) ≡ no_place → item_at other runs stored index ≡ other
item-other other runs stored index few is = get_or_past stored (256 * place_at runs (index / 256) + index % 256) other (omega (arith, few, is))

-- one item changes
pub set-items : {X : Type 0} (f h : ℕ → X) (n i : ℕ) (x : X) → i < n → h i ≡ x → ((j : ℕ) → j ≢ i → h j ≡ f j) → items_from h 0 n ≡ set (items_from f 0 n) i x
set-items f h n i x there is others = by 0 n i there (let e : 0 + i ≡ i = omega arith in ap h e ∙ is) (λ j other. others j (λ same. other (omega (arith, same))))
  where
    by : (from n i : ℕ) → i < n → h (from + i) ≡ x → ((j : ℕ) → j ≢ from + i → h j ≡ f j) → items_from h from n ≡ set (items_from f from n) i x
    by from zero i there is others = absurd (omega (arith, there))
    by from (suc n) zero there is others =
        let e : from ≡ from + 0 = omega arith in let first : h from ≡ x = ap h e ∙ is in
        rw first (ap (λ l. x ∷ l) (rest from n (from + 1) (omega arith) others))
      where
        rest : (from n at : ℕ) → from < at → ((j : ℕ) → j ≢ from + 0 → h j ≡ f j) → items_from h at n ≡ items_from f at n
        rest from zero at past others = refl
        rest from (suc n) at past others = rw (others at (λ same. absurd (omega (arith, past, same)))) (ap (λ l. f at ∷ l) (rest from n (at + 1) (omega (arith, past)) others))
    by from (suc n) (suc i) there is others =
        rw (others from (λ same. absurd (omega (arith, same)))) (ap (λ l. f from ∷ l) (by (from + 1) n i (omega (arith, there)) (let e : from + 1 + i ≡ from + suc i = omega arith in ap h e ∙ is) (λ j other. others j (λ same. other (omega (arith, same))))))

module _ {X : Type 0} (other : X) (runs : List ℕ) (stored : List X) (i at : ℕ) (x : X) (k : AreRuns runs (length stored)) (is : place_at runs (i / 256) ≢ no_place) (where-it-is : at ≡ 256 * place_at runs (i / 256) + i % 256) where
  -- a stored item changes, and no other
  pub item-changed : (j : ℕ) → j ≢ i → item_at other runs (set stored at x) j ≡ item_at other runs stored j
  item-changed j apart = get_or-set_other stored at (256 * place_at runs (j / 256) + j % 256) x other (λ same. apart (alike (sym same)))
    where
      alike : at ≡ 256 * place_at runs (j / 256) + j % 256 → j ≡ i
      alike same =
          let places : place_at runs (i / 256) ≡ place_at runs (j / 256) = omega (arith, same, where-it-is) in
          let run : i / 256 ≡ j / 256 = k.apart (i / 256) (j / 256) is places in
          omega (arith, same, where-it-is, places, run)

  pub item-is : at < length stored → item_at other runs (set stored at x) i ≡ x
  item-is there = ap (λ n. get_or (set stored at x) n other) (sym where-it-is) ∙ get_or-set_same stored at x other there

-- items that are like the others are appended
pub get-filled : {X : Type 0} (other : X) (stored : List X) (n at : ℕ) → get_or (stored ++ replicate n other) at other ≡ get_or stored at other
get-filled other [] zero at = refl
get-filled other [] (suc n) zero = refl
get-filled other [] (suc n) (suc at) = get-filled other [] n at
get-filled other (x ∷ stored) n zero = refl
get-filled other (x ∷ stored) n (suc at) = get-filled other stored n at

pub length-filled : {X : Type 0} (l : List X) (n : ℕ) (x : X) → length (l ++ replicate n x) ≡ length l + n
length-filled l n x = rw (length-append l (replicate n x), length-replicate n x) refl

-- a run is stored of which no item was set
pub same-more : {X : Type 0} (other : X) (runs : List ℕ) (stored : List X) (run place n index : ℕ) → length stored ≤ 256 * no_place → length stored ≤ 256 * place → run < length runs → place_at runs run ≡ no_place
    → item_at other (set runs run place) (stored ++ replicate n other) index ≡ item_at other runs stored index
same-more other runs stored run place n index few past there none = get-filled other stored n (256 * place_at (set runs run place) (index / 256) + index % 256) ∙ by (cases_eq (index / 256) run)
  where
    by : (index / 256 ≡ run) ⊎ (index / 256 ≢ run) → get_or stored (256 * place_at (set runs run place) (index / 256) + index % 256) other ≡ item_at other runs stored index
    by (inl same) =
        let is : place_at (set runs run place) (index / 256) ≡ place = ap (place_at (set runs run place)) same ∙ get_or-set_same runs run place no_place there in
        let was : place_at runs (index / 256) ≡ no_place = ap (place_at runs) same ∙ none in
        get_or_past stored (256 * place_at (set runs run place) (index / 256) + index % 256) other (omega (arith, past, is)) ∙ sym (item-other other runs stored index few was)
    by (inr apart) = ap (λ p. get_or stored (256 * p + index % 256) other) (get_or-set_other runs run (index / 256) place no_place apart)

-- a list with more items
pub items-extended : {X : Type 0} (other : X) (runs : List ℕ) (stored : List X) (n m : ℕ) → n ≤ m → IsShort other runs stored n
    → record { other = other; items = items_of other runs stored m } ≡ extended (record { other = other; items = items_of other runs stored n }) m
items-extended other runs stored n m more short =
    let item = item_at other runs stored in
    let sum : n + (m - n) ≡ m = omega (arith, more) in
    rw (length-items item 0 n) (ap (λ items. record { other = other; items = items }) (rw sum at (more-items item 0 n (m - n) other (λ i past. short i (omega (arith, past))))))

-- a list that has as many items already
pub items-kept : {X : Type 0} (other : X) (runs : List ℕ) (stored : List X) (n m : ℕ) → m ≤ n
    → record { other = other; items = items_of other runs stored n } ≡ extended (record { other = other; items = items_of other runs stored n }) m
items-kept other runs stored n m fewer =
    let item = item_at other runs stored in
    let none : m - n ≡ 0 = omega (arith, fewer) in
    rw (length-items item 0 n, none) (ap (λ items. record { other = other; items = items }) (sym (append-nil (items_from item 0 n))))

module _ {X : Type 0} (other : X) (runs : List ℕ) (stored : List X) (count : ℕ) (k : AreRuns runs (length stored)) (few : length runs < no_place) (short : IsShort other runs stored count) where
  -- what is read in a run that is not stored
  pub unplaced : (index : ℕ) → place_at runs (index / 256) ≡ no_place → get_or (items_of other runs stored count) index other ≡ other
  unplaced index none =
      let most = few-stored runs (length stored) k in
      sym (read-item other runs stored count index short) ∙ item-other other runs stored index (omega (arith, most, few)) none

-- runs that are not stored are appended
pub same-padded : {X : Type 0} (other : X) (runs : List ℕ) (stored : List X) (n index : ℕ) → item_at other (runs ++ replicate n no_place) stored index ≡ item_at other runs stored index
same-padded other runs stored n index = ap (λ place. get_or stored (256 * place + index % 256) other) (place-padded runs n (index / 256))
