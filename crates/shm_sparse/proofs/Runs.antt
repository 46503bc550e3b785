-- Runs and their places.
use Rattle.std.proofs.Common.{◌≡◌, ◌≢◌, ℕ, zero, suc, ◌+◌, ◌-◌, ◌*◌, ◌/◌, ◌%◌, ◌<◌, ◌≤◌, Bool, true, false, cond, List, [], ◌∷◌, ◌++◌, length, set, replicate, refl, ap, ◌∙◌, arith, count_by, inl, inr, length-append}
use Rattle.std.proofs.lemmas.Bool.{cases_lt, le-ltb, lt-ltb}
use Rattle.std.proofs.lemmas.Grind.{common_steps}
use Rattle.std.proofs.lemmas.List.{length-replicate}
use Rattle.std.proofs.lemmas.List.Sums.{sum_by-append, sum_by-cons}
use Rattle.std.proofs.lemmas.List.Folds.{sum_by-replicate}
use Rattle.shm_sparse.specs.Sparse.{AreRuns, is_place, no_place, place_at, room_for, runs_for}

-- runs that are not stored are appended
pub place-padded : (runs : List ℕ) (n run : ℕ) → place_at (runs ++ replicate n no_place) run ≡ place_at runs run
place-padded [] zero run = refl
place-padded [] (suc n) zero = refl
place-padded [] (suc n) (suc run) = place-padded [] n run
place-padded (r ∷ runs) n zero = refl
place-padded (r ∷ runs) n (suc run) = place-padded runs n run

pub fits-padded : (runs : List ℕ) (run n : ℕ) → run < n → length runs ≤ n → length (runs ++ replicate (run + 1 - length runs) no_place) ≤ n
fits-padded runs run n there fits = rw (length-append runs (replicate (run + 1 - length runs) no_place), length-replicate (run + 1 - length runs) no_place) (omega (arith, there, fits))

pub reaches-padded : (runs : List ℕ) (run : ℕ) → run < length (runs ++ replicate (run + 1 - length runs) no_place)
reaches-padded runs run = rw (length-append runs (replicate (run + 1 - length runs) no_place), length-replicate (run + 1 - length runs) no_place) (omega arith)

count-padded : (runs : List ℕ) (n : ℕ) → count_by is_place (runs ++ replicate n no_place) ≡ count_by is_place runs
count-padded runs n = sum_by-append (λ p. cond (is_place p) 1 0) runs (replicate n no_place) ∙ (let none = sum_by-replicate (λ p. cond (is_place p) 1 0) n no_place in omega (arith, none))

pub runs-padded : (runs : List ℕ) (n stored : ℕ) → AreRuns runs stored → AreRuns (runs ++ replicate n no_place) stored
runs-padded runs n stored k =
    record {
      most = rw (count-padded runs n) k.most;
      least = rw (count-padded runs n) k.least;
      within = λ run is. rw (place-padded runs n run) (k.within run (rw (place-padded runs n run) at is));
      apart = λ run run' is same. k.apart run run' (rw (place-padded runs n run) at is) (rw (place-padded runs n run, place-padded runs n run') at same);
    }

abbrev one-if : Bool → ℕ
one-if b = cond b 1 0

count-cons : (r : ℕ) (runs : List ℕ) → count_by is_place (r ∷ runs) ≡ one-if (is_place r) + count_by is_place runs
count-cons r runs = sum_by-cons (λ p. cond (is_place p) 1 0) r runs

one-most : (b : Bool) → one-if b ≤ 1
one-most true = omega arith
one-most false = omega arith

-- as many are stored as there are, at most
pub count-most : (runs : List ℕ) → count_by is_place runs ≤ length runs
count-most [] = omega arith
count-most (r ∷ runs) = let h = count-most runs in let one = one-most (is_place r) in rw (count-cons r runs) (omega (arith, h, one))

-- fewer are stored if one is not
pub unstored : (runs : List ℕ) (run : ℕ) → run < length runs → place_at runs run ≡ no_place → count_by is_place runs < length runs
unstored [] run there none = absurd (omega (arith, there))
unstored (r ∷ runs) zero there none = let h = count-most runs in rw (count-cons r runs, none) (omega (arith, h))
unstored (r ∷ runs) (suc run) there none = let h = unstored runs run (omega (arith, there)) none in let one = one-most (is_place r) in rw (count-cons r runs) (omega (arith, h, one))

-- one more is stored then
stored-more : (runs : List ℕ) (run place : ℕ) → run < length runs → place_at runs run ≡ no_place → is_place place ≡ true → count_by is_place (set runs run place) ≡ count_by is_place runs + 1
stored-more [] run place there none is = absurd (omega (arith, there))
stored-more (r ∷ runs) zero place there none is =
    let one = ap one-if is in
    let zero-one = ap (λ n. one-if (is_place n)) none in
    let before = count-cons r runs in
    let after = count-cons place runs in
    omega (arith, one, zero-one, before, after)
stored-more (r ∷ runs) (suc run) place there none is =
    let h = stored-more runs run place (omega (arith, there)) none is in
    let before = count-cons r runs in
    let after = count-cons r (set runs run place) in
    omega (arith, h, before, after)

-- the first item of a run is stored after the others
pub runs-more : (runs : List ℕ) (stored run place n : ℕ) → run < length runs → length runs < no_place → place_at runs run ≡ no_place → AreRuns runs stored → place ≡ (stored + 255) / 256 → n ≡ place * 256 + 1
    → AreRuns (set runs run place) n
runs-more runs stored run place n there few none k next first =
    record {
      most = let more = stored-more runs run place there none is-place in omega (arith, more, count, first);
      least = let more = stored-more runs run place there none is-place in omega (arith, more, count, first);
      within = λ r is. inside r is;
      apart = λ r r' is same. alike r r' is same;
    }
  where
    count : place ≡ count_by is_place runs
    count = let most = k.most in let least = k.least in omega (arith, most, least, next)

    most : count_by is_place runs ≤ length runs
    most = count-most runs

    is-place : is_place place ≡ true
    is-place = grind (arith, common_steps, count, most, few)

    inside : (r : ℕ) → place_at (set runs run place) r ≢ no_place → 256 * place_at (set runs run place) r < n
    inside r is = let w = k.within r in grind (arith, common_steps, next, first)

    alike : (r r' : ℕ) → place_at (set runs run place) r ≢ no_place → place_at (set runs run place) r ≡ place_at (set runs run place) r' → r ≡ r'
    alike r r' is same = let w = k.within r in let w' = k.within r' in let apart = k.apart r r' in grind (arith, common_steps, next)

-- more items of the last run are stored
pub runs-filled : (runs : List ℕ) (stored run at : ℕ) → place_at runs run ≢ no_place → at < 256 * place_at runs run + 256 → AreRuns runs stored → AreRuns runs (stored + (at + 1 - stored))
runs-filled runs stored run at is inside k =
    let w = k.within run is in
    let most = k.most in
    let least = k.least in
    record {
      most = omega (arith, w, most, inside);
      least = omega (arith, least);
      within = λ r there. let v = k.within r there in omega (arith, v);
      apart = k.apart;
    }

-- how many items are stored, at most
pub few-stored : (runs : List ℕ) (stored : ℕ) → AreRuns runs stored → stored ≤ 256 * length runs
few-stored runs stored k = let count = k.most in let most = count-most runs in omega (arith, count, most)

-- the room without a second run, and with one
room-few : (count : ℕ) → count ≤ 256 → room_for count ≡ count
room-few count few = rw (le-ltb 256 count few) refl

room-many : (count : ℕ) → 256 < count → room_for count ≡ 256 * runs_for count
room-many count many = rw (lt-ltb 256 count many) refl

-- each run has room for its first item
pub first-fits : (count runs room : ℕ) → 1 ≤ count → runs ≤ runs_for count → room_for count ≤ room → 256 * runs < room + 256
first-fits count runs room some fit has = elim (cases_lt 256 count) [
  | inl many ↦ let is = room-many count many in omega (arith, is, has, fit)
  | inr few ↦ let is = room-few count few in omega (arith, is, has, fit, some, few)
]

-- each item of the list has room
pub item-fits : (runs : List ℕ) (stored count i at room : ℕ) → i < count → place_at runs (i / 256) ≢ no_place → at ≡ 256 * place_at runs (i / 256) + i % 256 → AreRuns runs stored → length runs ≤ runs_for count → room_for count ≤ room → at + 1 ≤ room
item-fits runs stored count i at room there is here k fit has = elim (cases_lt 256 count) [
  | inl many ↦ let is = room-many count many in omega (arith, is, has, fit, w, most, all, here)
  | inr few ↦ let is = room-few count few in omega (arith, is, has, fit, w, most, all, here, few, there)
]
  where
    w : 256 * place_at runs (i / 256) < stored
    w = k.within (i / 256) is

    most : stored ≤ 256 * count_by is_place runs
    most = k.most

    all : count_by is_place runs ≤ length runs
    all = count-most runs
