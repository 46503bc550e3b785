-- How many pages of a segment are in frames, and how many only in slots.
use Rattle.shm_life.proofs.Names.{◌≡◌, ◌<◌, ◌≤◌, ◌+◌, ◌∙◌, ℕ, if◌then◌else◌, zero, suc, None, refl, sym, ap, arith, length, List, ◌++◌, replicate, sum_by-append, StoreView, frame_of, PageRef, ◌-◌, Option, count_by, padded, is_away, resident_below}

nothing : (n : ℕ) → 0 + n ≡ n
nothing n = omega arith

and-nothing : (n : ℕ) → n + 0 ≡ n
and-nothing n = omega arith

next : (m n : ℕ) → suc m + n ≡ suc (m + n)
next m n = omega arith

passed-more : (s : StoreView) (seg first more : ℕ) → ((page : ℕ) → first ≤ page → page < more + first → frame_of s seg page ≡ None) → resident_below s seg (more + first) ≡ resident_below s seg first
passed-more s seg first zero none = ap (resident_below s seg) (nothing first)
passed-more s seg first (suc more) none =
    rw (next more first, none (more + first) (omega arith) (omega arith)) (omega (arith, passed-more s seg first more (λ page on before. none page on (omega (arith, before)))))

-- pages in no frame are passed
pub passed : (s : StoreView) (seg first last : ℕ) → first ≤ last → ((page : ℕ) → first ≤ page → page < last → frame_of s seg page ≡ None) → resident_below s seg last ≡ resident_below s seg first
passed s seg first last le none =
    let same : (last - first) + first ≡ last = omega (arith, le) in
    ap (resident_below s seg) (sym same) ∙ passed-more s seg first (last - first) (λ page on before. none page on (omega (arith, before, same)))

-- free slots have no page
none-away : (s : StoreView) (seg n : ℕ) → count_by (is_away s seg) (replicate n None) ≡ 0
none-away s seg zero = refl
none-away s seg (suc n) = none-away s seg n

away-free : (s : StoreView) (seg : ℕ) (xs : List (Option PageRef)) (n : ℕ) → count_by (is_away s seg) (xs ++ replicate n None) ≡ count_by (is_away s seg) xs
away-free s seg xs n =
    sum_by-append (λ (x : Option PageRef). if is_away s seg x then 1 else 0) xs (replicate n None)
    ∙ ap (λ k. count_by (is_away s seg) xs + k) (none-away s seg n)
    ∙ and-nothing (count_by (is_away s seg) xs)

pub away-padded : (s : StoreView) (seg : ℕ) (owners used : List (Option PageRef)) → owners ≡ padded used (length owners) None → count_by (is_away s seg) owners ≡ count_by (is_away s seg) used
away-padded s seg owners used is = ap (count_by (is_away s seg)) is ∙ away-free s seg used (length owners - length used)
