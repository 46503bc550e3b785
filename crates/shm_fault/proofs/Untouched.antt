-- Pages that are nowhere, and the pages of all tables that are only in a slot.
use Rattle.shm_fault.proofs.Names.{◌≡◌, ℕ, zero, suc, ◌-◌, ◌+◌, ◌<◌, ◌≤◌, ◌&&◌, Bool, true, eqb, None, Slot, List, length, take, cond, ap, arith, count_by, PageRec, no_page, rec_at, is_swapped, sum_by_more, nat_tests, common_steps, [], ◌∷◌, Option, Some, get_or, sum_by, sum_by-cons, count_by-le-length, refl, SegRec, page_count, present, swapped_pages}
use Rattle.std.specs.Option.{option_eq}

-- 1 for a page that is in a slot and in no frame
abbrev pub one_if_swapped : PageRec → ℕ
one_if_swapped p = cond (is_swapped p) 1 0

module _ (ps : List PageRec) where
  -- one more page is counted
  pub swapped-more : (page : ℕ) → page < length ps → count_by is_swapped (take (page + 1) ps) ≡ count_by is_swapped (take page ps) + one_if_swapped (rec_at ps page)
  swapped-more page there = sum_by_more one_if_swapped ps page no_page there

  over : (first count : ℕ) → first + count ≤ length ps → ((page : ℕ) → first ≤ page → page < first + count → rec_at ps page ≡ no_page)
      → count_by is_swapped (take (first + count) ps) ≡ count_by is_swapped (take first ps)
  over first zero there none = ap (λ n. count_by is_swapped (take n ps)) (omega arith)
  over first (suc count) there none =
      let before = over first count (omega (arith, there)) (λ page on under. none page on (omega (arith, under))) in
      let more = swapped-more (first + count) (omega (arith, there)) in
      let last = ap one_if_swapped (none (first + count) (omega arith) (omega arith)) in
      let sum : first + suc count ≡ first + count + 1 = omega arith in
      rw sum (omega (arith, before, more, last))

  -- pages that are nowhere are not swapped
  pub swapped-over : (first next : ℕ) → first ≤ next → next ≤ length ps → ((page : ℕ) → first ≤ page → page < next → rec_at ps page ≡ no_page)
      → count_by is_swapped (take next ps) ≡ count_by is_swapped (take first ps)
  swapped-over first next on there none =
      let sum : first + (next - first) ≡ next = omega (arith, on) in
      rw sum at (over first (next - first) (omega (arith, on, there)) (λ page from under. none page from (omega (arith, on, under))))

-- a record that was compared with that of a page that is nowhere
pub nowhere : (same : Slot → Slot → Bool) (p : PageRec) → (option_eq eqb p.frame None && option_eq same p.slot None) ≡ true → p ≡ no_page
nowhere same p e = grind (arith, nat_tests, common_steps)

-- COPIES OF PAGE TABLES, AND THE PAGES OF ALL TABLES THAT ARE ONLY IN A SLOT

-- of one entry
abbrev pub swapped_of : Option SegRec → ℕ
swapped_of None = 0
swapped_of (Some g) = swapped_pages g

abbrev pages_of : Option SegRec → ℕ
pages_of None = 0
pages_of (Some g) = page_count g

pub swapped-present : (os : List (Option SegRec)) → sum_by swapped_of os ≡ sum_by swapped_pages (present os)
swapped-present [] = refl
swapped-present (None ∷ os) = omega (arith, swapped-present os, sum_by-cons swapped_of None os)
swapped-present (Some g ∷ os) = omega (arith, swapped-present os, sum_by-cons swapped_of (Some g) os, sum_by-cons swapped_pages g (present os))

pages-present : (os : List (Option SegRec)) → sum_by pages_of os ≡ sum_by page_count (present os)
pages-present [] = refl
pages-present (None ∷ os) = omega (arith, pages-present os, sum_by-cons pages_of None os)
pages-present (Some g ∷ os) = omega (arith, pages-present os, sum_by-cons pages_of (Some g) os, sum_by-cons page_count g (present os))

few : (o : Option SegRec) → swapped_of o ≤ pages_of o
few None = omega arith
few (Some g) = count_by-le-length is_swapped g.pages

-- the entries up to one, and that one, have no more swapped pages than there are pages
within : (os : List (Option SegRec)) (i : ℕ) (g : SegRec) → get_or os i None ≡ Some g → (sum_by swapped_of (take i os) + swapped_pages g ≤ sum_by pages_of os) × (page_count g ≤ sum_by pages_of os)
within [] i g at = cc
within (o ∷ os) zero g at = let less = count_by-le-length is_swapped g.pages in rw at (omega (arith, less, sum_by-cons pages_of (Some g) os), omega (arith, sum_by-cons pages_of (Some g) os))
within (o ∷ os) (suc i) g at =
    let more = within os i g at in
    (omega (arith, more.0, few o, sum_by-cons pages_of o os, sum_by-cons swapped_of o (take i os)), omega (arith, more.1, sum_by-cons pages_of o os))

pub swapped-le : (os : List (Option SegRec)) (i : ℕ) (g : SegRec) → get_or os i None ≡ Some g → (sum_by swapped_of (take i os) + swapped_pages g ≤ sum_by page_count (present os)) × (page_count g ≤ sum_by page_count (present os))
swapped-le os i g at = let w = within os i g at in let e = pages-present os in (omega (arith, w.0, e), omega (arith, w.1, e))
