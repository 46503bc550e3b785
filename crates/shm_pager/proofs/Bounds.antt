-- The most failures that a fuse will count.
use Rattle.std.proofs.Common.{◌≡◌, ℕ, ◌<◌, ◌≤◌, ◌+◌, ◌-◌, Bool, true, false, not, ◌&&◌, ◌||◌, if◌then◌else◌, List, [], ◌∷◌, Option, None, min, refl, sym, ◌∙◌, arith}
use Rattle.std.proofs.lemmas.Grind.{common_steps}
use Rattle.shm_pager_core.specs.Pages.{PagerView, Counts, TriesRead, served, last_count, next_count}
use Rattle.shm_pager.specs.Fuse.{FuseView, after_read, after_write, is_bad_slot, is_listed, is_past, listed_above, is_endless, fuse_most, read_is_bad, write_is_bad}
use Rattle.shm_pager.specs.Failing.{reads_of, writes_of}

-- one for a listed place
abbrev pub one_if : Bool → ℕ
one_if b = if b then 1 else 0

-- a count of calls passes the place that it reaches, if that is listed
listed_above-more : (places : List ℕ) (n : ℕ) → listed_above places n ≡ one_if (is_listed places (n + 1)) + listed_above places (n + 1)
listed_above-more [] n = refl
listed_above-more (k ∷ ks) n = grind (arith, common_steps, listed_above-more ks n)

pub listed_above-next : (places : List ℕ) (n : ℕ) → n ≤ last_count → is_listed places last_count ≡ false
    → listed_above places n ≡ one_if (is_listed places (next_count n)) + listed_above places (next_count n)
listed_above-next places n within clear = grind (arith, common_steps, listed_above-more places n, clear)

-- a call leaves its pager no more failures than it had
left-falls : (p q : PagerView) → Counts p q → q.most - q.failed ≤ p.most - p.failed
left-falls p q c = grind (arith, common_steps)

-- one less if it failed, unless no number bounds them
left-drops : (p q : PagerView) → Counts p q → served p q ≡ false → p.most < last_count → (q.most - q.failed) + 1 ≤ p.most - p.failed
left-drops p q c e lt = grind (arith, common_steps)

-- the count and what is left, up to the last count
abbrev pub most_of : Bool → ℕ → ℕ
most_of endless n = if endless then last_count else min n last_count

pub most_of-le : (a b : Bool) (m n : ℕ) → (a ≡ true → b ≡ true) → (b ≡ false → m ≤ n) → most_of a m ≤ most_of b n
most_of-le true true m n e le = omega arith
most_of-le true false m n e le = grind (arith, common_steps, e)
most_of-le false true m n e le = omega arith
most_of-le false false m n e le = omega (arith, le refl)

most_of-same : (a b : Bool) (m n : ℕ) → a ≡ b → (b ≡ false → m ≡ n) → most_of a m ≡ most_of b n
most_of-same true true m n e le = refl
most_of-same true false m n e le = absurd (cc)
most_of-same false true m n e le = absurd (cc)
most_of-same false false m n e le = rw (le refl) refl

-- a fuse has counted no more than the most that it will count
pub bounded-fuse : (f : FuseView) → f.failed ≤ last_count → f.failed ≤ fuse_most f
bounded-fuse f le = grind (arith, common_steps)

-- only listed calls fail if no place is one from which on each does
without_end : (places : List ℕ) (end : Option ℕ) (n : ℕ) → end ≡ None → (is_listed places n || is_past end n) ≡ is_listed places n
without_end places end n none = grind (arith, common_steps, none)

-- a fuse after a read and after a write, which made some slot good
abbrev read_of : FuseView → PagerView → ℕ → FuseView
read_of f q failed = record f { inner = q; side = after_read f.side; failed = failed }

abbrev written_of : ℕ → FuseView → PagerView → ℕ → FuseView
written_of slot f q failed = record f { inner = q; side = after_write slot f.side; failed = failed }

module _ (f : FuseView) (q : PagerView) where
  -- the bounds of its pager show that no listed place is one at which a count stops
  clear-reads : is_endless f ≡ false → is_listed f.side.bad_reads last_count ≡ false
  clear-reads e = grind (arith, common_steps, e)

  clear-writes : is_endless f ≡ false → is_listed f.side.bad_writes last_count ≡ false
  clear-writes e = grind (arith, common_steps, e)

  clear-read_end : is_endless f ≡ false → f.side.reads_end ≡ None
  clear-read_end e = grind (arith, common_steps, e)

  clear-write_end : is_endless f ≡ false → f.side.writes_end ≡ None
  clear-write_end e = grind (arith, common_steps, e)

  clear-slots : is_endless f ≡ false → f.side.had_bad_slots ≡ false
  clear-slots e = grind (arith, common_steps, e)

  clear-inner : is_endless f ≡ false → f.inner.most < last_count
  clear-inner e = grind (arith, common_steps, e)

  -- so only listed calls fail
  listed-reads : (slot : ℕ) → is_endless f ≡ false → read_is_bad f slot ≡ is_listed f.side.bad_reads (next_count f.side.reads)
  listed-reads slot e = grind (arith, common_steps, clear-read_end e, clear-slots e)

  listed-writes : is_endless f ≡ false → write_is_bad f ≡ is_listed f.side.bad_writes (next_count f.side.writes)
  listed-writes e = without_end f.side.bad_writes f.side.writes_end (next_count f.side.writes) (clear-write_end e)

  endless-back : (g : FuseView) → reads_of g ≡ reads_of f → writes_of g ≡ writes_of f → g.side.had_bad_slots ≡ f.side.had_bad_slots → g.inner.most ≤ f.inner.most → is_endless g ≡ true → is_endless f ≡ true
  endless-back g r w had le e = grind (arith, common_steps, r, w, had, e)

  module _ (within : f.side.reads ≤ last_count) where
    pub read-same : (slot : ℕ) → read_is_bad f slot ≡ false → q.most ≡ f.inner.most → q.failed ≡ f.inner.failed → fuse_most (read_of f q f.failed) ≡ fuse_most f
    read-same slot good most failed =
        most_of-same (is_endless (read_of f q f.failed)) (is_endless f) _ _ (rw most refl)
        (λ e. omega (arith, most, failed, rw (sym (listed-reads slot e) ∙ good) at (listed_above-next f.side.bad_reads f.side.reads within (clear-reads e))))

    pub read-listed : (slot : ℕ) → read_is_bad f slot ≡ true → q ≡ f.inner → fuse_most (read_of f q (f.failed + 1)) ≤ fuse_most f
    read-listed slot bad same =
        most_of-le (is_endless (read_of f q (f.failed + 1))) (is_endless f) _ _ (λ e. rw same at e)
        (λ e. rw same (omega (arith, rw (sym (listed-reads slot e) ∙ bad) at (listed_above-next f.side.bad_reads f.side.reads within (clear-reads e)))))

    pub read-failed : (slot : ℕ) → read_is_bad f slot ≡ false → Counts f.inner q → served f.inner q ≡ false → fuse_most (read_of f q (f.failed + 1)) ≤ fuse_most f
    read-failed slot good c un =
        most_of-le (is_endless (read_of f q (f.failed + 1))) (is_endless f) _ _ (endless-back (read_of f q (f.failed + 1)) refl refl refl c.most)
        (λ e. omega (arith, left-drops f.inner q c un (clear-inner e), rw (sym (listed-reads slot e) ∙ good) at (listed_above-next f.side.bad_reads f.side.reads within (clear-reads e))))

  module _ (slot : ℕ) (within : f.side.writes ≤ last_count) where
    pub write-same : write_is_bad f ≡ false → q.most ≡ f.inner.most → q.failed ≡ f.inner.failed → fuse_most (written_of slot f q f.failed) ≡ fuse_most f
    write-same good most failed =
        most_of-same (is_endless (written_of slot f q f.failed)) (is_endless f) _ _ (rw most refl)
        (λ e. omega (arith, most, failed, rw (sym (listed-writes e) ∙ good) at (listed_above-next f.side.bad_writes f.side.writes within (clear-writes e))))

    pub write-listed : write_is_bad f ≡ true → Counts f.inner q → fuse_most (written_of slot f q (f.failed + 1)) ≤ fuse_most f
    write-listed bad c =
        most_of-le (is_endless (written_of slot f q (f.failed + 1))) (is_endless f) _ _ (endless-back (written_of slot f q (f.failed + 1)) refl refl refl c.most)
        (λ e. omega (arith, left-falls f.inner q c, rw (sym (listed-writes e) ∙ bad) at (listed_above-next f.side.bad_writes f.side.writes within (clear-writes e))))

    pub write-failed : write_is_bad f ≡ false → Counts f.inner q → served f.inner q ≡ false → fuse_most (written_of slot f q (f.failed + 1)) ≤ fuse_most f
    write-failed good c un =
        most_of-le (is_endless (written_of slot f q (f.failed + 1))) (is_endless f) _ _ (endless-back (written_of slot f q (f.failed + 1)) refl refl refl c.most)
        (λ e. omega (arith, left-drops f.inner q c un (clear-inner e), rw (sym (listed-writes e) ∙ good) at (listed_above-next f.side.bad_writes f.side.writes within (clear-writes e))))

-- a read is bad if it is listed, or if its slot is bad
pub bad_read : (f : FuseView) (slot : ℕ) (bad listed is_bad : Bool) → listed ≡ (is_listed f.side.bad_reads (next_count f.side.reads) || is_past f.side.reads_end (next_count f.side.reads))
    → is_bad ≡ is_bad_slot f slot → bad ≡ (listed || is_bad) → bad ≡ read_is_bad f slot
bad_read f slot bad listed is_bad l b e = rw (e, l, b) (either (is_listed f.side.bad_reads (next_count f.side.reads)) (is_past f.side.reads_end (next_count f.side.reads)) (is_bad_slot f slot))
  where
    either : (x y z : Bool) → ((x || y) || z) ≡ (x || y || z)
    either true y z = refl
    either false y z = refl

-- a read that succeeded, and one that failed
pub most-read : (f : FuseView) (q : PagerView) (slot : ℕ) (bad : Bool) → f.side.reads ≤ last_count → bad ≡ read_is_bad f slot → (not bad && served f.inner q) ≡ true
    → (not bad ≡ true → TriesRead f.inner q) → fuse_most (read_of f q f.failed) ≡ fuse_most f
most-read f q slot false within is ok tried =
    let counts = (tried refl).counts in
    read-same f q within slot (sym is) (counts.same_most ok) (grind (arith, common_steps, ok))
most-read f q slot true within is ok tried = absurd (cc)

pub most-unread : (f : FuseView) (q : PagerView) (slot : ℕ) (bad : Bool) → f.side.reads ≤ last_count → bad ≡ read_is_bad f slot → (not bad && served f.inner q) ≡ false
    → (not bad ≡ true → TriesRead f.inner q) → (not bad ≡ false → q ≡ f.inner) → fuse_most (read_of f q (f.failed + 1)) ≤ fuse_most f
most-unread f q slot false within is failed tried same = read-failed f q within slot (sym is) (tried refl).counts failed
most-unread f q slot true within is failed tried same = read-listed f q within slot (sym is) (same refl)

-- a write that succeeded, and one that failed
pub most-written : (f : FuseView) (q : PagerView) (slot : ℕ) → f.side.writes ≤ last_count → write_is_bad f ≡ false → served f.inner q ≡ true
    → Counts f.inner q → fuse_most (written_of slot f q f.failed) ≡ fuse_most f
most-written f q slot within good ok counts = write-same f q slot within good (counts.same_most ok) (grind (arith, common_steps, ok))

pub most-unwritten : (f : FuseView) (q : PagerView) (slot : ℕ) (bad : Bool) → f.side.writes ≤ last_count → bad ≡ write_is_bad f → (not bad && served f.inner q) ≡ false
    → Counts f.inner q → fuse_most (written_of slot f q (f.failed + 1)) ≤ fuse_most f
most-unwritten f q slot false within is failed counts = write-failed f q slot within (sym is) counts failed
most-unwritten f q slot true within is failed counts = write-listed f q slot within (sym is) counts
