-- What one more failure leaves of a fuse, and of a mirror of fuses.
use Rattle.std.proofs.Common.{◌≡◌, ℕ, ◌<◌, ◌≤◌, ◌+◌, Bool, true, false, not, ◌&&◌, ◌||◌, nat_lt, List, [], ◌∷◌, ◌++◌, refl, sym, subst, ◌∙◌, arith}
use Rattle.std.proofs.lemmas.Bool.{false≢true}
use Rattle.std.proofs.lemmas.Grind.{common_steps}
use Rattle.std.specs.Prelude.{Result, Ok, Err, OnOk}
use Rattle.shm_pager_core.specs.Pages.{last_count}
use Rattle.shm_pager_core.specs.Failing.{Places, place_after, with_place}
use Rattle.shm_pager.specs.Fuse.{FuseView, is_listed, listed_above, is_endless, fuse_most}
use Rattle.shm_pager.specs.Areas.{fuse_seen}
use Rattle.shm_pager_core.specs.Failing.{FailsLater}
use Rattle.shm_pager.specs.Failing.{reads_of, with_reads, with_writes, writes_of}
use Rattle.shm_pager_core.specs.declared.failing.ComingFailure.{ComingFailure}
use Rattle.shm_pager.proofs.Bounds.{most_of, most_of-le, one_if}

-- one more place is listed
listed-end : (places : List ℕ) (k n : ℕ) → is_listed (places ++ k ∷ []) n ≡ (is_listed places n || is_listed (k ∷ []) n)
listed-end [] k n = refl
listed-end (p ∷ places) k n = grind (arith, common_steps, listed-end places k n)

listed_above-end : (places : List ℕ) (k n : ℕ) → listed_above (places ++ k ∷ []) n ≡ listed_above places n + one_if (nat_lt n k && not (is_listed places k))
listed_above-end [] k n = grind (arith, common_steps)
listed_above-end (p ∷ places) k n = grind (arith, common_steps, listed_above-end places k n, listed-end places k p)

listed_above-some : (places : List ℕ) (k n : ℕ) → n < k → is_listed places k ≡ true → 1 ≤ listed_above places n
listed_above-some [] k n lt e = absurd (cc)
listed_above-some (p ∷ places) k n lt e = grind (arith, common_steps, listed_above-some places k n lt, e)

-- it is above the count of calls
listed_above-new : (places : List ℕ) (k n : ℕ) → n < k → 1 ≤ listed_above (places ++ k ∷ []) n
listed_above-new places k n lt = grind (arith, common_steps, listed_above-end places k n, listed_above-some places k n lt)

most_of-above : (b : Bool) (n failed : ℕ) → failed < last_count → (b ≡ false → failed < n) → failed < most_of b n
most_of-above true n failed lt above = lt
most_of-above false n failed lt above = omega (arith, lt, above refl)

module _ (f : FuseView) (call : ℕ) (some : 1 ≤ call) where
  abbrev reads_more : FuseView
  reads_more = with_reads f (with_place false (place_after f.side.reads call) (reads_of f))

  abbrev writes_more : FuseView
  writes_more = with_writes f (with_place false (place_after f.side.writes call) (writes_of f))

  reads-endless : is_endless f ≡ true → is_endless reads_more ≡ true
  reads-endless e = grind (arith, common_steps, listed-end f.side.bad_reads (place_after f.side.reads call) last_count, e)

  writes-endless : is_endless f ≡ true → is_endless writes_more ≡ true
  writes-endless e = grind (arith, common_steps, listed-end f.side.bad_writes (place_after f.side.writes call) last_count, e)

  reads-not_lower : fuse_most f ≤ fuse_most reads_more
  reads-not_lower =
      most_of-le (is_endless f) (is_endless reads_more) _ _ reads-endless
      (λ e. omega (arith, listed_above-end f.side.bad_reads (place_after f.side.reads call) f.side.reads))

  writes-not_lower : fuse_most f ≤ fuse_most writes_more
  writes-not_lower =
      most_of-le (is_endless f) (is_endless writes_more) _ _ writes-endless
      (λ e. omega (arith, listed_above-end f.side.bad_writes (place_after f.side.writes call) f.side.writes))

  -- the place is above the count, unless that is at its last value
  reads-above : f.side.reads ≤ last_count → is_endless reads_more ≡ false → f.side.reads < place_after f.side.reads call
  reads-above within e = grind (arith, common_steps, listed-end f.side.bad_reads (place_after f.side.reads call) last_count, e, some)

  writes-above : f.side.writes ≤ last_count → is_endless writes_more ≡ false → f.side.writes < place_after f.side.writes call
  writes-above within e = grind (arith, common_steps, listed-end f.side.bad_writes (place_after f.side.writes call) last_count, e, some)

  reads-come : f.side.reads ≤ last_count → f.failed < last_count → f.failed < fuse_most reads_more
  reads-come within lt =
      most_of-above (is_endless reads_more) _ f.failed lt
      (λ e. omega (arith, listed_above-new f.side.bad_reads (place_after f.side.reads call) f.side.reads (reads-above within e)))

  writes-come : f.side.writes ≤ last_count → f.failed < last_count → f.failed < fuse_most writes_more
  writes-come within lt =
      most_of-above (is_endless writes_more) _ f.failed lt
      (λ e. omega (arith, listed_above-new f.side.bad_writes (place_after f.side.writes call) f.side.writes (writes-above within e)))

-- every later call fails
reads-lasting : (f : FuseView) (place : ℕ) → fuse_most (with_reads f (with_place true place (reads_of f))) ≡ last_count
reads-lasting f place = grind (arith, common_steps)

writes-lasting : (f : FuseView) (place : ℕ) → fuse_most (with_writes f (with_place true place (writes_of f))) ≡ last_count
writes-lasting f place = grind (arith, common_steps)

most-last : (f : FuseView) → fuse_most f ≤ last_count
most-last f = grind (arith, common_steps)

-- a list was made longer, unless the host refused memory
module _ (c : ComingFailure) (f : FuseView) (some : 1 ≤ c.call) where
  abbrev writes_place : ℕ
  writes_place = place_after f.side.writes c.call

  writes_by : (is_lasting : Bool) → c.is_lasting ≡ is_lasting → f.side.writes ≤ last_count → FailsLater c (fuse_seen f) (fuse_seen (with_writes f (with_place is_lasting writes_place (writes_of f))))
  writes_by true is within = record {
    pages = refl;
    failed = refl;
    most = omega (arith, most-last f, writes-lasting f writes_place);
    comes = λ lt. omega (arith, lt, writes-lasting f writes_place);
    lasting = λ e. writes-lasting f writes_place;
  }
  writes_by false is within = record {
    pages = refl;
    failed = refl;
    most = writes-not_lower f c.call some;
    comes = writes-come f c.call some within;
    lasting = λ e. absurd (false≢true (sym is ∙ e));
  }

  pub later-writes : {A E : Type 0} (r : Result A E) (p : Places) → f.side.writes ≤ last_count → OnOk r (p ≡ with_place c.is_lasting writes_place (writes_of f)) → OnOk r (FailsLater c (fuse_seen f) (fuse_seen (with_writes f p)))
  later-writes (Ok a) p within is = subst (λ (q : Places). FailsLater c (fuse_seen f) (fuse_seen (with_writes f q))) (sym is) (writes_by c.is_lasting refl within)
  later-writes (Err e) p within is = is

module _ (c : ComingFailure) (f : FuseView) (some : 1 ≤ c.call) where
  abbrev reads_place : ℕ
  reads_place = place_after f.side.reads c.call

  reads_by : (is_lasting : Bool) → c.is_lasting ≡ is_lasting → f.side.reads ≤ last_count → FailsLater c (fuse_seen f) (fuse_seen (with_reads f (with_place is_lasting reads_place (reads_of f))))
  reads_by true is within = record {
    pages = refl;
    failed = refl;
    most = omega (arith, most-last f, reads-lasting f reads_place);
    comes = λ lt. omega (arith, lt, reads-lasting f reads_place);
    lasting = λ e. reads-lasting f reads_place;
  }
  reads_by false is within = record {
    pages = refl;
    failed = refl;
    most = reads-not_lower f c.call some;
    comes = reads-come f c.call some within;
    lasting = λ e. absurd (false≢true (sym is ∙ e));
  }

  pub later-reads : {A E : Type 0} (r : Result A E) (p : Places) → f.side.reads ≤ last_count → OnOk r (p ≡ with_place c.is_lasting reads_place (reads_of f)) → OnOk r (FailsLater c (fuse_seen f) (fuse_seen (with_reads f p)))
  later-reads (Ok a) p within is = subst (λ (q : Places). FailsLater c (fuse_seen f) (fuse_seen (with_reads f q))) (sym is) (reads_by c.is_lasting refl within)
  later-reads (Err e) p within is = is
