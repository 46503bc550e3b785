-- A segment is removed: it is destroyed if it has no pieces, and marked if it has some.
use Rattle.shm_life.proofs.Names.{◌≡◌, ◌≢◌, ℕ, ◌+◌, ◌/◌, ◌%◌, ◌≤◌, false, List, [], ◌∷◌, length, get_or, Some, None, refl, sym, ap, ◌∙◌, eq-eqb, ne_eqb, All, Entry, Runner, attach_count, change, marked, swept, live, destroyed, is_orphan, get-set_same, IsFound, segment_seen, OrphansAmong, Sweeps, IsWell, StoreView, frame_of, Translation, AreTrue, KeepsMemory, Bounds, sizes, subst, length-slice_set, slice_get, slice_set, zero, suc, Ends}
use Rattle.shm_segments.specs.declared.head.Found.{Found}
use Rattle.shm_life.proofs.Orphans.{swept-none}
use Rattle.shm_life.proofs.Running.{sweeps-none, swept-well}
use Rattle.shm_life.proofs.Sweeping.{fewer-destroyed, fewer-left, sweeps-destroyed}
use Rattle.shm_life.proofs.Changed.{marked-left, marked-well}

set-twice : (t : List Entry) (i : ℕ) (x y : Entry) → slice_set (slice_set t i x) i y ≡ slice_set t i y
set-twice [] i x y = refl
set-twice (e ∷ es) zero x y = refl
set-twice (e ∷ es) (suc i) x y = ap (λ (r : List Entry). e ∷ r) (set-twice es i x y)

-- translations name no page of a segment that has no pieces
pub true-unnamed : (ts : List Translation) (a b : StoreView) (seg : ℕ) → All (λ (t : Translation). t.seg ≢ seg) ts → ((s page : ℕ) → s ≢ seg → frame_of b s page ≡ frame_of a s page) → AreTrue ts a → AreTrue ts b
true-unnamed ts a b seg named still all = λ k d lt. all k d lt ∙ sym (still (get_or ts k d).seg (get_or ts k d).page (named k d lt))

module _ (rs : List Runner) (t : List Entry) (f : Found) (found : IsFound t f) (few : length t ≤ 32768) where
  abbrev after : Entry
  after = record { destroyed = f.seg / 32768; segment = Some (marked (segment_seen t f)) }

  is-set : change t f.seg marked ≡ slice_set t (f.seg % 32768) after
  is-set = rw found.entry refl

  here : slice_get (change t f.seg marked) (f.seg % 32768) ≡ Some after
  here = ap (λ (u : List Entry). slice_get u (f.seg % 32768)) is-set ∙ get-set_same t (f.seg % 32768) after _ found.entry

  few-marked : length (change t f.seg marked) ≤ 32768
  few-marked = rw (ap length is-set ∙ length-slice_set t (f.seg % 32768) after) few

  -- if it was destroyed before it was marked, the table is the same
  destroyed-marked : destroyed (change t f.seg marked) f.seg ≡ destroyed t f.seg
  destroyed-marked = ap (λ (u : List Entry). destroyed u f.seg) is-set ∙ set-twice t (f.seg % 32768) after (record { destroyed = f.seg / 32768 + 1; segment = None })

  -- the table after it, as the flat machine makes it: it marks the segment, and then sweeps all
  pub record Removes (u : List Entry) : Type 0 where
    pub swept : swept rs (change t f.seg marked) ≡ u
    pub sweeps : Sweeps rs (change t f.seg marked) u
    pub none : OrphansAmong [] rs u

  pub destroys : attach_count rs f.seg ≡ 0 → OrphansAmong [] rs t → Removes (destroyed t f.seg)
  destroys none orphans =
      let m = change t f.seg marked in
      let sweeps = sweeps-destroyed rs m f.seg (marked (segment_seen t f)) here refl none in
      let left = fewer-destroyed m f.seg after here refl rs [] few-marked (marked-left rs t f found orphans) in
      subst Removes destroyed-marked (record { swept = sym sweeps.swept ∙ swept-none rs (destroyed m f.seg) left; sweeps = sweeps; none = left })

  pub marks : attach_count rs f.seg ≢ 0 → OrphansAmong [] rs t → Removes (change t f.seg marked)
  marks some orphans =
      let m = change t f.seg marked in
      let attached : is_orphan rs f.seg (live m f.seg) ≡ false = rw (here, eq-eqb (f.seg / 32768) (f.seg / 32768) refl, ne_eqb (attach_count rs f.seg) 0 some) refl in
      let left = fewer-left rs m f.seg [] few-marked attached (marked-left rs t f found orphans) in
      record { swept = swept-none rs m left; sweeps = sweeps-none rs m; none = left }

  pub removed-well : (u : List Entry) (limits : Bounds) (ts : List Translation) (m n : StoreView) → Removes u → KeepsMemory m n → (AreTrue ts m → AreTrue ts n) → sizes n.swap ≡ sizes m.swap → Ends m n → IsWell limits t rs ts m → IsWell limits u rs ts n
  removed-well u limits ts m n r keeps translated same ends w =
      swept-well limits rs ts (change t f.seg marked) u m n (record { sweeps = r.sweeps; keeps = keeps; translated = translated; same_sizes = same; ends = ends }) r.none (marked-well limits t rs ts m f found w)
