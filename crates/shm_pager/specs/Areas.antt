-- The pages and failures of an area of each kind.
use Rattle.std.specs.Prelude.{ℕ, ◌≡◌, List, [], ◌∷◌, Result, replicate}
use Rattle.shm_pager_core.specs.Pages.{PagerView, SideCalls, blank, last_count, new_side, pager_seen}
use Rattle.shm_pager.specs.Fuse.{FuseView, after_read, after_write, new_fuse, fuse_most, fuse_calls}
use Rattle.shm_pager.specs.Mirror.{MirrorView, MirrorSeen, ReadsMirror, WritesMirror, mirror_of, mirror_seen, mirror_calls, pages_shown, left_alone}
use Rattle.shm_pager.specs.declared.area.AreaPager.{AreaPager}
use Rattle.shm_pager.specs.declared.area.AreaPager.TheVariants.{Ram, Sparse, Mirror}
use Rattle.shm_pager.specs.declared.area.Failing.{Failing}
use Rattle.shm_pager.specs.declared.area.AreaKind.{AreaKind}
use Rattle.shm_pager.specs.declared.area.AreaKind.TheVariants as kinds

-- the pages and failures of a fuse
abbrev pub fuse_pages : FuseView → List (List ℕ)
fuse_pages f = f.inner.pages

abbrev pub fuse_failed : FuseView → ℕ
fuse_failed f = f.failed

abbrev pub fuse_seen : FuseView → PagerView
fuse_seen = pager_seen fuse_pages fuse_failed fuse_most fuse_calls

-- a mirror of two fuses, by their pages and counts
abbrev pub fuses_seen : MirrorView FuseView FuseView → MirrorSeen
fuses_seen = mirror_seen fuse_pages fuse_failed fuse_most fuse_calls fuse_pages fuse_failed fuse_most fuse_calls

-- the pages of such a mirror
abbrev pub mirror_pages : MirrorView FuseView FuseView → List (List ℕ)
mirror_pages m = pages_shown (fuses_seen m)

-- and its calls
abbrev pub both_calls : MirrorView FuseView FuseView → List SideCalls
both_calls m = mirror_calls (fuses_seen m)

-- the page in each slot
abbrev pub area_pages : AreaPager → List (List ℕ)
area_pages (Ram f) = f.inner.pages
area_pages (Sparse f) = f.inner.pages
area_pages (Mirror m) = pages_shown (fuses_seen m)

-- how many reads and writes have failed
abbrev pub failed_in : AreaPager → ℕ
failed_in (Ram f) = f.failed
failed_in (Sparse f) = f.failed
failed_in (Mirror m) = m.failed

-- the most that ever will have failed
abbrev pub most_in : AreaPager → ℕ
most_in (Ram f) = fuse_most f
most_in (Sparse f) = fuse_most f
most_in (Mirror m) = last_count

-- the calls of each side
abbrev pub calls_in : AreaPager → List SideCalls
calls_in (Ram f) = fuse_calls f
calls_in (Sparse f) = fuse_calls f
calls_in (Mirror m) = both_calls m

-- A read of an area asks its fuse once, which so counts one read; a read of a mirror asks its good sides until one succeeds
abbrev pub ReadsOnce : {A E : Type 0} → ℕ → List ℕ → Result A E → AreaPager → AreaPager → Type 0
ReadsOnce slot bytes result (Ram f) (Ram g) = g.side ≡ after_read f.side
ReadsOnce slot bytes result (Sparse f) (Sparse g) = g.side ≡ after_read f.side
ReadsOnce slot bytes result (Mirror m) (Mirror n) = ReadsMirror slot bytes (fuses_seen m) (fuses_seen n) result
ReadsOnce slot bytes result _ _ = ⊥

-- and a write asks its fuse once; a write of a mirror asks both sides
abbrev pub WritesOnce : {A E : Type 0} → ℕ → List ℕ → Result A E → AreaPager → AreaPager → Type 0
WritesOnce slot bytes result (Ram f) (Ram g) = g.side ≡ after_write slot f.side
WritesOnce slot bytes result (Sparse f) (Sparse g) = g.side ≡ after_write slot f.side
WritesOnce slot bytes result (Mirror m) (Mirror n) = WritesMirror slot bytes (fuses_seen m) (fuses_seen n) result
WritesOnce slot bytes result _ _ = ⊥

-- which reads and writes of a side fail, by their places
pub record FailingCalls : Type 0 where
  pub reads : List ℕ
  pub writes : List ℕ

abbrev pub calls_of : Failing → FailingCalls
calls_of f = record { reads = f.reads.items; writes = f.writes.items }

-- a new fuse around slots of zeros: exactly the listed reads and writes will fail, and as many more as its pager may
abbrev pub fails_at : ℕ → ℕ → FailingCalls → FuseView
fails_at slots most calls = new_fuse (blank slots most []) calls.reads calls.writes 0

-- a new area of a kind, with zeros in each slot; only a mirror has a right side
abbrev pub IsOfKind : AreaKind → ℕ → FailingCalls → FailingCalls → AreaPager → Type 0
IsOfKind kinds.Ram slots left right (Ram f) = f ≡ fails_at slots 0 left
IsOfKind kinds.Sparse slots left right (Sparse f) = f ≡ fails_at slots last_count left
IsOfKind kinds.Mirror slots left right (Mirror m) =
    m ≡ mirror_of (fails_at slots 0 left) (fails_at slots 0 right) (replicate slots left_alone) 0
IsOfKind _ slots left right _ = ⊥

-- the most failures that it will count
abbrev pub most_of_kind : AreaKind → FailingCalls → ℕ
most_of_kind kinds.Ram left = fuse_most (fails_at 0 0 left)
most_of_kind kinds.Sparse left = last_count
most_of_kind kinds.Mirror left = last_count

-- the calls of its sides: none yet, and those that were listed will fail
abbrev pub calls_of_kind : AreaKind → FailingCalls → FailingCalls → List SideCalls
calls_of_kind kinds.Ram left right = new_side left.reads left.writes ∷ []
calls_of_kind kinds.Sparse left right = new_side left.reads left.writes ∷ []
calls_of_kind kinds.Mirror left right = new_side left.reads left.writes ∷ new_side right.reads right.writes ∷ []
