-- What failures of calls to come leave of a fuse, a mirror and an area.
use Rattle.std.specs.Prelude.{ℕ, Bool, true, false, if◌then◌else◌}
use Rattle.shm_pager_core.specs.Failing.{Places, is_left, set_reads, set_writes, side_failing, side_reads, side_with_bad, side_writes}
use Rattle.shm_pager_core.specs.declared.failing.ComingFailure.{ComingFailure}
use Rattle.shm_pager.specs.Fuse.{FuseView}
use Rattle.shm_pager.specs.Mirror.{MirrorView}
use Rattle.shm_pager.specs.declared.area.AreaPager.{AreaPager}
use Rattle.shm_pager.specs.declared.area.AreaPager.TheVariants.{Ram, Sparse, Mirror}

-- the reads, or the writes, of a fuse
abbrev pub reads_of : FuseView → Places
reads_of f = side_reads f.side

abbrev pub writes_of : FuseView → Places
writes_of f = side_writes f.side

abbrev pub with_reads : FuseView → Places → FuseView
with_reads f p = record f { side = set_reads f.side p }

abbrev pub with_writes : FuseView → Places → FuseView
with_writes f p = record f { side = set_writes f.side p }

-- a fuse of which one more call fails, or all from that call on
abbrev pub will_fail : ComingFailure → FuseView → FuseView
will_fail c f = record f { side = side_failing c f.side }

-- a fuse of which one more slot can't be read
abbrev pub with_bad_slot : ℕ → FuseView → FuseView
with_bad_slot slot f = record f { side = side_with_bad slot f.side }

-- a mirror: its side is as such a fuse
abbrev pub side_will_fail : ComingFailure → MirrorView FuseView FuseView → MirrorView FuseView FuseView
side_will_fail c m =
    if is_left c.side then record m { left = will_fail c m.left } else record m { right = will_fail c m.right }

-- an area: its fuse, or one of its mirror's
abbrev pub area_will_fail : ComingFailure → AreaPager → AreaPager
area_will_fail c (Ram f) = Ram (will_fail c f)
area_will_fail c (Sparse f) = Sparse (will_fail c f)
area_will_fail c (Mirror m) = Mirror (side_will_fail c m)

-- a slot of an area can't be read; of a mirror, not from either side
abbrev pub with_bad_sides : ℕ → MirrorView FuseView FuseView → MirrorView FuseView FuseView
with_bad_sides slot m = record m { left = with_bad_slot slot m.left; right = with_bad_slot slot m.right }

abbrev pub area_with_bad_slot : ℕ → AreaPager → AreaPager
area_with_bad_slot slot (Ram f) = Ram (with_bad_slot slot f)
area_with_bad_slot slot (Sparse f) = Sparse (with_bad_slot slot f)
area_with_bad_slot slot (Mirror m) = Mirror (with_bad_sides slot m)

-- only a mirror has a right side
abbrev pub is_mirror : AreaPager → Bool
is_mirror (Mirror m) = true
is_mirror _ = false
