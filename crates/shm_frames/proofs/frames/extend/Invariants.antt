use Rattle.std.proofs.Common.{◌≡◌, ◌≤◌, ◌+◌, length, vec_capacity}
use Rattle.shm_base.specs.Page.{zero_page}
use Rattle.shm_base.specs.Stored.{padded}
use Rattle.shm_frames.specs.Table.{free_entry}
use Rattle.shm_frames.proofs.frames.extend.Given as goal

abbrev pub invariant-loop-frame : goal.invariant-loop-frame
invariant-loop-frame l = (l.table.items ≡ padded l.initial.table.items l._frame free_entry)
    × (l.pages.items ≡ padded l.initial.pages.items l._frame zero_page)
    × (length l.initial.table.items ≤ l._frame)
    × (vec_capacity l.table ≡ vec_capacity l.initial.table)
    × (vec_capacity l.pages ≡ vec_capacity l.initial.pages)
    × (l._frame ≤ l.frame + 1)
