use Rattle.shm_attach.proofs.Names.{frame_of, TrueTable, ◌≡◌, ◌≤◌, ◌-◌, None, length}
use Rattle.shm_attach.proofs.Untouched.{KnownBelow}
use Rattle.shm_attach.proofs.table.Table.extend.Given as goal

-- the frames so far
abbrev pub invariant-loop-page : goal.invariant-loop-page
invariant-loop-page g l =
    let old = l.initial.self-inside in
    let now = l.self-inside in
    record {
      seg : now.seg ≡ old.seg;
      count : now.count ≡ old.count;
      other : now.frames.other ≡ None;
      size : length now.frames.items ≡ l.pages;
      within : l.page ≤ l.pages;
      known : TrueTable (frame_of l.store) l.fn.self → KnownBelow (frame_of l.store old.seg) l.page now.frames.items;
    }

abbrev pub decreases-loop-page : goal.decreases-loop-page
decreases-loop-page g l = l.pages - l.page
