use Rattle.std.proofs.Common.{◌≤◌, length, ◌∙◌, arith}
use Rattle.shm_base.specs.Page.{zero_page}
use Rattle.shm_base.proofs.Stored.{more-padded}
use Rattle.shm_frames.specs.Table.{free_entry}
use Rattle.shm_frames.proofs.frames.extend.Goals as goal

pub loop-frame-preserved : goal.loop-frame-preserved
loop-frame-preserved c =
    let k = c.loop-frame.invariant in
    let few : length c.args.pages.now.items ≤ c.loop-frame._frame = omega (arith, c.requires.beside, k.2) in (
      rw (c.push_blank.ensures.table, k.0) (more-padded c.args.table.now.items c.loop-frame._frame free_entry k.2),
      rw (c.push_blank.ensures.pages, k.1) (more-padded c.args.pages.now.items c.loop-frame._frame zero_page few),
      omega (arith, k.2),
      c.push_blank.ensures.entries ∙ k.3,
      c.push_blank.ensures.rooms ∙ k.4,
      omega arith,
    )
