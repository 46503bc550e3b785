use Rattle.std.proofs.Common.{◌<◌, ◌+◌, ◌/◌, false, true, set, ap, ◌∙◌, arith}
use Rattle.shm_base.specs.Stored.{padded}
use Rattle.shm_base.proofs.Stored.{length-padded, set-padded, padded-padded, within-padded}
use Rattle.shm_frames.proofs.skips.Skips.mark.Goals as goal

pub returns : goal.returns
returns c =
    let block = c.args.frame / 64 in
    let marks = c.self.inside.marks.items in
    let n = c.self.inside.blocks in
    let there : block < n = rw (← c.self.view_is, length-padded marks n false c.self.invariant.0) at c.requires in
    rw (c.mark.ensures.marks, ← c.self.view_is)
    (set-padded (padded marks (block + 1) false) n block true false (within-padded marks (block + 1) block false (omega arith))
    ∙ ap (λ ms. set ms block true) (padded-padded marks (block + 1) n false (omega (arith, there)) c.self.invariant.0))
