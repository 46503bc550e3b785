use Rattle.std.proofs.Common.{◌≡◌, ◌≤◌, ◌/◌, length, false, set, ap, sym, ◌∙◌, arith}
use Rattle.std.proofs.lemmas.List.{set_past}
use Rattle.shm_base.specs.Stored.{padded}
use Rattle.shm_base.proofs.Stored.{unset-padded}
use Rattle.shm_frames.proofs.skips.Skips.forget.Goals as goal

pub returns-then-block-len : goal.returns-then-block-len
returns-then-block-len c = rw (← c.self.view_is) (unset-padded c.self.inside.marks.items c.self.inside.blocks (c.args.frame / 64) false)

pub returns-else-block-len : goal.returns-else-block-len
returns-else-block-len c =
    let block = c.args.frame / 64 in
    let marks = c.self.inside.marks.items in
    let past : length marks ≤ block = omega (arith, c.if-block-len.false, c.len.ensures) in
    let same : padded marks c.self.inside.blocks false ≡ set (padded marks c.self.inside.blocks false) block false =
    ap (λ ms. padded ms c.self.inside.blocks false) (sym (set_past marks block false past)) ∙ unset-padded marks c.self.inside.blocks block false in
    rw (← c.self.view_is) same
