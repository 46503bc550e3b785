use Rattle.std.proofs.Common.{◌≡◌, None, arith}
use Rattle.shm_frames.specs.Table.{IsFrameTable}
use Rattle.shm_frames.proofs.Shown.{shown}
use Rattle.shm_frames.proofs.Dirty.{found-shown, clean-shown, none-dirty}
use Rattle.shm_frames.proofs.frames.Frames.next_dirty.Goals as goal

pub returns-clause-some : goal.returns-clause-some
returns-clause-some c = found-shown (shown c.self.inside c.self.invariant.0 c.self.view_is) c.args.from c.dirty_from.result c.dirty_from.ensures.some

pub returns-clause-least : goal.returns-clause-least
returns-clause-least c = clean-shown (shown c.self.inside c.self.invariant.0 c.self.view_is) c.args.from c.dirty_from.result c.dirty_from.ensures.clean

pub returns-then-self-eq0-clause-least : goal.returns-then-self-eq0-clause-least
returns-then-self-eq0-clause-least c =
    let k : IsFrameTable c.self.inside.table.items c.self.inside.first_free c.self.inside.resident 0 = rw c.if-self-eq0.true at c.self.invariant.3 in
    clean-shown (shown c.self.inside c.self.invariant.0 c.self.view_is) c.args.from None (λ i le lt. none-dirty c.self.inside.table.items c.self.inside.first_free c.self.inside.resident k i (omega arith) lt)
