use Rattle.std.proofs.Common.{refl}
use Rattle.shm_frames.proofs.Shown.{shown, frame-shown}
use Rattle.shm_frames.proofs.frames.Frames.is_lent.Goals as goal

pub returns : goal.returns
returns c = rw (frame-shown (shown c.self.inside c.self.invariant.0 c.self.view_is) c.args.frame, c.state_of.ensures) refl
