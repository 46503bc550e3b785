use Rattle.std.proofs.Common.{refl}
use Rattle.shm_frames.proofs.Shown.{shown, frame-shown}
use Rattle.shm_frames.proofs.frames.Frames.referenced.Goals as goal

pub returns-clause-bit : goal.returns-clause-bit
returns-clause-bit c = rw (frame-shown (shown c.self.inside c.self.invariant.0 c.self.view_is) c.args.frame, c.state_of.ensures) refl
