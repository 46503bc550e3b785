use Rattle.shm_frames.proofs.Shown.{shown, lent-shown}
use Rattle.shm_frames.proofs.frames.Frames.lent.Goals as goal

pub returns : goal.returns
returns c = rw (c.from.ensures, lent-shown (shown c.self.inside c.self.invariant.0 c.self.view_is)) c.self.invariant.4
