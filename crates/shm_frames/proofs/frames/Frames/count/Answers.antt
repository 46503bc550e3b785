use Rattle.std.proofs.Common.{sym}
use Rattle.shm_frames.proofs.Shown.{shown, length-shown, clear-shown}
use Rattle.shm_frames.proofs.frames.Frames.count.Goals as goal

pub returns-clause-size : goal.returns-clause-size
returns-clause-size c = sym (length-shown (shown c.self.inside c.self.invariant.0 c.self.view_is))

pub returns-clause-clear : goal.returns-clause-clear
returns-clause-clear c = clear-shown (shown c.self.inside c.self.invariant.0 c.self.view_is) c.self.invariant.3.clear
