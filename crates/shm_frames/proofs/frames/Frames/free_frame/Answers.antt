use Rattle.std.proofs.Common.{Some, None, sym, arith}
use Rattle.shm_frames.proofs.First.{least_is}
use Rattle.shm_frames.proofs.Shown.{shown, first-shown, none-shown}
use Rattle.shm_frames.proofs.frames.Frames.free_frame.Goals as goal

pub returns-then-least-self-clause-value : goal.returns-then-least-self-clause-value
returns-then-least-self-clause-value c = sym (none-shown (shown c.self.inside c.self.invariant.0 c.self.view_is) c.least_free-least.result (omega arith) c.least_free-least.ensures.used)

pub returns-then-least-self-clause-least : goal.returns-then-least-self-clause-least
returns-then-least-self-clause-least c = least_is c.args.self.now None (none-shown (shown c.self.inside c.self.invariant.0 c.self.view_is) c.least_free-least.result (omega arith) c.least_free-least.ensures.used)

pub returns-clause-value : goal.returns-clause-value
returns-clause-value c = sym (first-shown (shown c.self.inside c.self.invariant.0 c.self.view_is) c.least_free-least.result (omega arith) c.least_free-least.ensures.free c.least_free-least.ensures.used)

pub returns-clause-least : goal.returns-clause-least
returns-clause-least c = least_is c.args.self.now (Some c.least_free-least.result) (first-shown (shown c.self.inside c.self.invariant.0 c.self.view_is) c.least_free-least.result (omega arith) c.least_free-least.ensures.free c.least_free-least.ensures.used)
