use Rattle.shm_life.proofs.Accessing.{by-caller}
use Rattle.shm_life.proofs.kernel.Kernel.access_by.Goals as goal

pub returns : goal.returns
returns g c =
    let same = c.caller_again.ensures.same in
    rw (← c.self.view_is) (by-caller _ c.args.addr c.args.pid c.in-Some.caller _ _ _ c.access.new.self _ c.in-Some.ensures.pid (rw same at c.in-Some.ensures.live) (rw same at c.access.ensures))
