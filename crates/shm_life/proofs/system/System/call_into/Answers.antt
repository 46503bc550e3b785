use Rattle.shm_life.proofs.Names.{◌≡◌, refl, time_by}
use Rattle.shm_life.proofs.Running.{replied_as}
use Rattle.shm_life.proofs.system.System.call_into.Goals as goal

pub returns-clause-ok : goal.returns-clause-ok
returns-clause-ok g c =
    let time : c.time-time.result ≡ time_by c.self.inside.clock c.self.inside.calls = rw (← c.self.view_is) at c.time-time.ensures in
    rw (← c.self.view_is)
    (replied_as _ _ c.args.pid c.args.call.now c.call.new.reply (rw (← c.self.view_is) at c.requires.room) (rw time at c.in_ok-call.ensures.answered) refl c.count_call.ensures.counted c.count_call.ensures.rises)
