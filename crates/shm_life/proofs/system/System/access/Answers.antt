use Rattle.shm_life.proofs.Names.{length, refl, call_of, time_by}
use Rattle.shm_life.proofs.Accessing.{acted, does-kept}
use Rattle.shm_life.proofs.Counted.{access_counts, access_rises}
use Rattle.shm_life.proofs.Running.{replied_as}
use Rattle.shm_life.proofs.Lending.{keeps-loans}
use Rattle.shm_life.proofs.system.System.access.Goals as goal

pub returns-clause-replied : goal.returns-clause-replied
returns-clause-replied g c =
    rw (← c.self.view_is)
    (replied_as _ _ c.args.pid (call_of c.args.act c.args.addr (length c.args.there.now)) _ (rw (← c.self.view_is) at c.requires.room) (acted c.args.act _ _ (time_by c.self.inside.clock c.self.inside.calls) c.args.addr _ _ _ _ c.requires.fits c.access_by-done.ensures) refl (access_counts c.args.pid c.args.addr (length c.args.there.now) c.args.act _) (access_rises c.args.pid c.args.addr (length c.args.there.now) c.args.act _))

pub returns-clause-kept : goal.returns-clause-kept
returns-clause-kept g c = does-kept _ c.args.addr _ _ _ _ _ _ c.access_by-done.ensures

pub returns-clause-loans : goal.returns-clause-loans
returns-clause-loans g c = rw (← c.self.view_is) (keeps-loans _ c.args.addr _ _ _ _ _ _ c.access_by-done.ensures)
