use Rattle.shm_fault.proofs.Names.{◌≡◌, IsStoreSound, pager_seen, seen, held}
use Rattle.shm_fault.proofs.More.{added}
use Rattle.shm_fault.proofs.store.PageStore.add_area.Goals.{After-add}
use Rattle.shm_fault.proofs.store.PageStore.add_area.Goals as goal

done : (g : _) (c : After-add g) → IsStoreSound (record (seen c.self.inside) { swap = c.add.new.self }) × (held (record (seen c.self.inside) { swap = c.add.new.self }) ≡ held (seen c.self.inside))
done g c =
    let pager = pager_seen g.P.Pager.content g.P.Pager.failed g.P.Pager.most g.P.Pager.calls c.args.pager in
    added (seen c.self.inside) c.add.result pager c.add.new.self c.self.invariant.0 c.add.ensures.ok c.add.ensures.err c.add.ensures.sound

pub invariant_of-self : goal.invariant_of-self
invariant_of-self g c = ((done g (goal.at.invariant_of-self g c).After-add).0, c.self.invariant.1)

pub returns-clause-held : goal.returns-clause-held
returns-clause-held g c = rw (← c.self.view_is) (done g (goal.at.returns-clause-held g c).After-add).1

pub returns-clause-sound : goal.returns-clause-sound
returns-clause-sound g c = (done g (goal.at.returns-clause-sound g c).After-add).0
