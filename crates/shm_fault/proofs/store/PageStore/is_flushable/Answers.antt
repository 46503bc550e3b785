use Rattle.shm_fault.proofs.Names.{◌≡◌, true, not, Some, sym, ap, ◌∙◌, frame_at, seen}
use Rattle.shm_fault.proofs.Flushes.{flushable}
use Rattle.shm_fault.proofs.store.PageStore.is_flushable.Goals as goal

pub returns-in-Some : goal.returns-in-Some
returns-in-Some g c =
    let owner : (frame_at c.self.inside.frames c.args.frame).owner ≡ Some c.in-Some.page = sym c.owner.ensures ∙ c.in-Some.is in
    let dirty : (frame_at c.self.inside.frames c.args.frame).dirty ≡ true = rw (← c.self.view_is) at c.requires.dirty in
    ap not c.is_locked.ensures ∙ rw (← c.self.view_is) (flushable (seen c.self.inside) c.args.frame c.in-Some.page owner dirty)
