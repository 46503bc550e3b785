use Rattle.shm_fault.proofs.Names.{◌∙◌, sym, seen}
use Rattle.shm_fault.proofs.Clock.{barred-some, barred-none}
use Rattle.shm_fault.proofs.store.PageStore.is_barred.Goals as goal

pub returns-in-Some : goal.returns-in-Some
returns-in-Some g c =
    let e = sym c.in-Some.is ∙ c.frame_or_leaver.ensures.value in
    rw (← c.self.view_is) (c.is_lent.ensures ∙ barred-some c.args.page c.args.pinned (seen c.self.inside) c.in-Some.frame (rw (← c.self.view_is) at e))

pub returns-in-None : goal.returns-in-None
returns-in-None g c =
    let e = sym c.in-None.is ∙ c.frame_or_leaver.ensures.value in
    rw (← c.self.view_is) (barred-none c.args.page c.args.pinned (seen c.self.inside) (rw (← c.self.view_is) at e))
