use Rattle.shm_life.proofs.Names.{◌∙◌, sym}
use Rattle.shm_life.proofs.Lending.{second-asked}
use Rattle.shm_life.proofs.kernel.Kernel.are_clear.Goals as goal

pub returns : goal.returns
returns g c =
    let m = c.store-store.ensures.value in
    let free = rw m at (sym c.is_barred.ensures ∙ c.if-is_barred.false) in
    rw (← c.self.view_is) (second-asked c.args.first c.args.second _ _ _ (rw (← c.self.view_is) at c.requires) free (rw m at c.frame.ensures) (rw m at c.is_barred-2.ensures))
