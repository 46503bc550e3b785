use Rattle.shm_life.proofs.Names.{◌∙◌, sym}
use Rattle.shm_life.proofs.Lending.{fails-first, fetched-again, has-page, ready-for, went}
use Rattle.shm_life.proofs.kernel.Kernel.make_two_ready.Goals as goal

pub returns-then-is_err : goal.returns-then-is_err
returns-then-is_err g c =
    let came = rw (← c.self.view_is) at c.fetch.ensures.came in
    let free = rw c.store.ensures.value at (sym c.is_barred.ensures ∙ c.if-is_barred.false) in
    rw (← c.self.view_is) (fails-first c.args.first c.args.second _ _ c.fetch.result (sym c.is_err.ensures.value ∙ c.if-is_err.true) free came)

pub are_clear-requires : goal.are_clear-requires
are_clear-requires g c =
    let came = rw (← c.self.view_is) at c.fetch.ensures.came in
    let has = has-page _ _ c.args.first c.store.ensures.exact (rw (← c.self.view_is) at c.requires) in
    fetched-again c.args.first _ _ has (went _ _ _ _ c.fetch.result (sym c.is_err.ensures.value ∙ c.if-is_err.false) came).came

pub returns-then-not-are_clear : goal.returns-then-not-are_clear
returns-then-not-are_clear g c =
    let came = rw (← c.self.view_is) at c.fetch.ensures.came in
    let free = rw c.store.ensures.value at (sym c.is_barred.ensures ∙ c.if-is_barred.false) in
    let made = ready-for c.args.first c.args.second _ _ c.fetch.result c.are_clear.result (sym c.is_err.ensures.value ∙ c.if-is_err.false) free came c.are_clear.ensures in
    rw (← c.self.view_is) (rw c.if-not-are_clear.true at made)

pub returns : goal.returns
returns g c =
    let came = rw (← c.self.view_is) at c.fetch.ensures.came in
    let free = rw c.store.ensures.value at (sym c.is_barred.ensures ∙ c.if-is_barred.false) in
    let made = ready-for c.args.first c.args.second _ _ c.fetch.result c.are_clear.result (sym c.is_err.ensures.value ∙ c.if-is_err.false) free came c.are_clear.ensures in
    rw (← c.self.view_is) (rw c.if-not-are_clear.false at made)
