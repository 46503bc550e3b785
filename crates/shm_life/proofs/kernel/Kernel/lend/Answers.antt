use Rattle.shm_life.proofs.Names.{◌≡◌, ◌∙◌, None, sym, lend_refusal}
use Rattle.shm_life.proofs.Lending.{failed, lendable, lent-view, loan-well, went}
use Rattle.shm_life.proofs.Running.{err_fact, ok_fact}
use Rattle.shm_life.proofs.kernel.Kernel.lend.Goals as goal

pub returns-then-is_err : goal.returns-then-is_err
returns-then-is_err g c =
    let none : lend_refusal c.args.self.now c.args.page ≡ None = sym c.lend_refusal.ensures ∙ c.in_default.is in
    let is = sym c.is_err.ensures.value ∙ c.if-is_err.true in
    record {
      ok = tt;
      err = (none, failed c.args.page c.args.self.now _ c.fetch.result is (lendable c.args.self.now c.args.page none).1 c.fetch.ensures.came);
      kept = err_fact c.fetch.result _ is c.fetch.ensures.kept;
    }

pub invariant_of-self : goal.invariant_of-self
invariant_of-self g c = (loan-well _ _ _ _ _ _ _ c.self.invariant.0 c.set_lent.ensures.table c.set_lent.ensures.set.rest c.set_lent.ensures.set.count, c.self.invariant.1, c.self.invariant.2)

pub returns : goal.returns
returns g c =
    let none : lend_refusal c.args.self.now c.args.page ≡ None = sym c.lend_refusal.ensures ∙ c.in_default.is in
    let fine = sym c.is_err.ensures.value ∙ c.if-is_err.false in
    let came = went _ _ _ _ c.fetch.result fine c.fetch.ensures.came in
    let bytes = ok_fact c.fetch.result _ fine c.fetch.ensures.bytes in
    let e = c.set_lent.ensures in
    record {
      ok = (none, lent-view c.args.page c.args.self.now _ _ _ _ _ _ _ _ (lendable c.args.self.now c.args.page none).1 (rw (← c.self.view_is) at came) bytes e.set e.keeps e.table);
      err = tt;
      kept = tt;
    }
