use Rattle.shm_life.proofs.Names.{◌≡◌, ◌∙◌, None, sym, return_refusal}
use Rattle.shm_life.proofs.Lending.{loan-well, resident-still, returnable, returned}
use Rattle.shm_life.proofs.kernel.Kernel.give_back.Goals as goal

pub put_bytes-requires-clause-there : goal.put_bytes-requires-clause-there
put_bytes-requires-clause-there g c = (returnable c.args.self.now c.args.page (sym c.return_refusal.ensures ∙ c.in_default.is)).0

pub put_bytes-requires-clause-here : goal.put_bytes-requires-clause-here
put_bytes-requires-clause-here g c = (returnable c.args.self.now c.args.page (sym c.return_refusal.ensures ∙ c.in_default.is)).1

pub set_lent-requires : goal.set_lent-requires
set_lent-requires g c =
    let here = (returnable c.args.self.now c.args.page (sym c.return_refusal.ensures ∙ c.in_default.is)).1 in
    record { here = resident-still c.args.page c.args.self.now.memory c.self.inside.segments.memory (rw (← c.self.view_is) at c.put_bytes.ensures.rest) here }

pub invariant_of-self : goal.invariant_of-self
invariant_of-self g c = let e = c.set_lent.ensures in (loan-well _ _ _ _ _ _ _ c.self.invariant.0 e.table e.set.rest e.set.count, c.self.invariant.1, c.self.invariant.2)

pub returns : goal.returns
returns g c =
    let none : return_refusal c.args.self.now c.args.page ≡ None = sym c.return_refusal.ensures ∙ c.in_default.is in
    let e = c.set_lent.ensures in
    record {
      ok = (none, returned c.args.page _ c.args.self.now _ _ _ _ _ _ _ (rw (← c.self.view_is) at c.put_bytes.ensures) e.set e.keeps e.table);
      err = tt;
    }
