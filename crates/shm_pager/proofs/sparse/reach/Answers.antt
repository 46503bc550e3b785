use Rattle.std.proofs.Common.{◌+◌, length, None, sym, ap, ◌∙◌, inl, inr, arith}
use Rattle.shm_base.specs.Stored.{padded}
use Rattle.shm_base.proofs.Stored.{padded-none}
use Rattle.shm_pager.proofs.sparse.reach.Goals as goal

pub returns-clause-items : goal.returns-clause-items
returns-clause-items c =
    let was = c.args.pages.now.items in
    c.loop-i.invariant.0
    ∙ elim c.loop-i.invariant.3 [
      | inl more ↦ ap (λ i. padded was i None) (omega (arith, more, c.loop-i-test.false))
      | inr none ↦ ap (λ i. padded was i None) none ∙ padded-none was (length was) None (omega arith) ∙ sym (padded-none was (c.args.slot + 1) None (omega (arith, none, c.loop-i-test.false)))
    ]
