use Rattle.shm_threads.proofs.Names.{◌≡◌, ◌∙◌, Some, ap, rules, subst, sym, StartsWith, cell_of, stored_of}
use Rattle.shm_threads.proofs.Keeping.{published-cell, published-more}
use Rattle.shm_threads.proofs.shared.publish.Goals as goal

pub returns-in-Some-clause-kept : goal.returns-in-Some-clause-kept
returns-in-Some-clause-kept g c =
    let was = c.in-Some.keeper in
    let now = c.publish.new.keeper in
    let is : c.args.keeper.now ≡ Some was = search rules in
    record {
      same_cell = ap (λ cell. Some cell) (published-cell was now _ _ c.publish.ensures.stored c.publish.ensures.ahead) ∙ ap cell_of (sym is);
      grows = subst (λ k. StartsWith now.stored (stored_of k)) (sym is) (published-more was now _ _ c.publish.ensures.stored c.publish.ensures.ahead);
    }
