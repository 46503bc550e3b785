use Rattle.shm_fault.proofs.Names.{◌∙◌, ◌++◌, ◌∷◌, [], None, ap, arith, length, length_push, more-padded}
use Rattle.shm_fault.proofs.page_tables.reach.Goals as goal

pub loop-tables-preserved : goal.loop-tables-preserved
loop-tables-preserved c =
    let old = c.args.tables.now.items in
    let now = c.loop-tables.tables.items in
    let k = c.loop-tables.invariant in
    rw (c.in_ok-push.ensures.items, length_push now None) (
      ap (λ os. os ++ None ∷ []) k.0 ∙ more-padded old (length now) None k.1,
      omega (arith, k.1),
    )
