use Rattle.shm_areas.proofs.Names.{◌∙◌, ◌≤◌, arith, sym, length, length-set}
use Rattle.shm_areas.proofs.Origins.{named-goes, other-stays}
use Rattle.shm_areas.proofs.taking.take_named.Goals.{then-not-is_named, else-not-is_named}
use Rattle.shm_areas.proofs.taking.take_named.Goals as goal

pub loop-k-preserved : goal.loop-k-preserved
loop-k-preserved c =
    let kept = c.loop-k.invariant in
    let xs = c.loop-k.pieces.items in
    let k = c.loop-k.k in
    let x = c.index.result.now in
    let last = c.args.run.last in
    let bound : last ≤ length xs = omega (arith, kept.count, c.requires.bound) in
    elim c.if-not-is_named.branch [
      | then-not-is_named w ↦
          let other = sym c.is_named.ensures ∙ w.if-not-is_named.true in
          let moved = other-stays c.args.addr c.args.seg xs c.loop-k.kept k last x kept.order (omega arith) bound c.index.ensures other in
          rw (w.kept-is, w.pieces-is)
          record {
            order = omega (arith, kept.order);
            count = length-set xs c.loop-k.kept x ∙ kept.count;
            whole = moved ∙ kept.whole;
            capacity = kept.capacity;
          }
      | else-not-is_named w ↦
          let named = sym c.is_named.ensures ∙ w.if-not-is_named.false in
          rw (w.kept-is, w.pieces-is)
          record {
            order = omega (arith, kept.order);
            count = kept.count;
            whole = named-goes c.args.addr c.args.seg xs c.loop-k.kept k last x (omega arith) bound c.index.ensures named ∙ kept.whole;
            capacity = kept.capacity;
          }
    ]
