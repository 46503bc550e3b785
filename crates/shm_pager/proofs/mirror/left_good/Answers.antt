use Rattle.std.proofs.Common.{◌∙◌, replicate, ap, arith}
use Rattle.std.proofs.lemmas.List.{replicate_more}
use Rattle.shm_pager.specs.Mirror.{left_alone}
use Rattle.shm_pager.proofs.mirror.left_good.Goals as goal

pub loop-i-preserved : goal.loop-i-preserved
loop-i-preserved c = rw (c.in_ok-push.ensures.items, c.loop-i.invariant) (replicate_more c.loop-i._i left_alone)

pub returns : goal.returns
returns c = c.loop-i.invariant ∙ ap (λ n. replicate n left_alone) (omega arith)
