use Rattle.std.proofs.Common.{arith, rules}
use Rattle.std.proofs.lemmas.Grind.{common_steps}
use Rattle.shm_pager.proofs.Merged.{length-merged, unknown-merged}
use Rattle.shm_pager.proofs.mirror.MirrorPagerPager.discard.Goals as goal

pub returns : goal.returns
returns g c = record {
  content = grind (arith, common_steps, length-merged, unknown-merged);
  left = search rules;
  right = search rules;
  rest = search rules;
}
