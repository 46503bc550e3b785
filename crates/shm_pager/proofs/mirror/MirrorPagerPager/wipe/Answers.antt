use Rattle.shm_pager.proofs.Merged.{merged-wiped}
use Rattle.std.proofs.lemmas.Grind.{common_steps}
use Rattle.std.proofs.Common.{arith, rules}
use Rattle.shm_pager.proofs.mirror.MirrorPagerPager.wipe.Goals as goal

pub returns : goal.returns
returns g c = record {
  content = grind (arith, common_steps, merged-wiped);
  left = search rules;
  right = search rules;
  good = search rules;
  failed = search rules;
}
