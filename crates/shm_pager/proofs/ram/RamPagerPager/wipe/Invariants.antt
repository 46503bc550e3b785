use Rattle.std.proofs.Common.{◌≡◌, take, replicate}
use Rattle.shm_pager.proofs.ram.RamPagerPager.wipe.Given as goal

abbrev pub invariant-loop-page : goal.invariant-loop-page
invariant-loop-page l = take l.page-index l.page-items ≡ replicate l.page-index l.blank
