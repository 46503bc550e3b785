use Rattle.std.proofs.Common.{◌≡◌, replicate}
use Rattle.shm_base.specs.Page.{zero_page}
use Rattle.shm_pager.proofs.ram.RamPager.new.Given as goal

abbrev pub invariant-loop-i : goal.invariant-loop-i
invariant-loop-i l = l.pages.items ≡ replicate l._i zero_page
