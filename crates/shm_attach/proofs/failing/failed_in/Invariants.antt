use Rattle.shm_attach.proofs.Names.{◌≡◌, bare_all, first_failed}
use Rattle.shm_attach.proofs.failing.failed_in.Given as goal

-- the first address that fails is among the remaining ones
abbrev pub invariant-loop-left : goal.invariant-loop-left
invariant-loop-left l = first_failed l.write (bare_all l.space.pieces) l.at l.left ≡ first_failed l.write (bare_all l.space.pieces) l.addr l.len

abbrev pub decreases-loop-left : goal.decreases-loop-left
decreases-loop-left l = l.left
