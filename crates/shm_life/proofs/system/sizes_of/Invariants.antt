use Rattle.std.proofs.Common.{◌≡◌, map, take, length}
use Rattle.shm_life.proofs.system.sizes_of.Given as goal

abbrev pub invariant-loop-pager : goal.invariant-loop-pager
invariant-loop-pager g l = l.sizes.items ≡ map (λ p. length (g.P.Pager.content p)) (take l.pager-index l.pagers)
