use Rattle.shm_fault.proofs.Names.{arith, seen}
use Rattle.shm_fault.proofs.Spans.{few_in_all}
use Rattle.shm_fault.proofs.store.PageStore.swapped.Goals as goal

pub swapped-requires : goal.swapped-requires
swapped-requires g c = omega (arith, few_in_all (seen c.self.inside) c.self.invariant.0)
