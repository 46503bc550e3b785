use Rattle.shm_life.proofs.Names.{◌∙◌}
use Rattle.shm_life.proofs.kernel.Kernel.try_clone.Goals as goal

pub invariant_of-result : goal.invariant_of-result
invariant_of-result g c =
    let segments = c.in_ok-try_clone.ensures in
    let spaces = c.in_ok-try_clone-2.ensures in
    let ranges = c.in_ok-from_slice.ensures.items ∙ c.deref.ensures.value in
    (rw (segments, spaces) c.self.invariant.0, rw spaces c.self.invariant.1, rw ranges c.self.invariant.2)
