use Rattle.shm_segments.proofs.Remembered.{whole-fresh}
use Rattle.shm_segments.proofs.segments.Segments.new.Goals as goal

pub invariant_of-result : goal.invariant_of-result
invariant_of-result g c = rw c.new-2.ensures (whole-fresh c.in_ok-store.store c.args.swap c.in_ok-store.ensures.fresh c.in_ok-store.ensures.sound)
