use Rattle.std.proofs.Common.{◌≤◌, None, is_some, length, arith}
use Rattle.std.proofs.lemmas.List.Sums.{count_by-le-length}
use Rattle.shm_base.specs.Stored.{padded}
use Rattle.shm_base.proofs.Stored.{length-padded}
use Rattle.shm_slots.specs.Owners.{used_count}
use Rattle.shm_slots.proofs.owners.Owners.used.Goals as goal

pub overflow_cast-result : goal.overflow_cast-result
overflow_cast-result c =
    let few : used_count (padded c.self.inside.slots.items c.self.inside.count None) ≤ length (padded c.self.inside.slots.items c.self.inside.count None) = count_by-le-length is_some (padded c.self.inside.slots.items c.self.inside.count None) in
    omega (arith, few, length-padded c.self.inside.slots.items c.self.inside.count None c.self.invariant.0, c.self.invariant.2, c.self.invariant.3.counted)
