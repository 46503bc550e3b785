use Rattle.std.proofs.Common.{arith, heap_items}
use Rattle.std.proofs.lemmas.List.{length-map}
use Rattle.shm_base.proofs.Returned.{few_returned}
use Rattle.shm_base.proofs.numbers.Numbers.reserve.Goals as goal

pub overflow_sub-room : goal.overflow_sub-room
overflow_sub-room c =
    let few = few_returned _ c.self.invariant.0 in
    let long = length-map (heap_items c.self.inside.returned) (λ r. r.0) in
    omega (arith, few, long, c.self.inside.returned.data.ok.0, c.self.invariant.2, c.len.ensures, c.if-room-self.true)
