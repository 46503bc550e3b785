use Rattle.std.proofs.Common.{◌<◌, length, arith, refl, heap_items}
use Rattle.shm_base.proofs.Returned.{among_first, least_top}
use Rattle.shm_base.proofs.numbers.Numbers.least.Goals as goal

pub returns-in-Some : goal.returns-in-Some
returns-in-Some c =
    let some : 0 < length (heap_items c.self.inside.returned) = grind (arith, c.in-Some.ensures.variant, c.in-Some.is, c.self.inside.returned.data.ok.0) in
    let there = among_first c.in-Some.least.now (heap_items c.self.inside.returned) some c.in-Some.ensures.lookup in
    rw (← c.self.view_is) (least_top _ c.in-Some.least.now (heap_items c.self.inside.returned) c.self.invariant.0 refl there (c.in-Some.ensures.greatest c.self.invariant.1))
