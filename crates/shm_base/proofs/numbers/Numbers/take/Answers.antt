use Rattle.std.proofs.Common.{◌≡◌, ◌∷◌, ◌<◌, [], arith, refl, heap_items}
use Rattle.std.specs.List.Sorted.{IsPermutation}
use Rattle.std.proofs.lemmas.List.Sorted.{IsPermutation-map}
use Rattle.shm_base.proofs.Returned.{among, least_top, least_fresh, sound_taken, taken_from, sound_fresh, taken_fresh, none_in, numbers_in}
use Rattle.shm_base.proofs.numbers.Numbers.take.Goals as goal
use Rattle.shm_base.proofs.numbers.Numbers.take.Goals.{In-Some, In-None}

moved : (c : In-Some) → IsPermutation (numbers_in (heap_items c.self.inside.returned)) (c.in-Some.least.0 ∷ numbers_in (heap_items c.pop.new.self))
moved c = IsPermutation-map (λ r. r.0) _ _ c.in-Some.ensures.permutation

pub invariant_of-self : goal.invariant_of-self
invariant_of-self c =
    let m = moved (goal.at.invariant_of-self c).In-Some in
    (sound_taken _ c.in-Some.least.0 _ c.self.invariant.0 m, (c.in-Some.ensures.heap_order c.self.invariant.1).0, omega (arith, c.self.invariant.2, c.pop.ensures.capacity))

pub returns-in-Some-clause-least : goal.returns-in-Some-clause-least
returns-in-Some-clause-least c =
    let m = moved (goal.at.returns-in-Some-clause-least c).In-Some in
    rw (← c.self.view_is)
    (least_top _ c.in-Some.least (heap_items c.self.inside.returned) c.self.invariant.0 refl (among _ c.in-Some.least.0 _ c.self.invariant.0 m) (c.in-Some.ensures.heap_order c.self.invariant.1).1)

pub returns-in-Some-clause-taken : goal.returns-in-Some-clause-taken
returns-in-Some-clause-taken c =
    let m = moved (goal.at.returns-in-Some-clause-taken c).In-Some in
    rw (← c.self.view_is) (taken_from _ c.in-Some.least.0 _ c.self.invariant.0 m)

-- no number was returned, so the first that was never taken is the least
none : (c : In-None) → numbers_in (heap_items c.self.inside.returned) ≡ []
none c = none_in (heap_items c.self.inside.returned) (omega (arith, c.in-None.ensures.none, c.self.inside.returned.data.ok.0))

room : (c : In-None) → c.self.inside.fresh < c.self.inside.room
room c = (rw (← c.self.view_is) at c.requires) c.self.inside.fresh (least_fresh _ (none c))

pub overflow_add-self : goal.overflow_add-self
overflow_add-self c = let r = room (goal.at.overflow_add-self c).In-None in omega (arith, r, c.self.ranges)

pub invariant_of-self-in-None : goal.invariant_of-self-in-None
invariant_of-self-in-None c =
    let r = room (goal.at.invariant_of-self-in-None c).In-None in
    rw c.in-None.ensures.unchanged.0 (sound_fresh _ c.self.invariant.0 r, c.self.invariant.1, omega (arith, c.self.invariant.2, c.pop.ensures.capacity))

pub returns-in-None-clause-least : goal.returns-in-None-clause-least
returns-in-None-clause-least c = rw (← c.self.view_is) (least_fresh _ (none (goal.at.returns-in-None-clause-least c).In-None))

pub returns-in-None-clause-taken : goal.returns-in-None-clause-taken
returns-in-None-clause-taken c =
    let n = none (goal.at.returns-in-None-clause-taken c).In-None in
    rw (← c.self.view_is, c.in-None.ensures.unchanged.0) (taken_fresh (record { fresh = c.self.inside.fresh; returned = numbers_in (heap_items c.self.inside.returned); room = c.self.inside.room }) n)
