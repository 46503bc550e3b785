use Rattle.std.proofs.Common.{◌≡◌, ◌<◌, ◌∷◌, true, arith, sym, true≢false, ◌∙◌, heap_items, heap_len}
use Rattle.std.specs.BinaryHeap.{heap_capacity}
use Rattle.std.proofs.lemmas.List.{length-map}
use Rattle.std.specs.Result.{is_ok}
use Rattle.std.specs.List.Sorted.{IsPermutation}
use Rattle.std.proofs.lemmas.List.Sorted.{IsPermutation-map}
use Rattle.shm_base.specs.Numbers.{NumbersView}
use Rattle.shm_base.proofs.Returned.{ok_given, room_left, sound_given, given, numbers_in}
use Rattle.shm_base.proofs.numbers.Numbers.give.Goals as goal
use Rattle.shm_base.proofs.numbers.Numbers.give.Goals.{After-self, Else-prove}

abbrev before : (c : After-self) → NumbersView
before c = record { fresh = c.self.inside.fresh; returned = numbers_in (heap_items c.self.inside.returned); room = c.self.inside.room }

pub prove-unreachable-requires : goal.prove-unreachable-requires
prove-unreachable-requires c =
    let left = room_left (before (goal.at.prove-unreachable-requires c).After-self) c.args.number c.self.invariant.0 (rw (← c.self.view_is) at c.requires) in
    let long = length-map (heap_items c.self.inside.returned) (λ r. r.0) in
    let room : heap_len c.self.inside.returned < heap_capacity c.self.inside.returned = omega (arith, left, long, c.self.inside.returned.data.ok.0, c.self.invariant.2) in
    true≢false (sym (c.push-pushed.ensures.succeeds room) ∙ sym c.is_ok.ensures.value ∙ c.if-prove.true)

moved : (c : Else-prove) → IsPermutation (c.args.number ∷ numbers_in (heap_items c.self.inside.returned)) (numbers_in (heap_items c.push-pushed.new.self))
moved c =
    let ok : is_ok c.push-pushed.result ≡ true = sym c.is_ok.ensures.value ∙ c.if-prove.false in
    IsPermutation-map (λ r. r.0) _ _ (ok_given c.push-pushed.result ok c.push-pushed.ensures.permutation)

pub invariant_of-self : goal.invariant_of-self
invariant_of-self c =
    let at = goal.at.invariant_of-self c in
    let ok : is_ok c.push-pushed.result ≡ true = sym c.is_ok.ensures.value ∙ c.if-prove.false in
    let taken = rw (← c.self.view_is) at c.requires in
    (sound_given (before at.After-self) c.args.number c.self.invariant.0 taken _ (moved at.Else-prove), ok_given c.push-pushed.result ok c.push-pushed.ensures.heap_order c.self.invariant.1, omega (arith, c.self.invariant.2, c.push-pushed.ensures.capacity))

pub returns-clause-given : goal.returns-clause-given
returns-clause-given c =
    let at = goal.at.returns-clause-given c in
    let taken = rw (← c.self.view_is) at c.requires in
    rw (← c.self.view_is) (given (before at.After-self) c.args.number c.self.invariant.0 taken _ (moved at.Else-prove))
