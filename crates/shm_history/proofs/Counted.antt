-- Failures that are named in a history are failures that were counted.
use Rattle.std.proofs.Common.{◌≡◌, ℕ, ◌+◌, ◌<◌, ◌≤◌, Bool, true, false, cond, List, [], ◌∷◌, ◌++◌, refl, arith}
use Rattle.std.proofs.lemmas.Grind.{common_steps}
use Rattle.shm_base.specs.History.{is_failure}
use Rattle.shm_base.specs.declared.call.Event.{Event}
use Rattle.shm_slots.specs.View.{SwapView, IsSwap}
use Rattle.shm_slots.specs.Cause.{total, had_cause, GoesOn}
use Rattle.shm_slots.proofs.Causes.{total-le, some_spent-never, total-lt}
use Rattle.shm_history.specs.WorldState.{failures_in, AreCounted}

failures-more : (events : List Event) (e : Event) → failures_in (events ++ e ∷ []) ≡ failures_in events + cond (is_failure e.call e.reply) 1 0
failures-more events e = grind (arith, common_steps)

counted_by : (b : Bool) (old s t : ℕ) → old ≤ s → s ≤ t → (b ≡ true → s < t) → old + cond b 1 0 ≤ t
counted_by true old s t a c d = omega (arith, d refl)
counted_by false old s t a c d = omega arith

-- one more event: its reply, if it names a failure, was counted
pub counted_more : (events : List Event) (e : Event) (s t : SwapView) → GoesOn s t → IsSwap s → (is_failure e.call e.reply ≡ true → had_cause s t ≡ true) → AreCounted events s → AreCounted (events ++ e ∷ []) t
unfolding AreCounted
counted_more events e s t goes swap cause before = λ flag.
    let old = goes.flag flag in
    rw (failures-more events e)
    (counted_by (is_failure e.call e.reply) (failures_in events) (total s) (total t) (before old) (total-le s t goes)
    (λ hit. total-lt s t (some_spent-never s swap old) (cause hit)))

-- and none more
pub counted_on : (events : List Event) (s t : SwapView) → GoesOn s t → AreCounted events s → AreCounted events t
unfolding AreCounted
counted_on events s t goes before = λ flag. let le = total-le s t goes in let old = before (goes.flag flag) in omega (arith, le, old)

pub counted_none : (s : SwapView) → AreCounted [] s
unfolding AreCounted
counted_none s = λ flag. omega arith
