-- Histories in which no call names a pager's failure.
use Rattle.std.proofs.Common.{◌≡◌, ℕ, ◌+◌, Bool, true, false, cond, List, ◌∷◌, refl, sym, ◌∙◌, arith, inl, inr, true≢false}
use Rattle.std.proofs.lemmas.Grind.{common_steps}
use Rattle.shm_base.specs.declared.call.Event.{Event}
use Rattle.shm_base.specs.State.{Machine}
use Rattle.shm_base.specs.History.{is_failure, IsStep, IsMove}
use Rattle.shm_history.specs.WorldState.{failures_in}

-- a move that is not a failure is a step
pub clear_step : (s : Machine) (n : ℕ) (e : Event) (t : Machine) → is_failure e.call e.reply ≡ false → IsMove s n e t → IsStep s n e t
clear_step s n e t clear (inl m) = m
clear_step s n e t clear (inr x) = absurd (true≢false (sym x.failure ∙ clear))

pub failures-cons : (e : Event) (es : List Event) → failures_in (e ∷ es) ≡ cond (is_failure e.call e.reply) 1 0 + failures_in es
failures-cons e es = grind (arith, common_steps)

no_count : (b : Bool) (n : ℕ) → cond b 1 0 + n ≡ 0 → b ≡ false
no_count true n none = absurd (omega (arith, none))
no_count false n none = refl

pub first_clear : (e : Event) (es : List Event) → failures_in (e ∷ es) ≡ 0 → is_failure e.call e.reply ≡ false
first_clear e es none = no_count (is_failure e.call e.reply) (failures_in es) (sym (failures-cons e es) ∙ none)

pub rest_clear : (e : Event) (es : List Event) → failures_in (e ∷ es) ≡ 0 → failures_in es ≡ 0
rest_clear e es none = let more = failures-cons e es in omega (arith, none, more)
