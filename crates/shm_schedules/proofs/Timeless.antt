-- A call's time reaches nothing but the times of its segment.
use Rattle.std.specs.Prelude.{◌≡◌, ◌≢◌, ℕ, Bool, false, List, [], ◌∷◌, map, Option, Some, None}
use Rattle.std.proofs.Common.{refl, ap, sym, ◌∙◌, arith}
use Rattle.shm_base.specs.Access.{Place, stored}
use Rattle.shm_base.specs.State.{Entry, Machine}
use Rattle.shm_base.specs.Callers.{Caller, caller_of}
use Rattle.shm_base.specs.Step.{acts, step_by}
use Rattle.shm_base.specs.Calls.{ProcessCall}
use Rattle.shm_base.specs.declared.call.Reply.{Reply}
use Rattle.shm_life.proofs.Seeing.{seen_table, stored-seen}
use Rattle.shm_life.proofs.SeenSteps.{acts-seen, see, told}
use Rattle.shm_schedules.specs.Outcomes.{masked, masked_time}
use Rattle.shm_schedules.specs.Times.{TimesReachTimes, timeless, timeless_entry, timeless_outcome}

-- no bytes are hidden
abbrev none : ℕ → ℕ → Bool
none i d = false

table-seen : (t : List Entry) → map timeless_entry t ≡ seen_table masked_time none t
table-seen [] = refl
table-seen (e ∷ es) = ap (λ us. timeless_entry e ∷ us) (table-seen es)

pub stored-timeless : (t : List Entry) (qs : List Place) (vs : List ℕ) → stored (map timeless_entry t) qs vs ≡ map timeless_entry (stored t qs vs)
stored-timeless t qs vs = ap (λ u. stored u qs vs) (table-seen t) ∙ stored-seen masked_time none t qs vs (λ k q is. refl) ∙ sym (table-seen (stored t qs vs))

timeless-seen : (s : Machine) → timeless s ≡ see masked_time none s
timeless-seen s = ap (λ t. record s { table = t }) (table-seen s.table)

told-masked : (r : Reply) → told masked_time r ≡ masked r
told-masked r = grind arith

out-by : (s : Machine) (n : ℕ) (one : masked_time n ≡ 1) (call : ProcessCall) (o : Option Caller) → step_by (timeless s) 1 call o ≡ timeless_outcome (step_by s n call o)
out-by s n one call None = refl
out-by s n one call (Some c) =
    let o = acts s n c call in
    (λ j. acts (timeless-seen s j) (sym one j) c call)
    ∙ acts-seen masked_time none refl s n c (λ a len qs is k q at. refl) call
    ∙ (λ j. record { reply = told-masked o.reply j; state = sym (timeless-seen o.state) j })

set-time : (n : ℕ) → n ≢ 0 → masked_time n ≡ 1
set-time n not = grind arith

pub times_reach_times : TimesReachTimes
times_reach_times s n pid call not = out-by s n (set-time n not) call (caller_of s pid)
