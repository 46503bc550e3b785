-- A pager's failure replaces a reply that is not a refusal.
use Rattle.std.specs.Prelude.{◌≡◌, ℕ, true, false, Option}
use Rattle.std.proofs.Common.{arith}
use Rattle.std.proofs.lemmas.Grind.{common_steps}
use Rattle.shm_base.specs.Calls.{ProcessCall}
use Rattle.shm_base.specs.State.{Machine}
use Rattle.shm_base.specs.Callers.{Caller, caller_of}
use Rattle.shm_base.specs.Step.{step, step_by}
use Rattle.shm_base.specs.History.{IsExcused, IsMove, is_failure}
use Rattle.shm_base.specs.Memory.{TakesNoMemory}
use Rattle.shm_base.specs.declared.call.Event.{Event}
use Rattle.shm_base.specs.declared.call.Reply.{Reply}
use Rattle.shm_schedules.specs.Lacking.{may_lack_memory}

by-clear : (s : Machine) (n : ℕ) (call : ProcessCall) (o : Option Caller) → is_failure call (step_by s n call o).reply ≡ false
by-clear s n call o = grind (arith, common_steps)

step-clear : (s : Machine) (n pid : ℕ) (call : ProcessCall) → is_failure call (step s n pid call).reply ≡ false
step-clear s n pid call = by-clear s n call (caller_of s pid)

pub is_excused : (s : Machine) (n : ℕ) (e : Event) (t : Machine) → is_failure e.call e.reply ≡ true → IsMove s n e t → IsExcused s n e t
is_excused s n e t failed move = grind (arith, common_steps, step-clear)

-- calls that a pager's failure ends, and calls that take the host's memory
pub failed_lacks : (call : ProcessCall) (reply : Reply) → is_failure call reply ≡ true → may_lack_memory call ≡ true
failed_lacks call reply failed = grind (arith, common_steps, failed)

pub takes_lacks : (call : ProcessCall) → (TakesNoMemory call → ⊥) → may_lack_memory call ≡ true
takes_lacks call takes = grind (arith, common_steps, takes)
