-- A pager's failure is a refusal, and a refusal does nothing; what holds of acts and refusals holds of each move.
use Rattle.shm_laws.proofs.Names.{◌≡◌, ℕ, true, Option, None, Some, refl, subst, inl, inr, arith, Esrch, ProcessCall, Reply, Refused, Event, Machine, Caller, Outcome, caller_of, acts, step_by, IsMove, is_refusal, is_failure, put}
use Rattle.shm_laws.proofs.Stepping.{removed}

-- what names a failure is a refusal
pub failure-refusal : (call : ProcessCall) (r : Reply) → is_failure call r ≡ true → is_refusal r ≡ true
failure-refusal call r h = grind arith

-- a refusal puts nothing, and removes nothing
pub refused-put : (call : ProcessCall) (r : Reply) → is_refusal r ≡ true → put call r ≡ None
refused-put call r h = grind arith

pub refused-removed : (call : ProcessCall) (r : Reply) → is_refusal r ≡ true → removed call r ≡ None
refused-removed call r h = grind arith

-- what holds of each act of a caller, and of a refusal that leaves the machine, holds of each move
pub by-move : (s : Machine) (n : ℕ) (e : Event) (t : Machine) (P : Reply → Machine → Type 0)
    → ((c : Caller) → caller_of s e.pid ≡ Some c → let o = acts s n c e.call in P o.reply o.state)
    → ((r : Reply) → is_refusal r ≡ true → P r s) → IsMove s n e t → P e.reply t
by-move s n e t P live refused (inr x) = rw x.unchanged (refused e.reply (failure-refusal e.call e.reply x.failure))
by-move s n e t P live refused (inl m) = subst (λ (o : Outcome). P o.reply o.state) m (by (caller_of s e.pid) refl)
  where
    by : (o : Option Caller) → caller_of s e.pid ≡ o → let r = step_by s n e.call o in P r.reply r.state
    by None is = refused (Refused Esrch) refl
    by (Some c) is = live c is
