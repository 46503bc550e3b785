-- Threads that the gate ended: the lesser of two pids, and how the run ends.
use Rattle.shm_threads.proofs.Names.{◌≡◌, ℕ, Option, Some, None, arith, inl, inr, refl, subst, sym, Bool, true, false, IfErr, IfSome, OnOk, Result, min, ◌↔◌, cases_lt, false≢true, WorldState, ScriptView, CanEnd, CanStop, IsExpired, ended_by, least, RunError}
use Rattle.shm_threads.specs.declared.outcome.RunError.TheVariants as errors

-- it is one of them
pub least-kept : (P : ℕ → Type 0) (pid : ℕ) (other : Option ℕ) → P pid → IfSome other P → P (least pid other)
least-kept P pid None mine theirs = mine
least-kept P pid (Some n) mine theirs = elim (cases_lt pid n) [
  | inl lt ↦ (let same : min pid n ≡ pid = omega (arith, lt) in rw same mine)
  | inr ge ↦ (let same : min pid n ≡ n = omega (arith, ge) in rw same theirs)
]

-- a thread was refused exactly if the run ends with that
refused-only : (refused : Bool) (expired : Option ℕ) → IfErr (ended_by refused expired) (λ e. (e ≡ errors.ThreadRefused) ↔ (refused ≡ true))
refused-only true expired = (λ same. refl, λ is. refl)
refused-only false (Some pid) = (λ same. absurd (cc same), λ is. absurd (false≢true is))
refused-only false None = tt

-- and none if it has an outcome
none-refused : (refused : Bool) (expired : Option ℕ) → OnOk (ended_by refused expired) (refused ≡ false)
none-refused true expired = tt
none-refused false (Some pid) = tt
none-refused false None = refl

module _ (result : Result (Unit {0}) RunError) (refused : Bool) (expired : Option ℕ) (is : result ≡ ended_by refused expired) where
  pub joined : OnOk result (refused ≡ false)
  joined = subst (λ (r : Result (Unit {0}) RunError). OnOk r (refused ≡ false)) (sym is) (none-refused refused expired)

  pub refused-ends : IfErr result (λ e. (e ≡ errors.ThreadRefused) ↔ (refused ≡ true))
  refused-ends = subst (λ (r : Result (Unit {0}) RunError). IfErr r (λ e. (e ≡ errors.ThreadRefused) ↔ (refused ≡ true))) (sym is) (refused-only refused expired)

-- room that was reserved before is no part of a cause
pub stop-end : (answers : ℕ → ℕ → Bool → Bool) (script : ScriptView) (old new : WorldState) (error : RunError) → new ≡ record old { room = new.room } → CanStop answers script new error → CanEnd answers script old error
stop-end answers script old new errors.HostMemory same can = absurd can
stop-end answers script old new errors.ThreadRefused same can = can
stop-end answers script old new (errors.GateExpired pid) same can =
    let is : IsExpired answers script (record old { room = new.room }) pid = subst (λ (w : WorldState). IsExpired answers script w pid) same can in
    record {
      here = is.here;
      room = is.room;
      moments = is.moments;
      world = is.world;
      all = is.all;
      leads = is.leads;
      processes = is.processes;
      entries = is.entries;
      calls = is.calls;
      lesser = is.lesser;
      rounds = is.rounds;
    }
stop-end answers script old new (errors.HistoryMismatch pid) same can = can
