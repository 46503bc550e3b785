-- What a host does to a system between calls: it admits and dismisses processes.
use Rattle.std.specs.Prelude.{ℕ, ◌≡◌, true, false, Result, OnErr, is_ok, is_some}
use Rattle.shm_base.specs.declared.call.Process.{Process}
use Rattle.shm_base.specs.declared.guest.AdmitRefusal.{AdmitRefusal}
use Rattle.shm_base.specs.declared.guest.DismissRefusal.{DismissRefusal}
use Rattle.shm_base.specs.State.{Machine}
use Rattle.shm_base.specs.Guest.{admits, dismisses, standing, left_by}
use Rattle.shm_life.specs.SystemState.{SystemState}

-- the machine is changed, or everything is unchanged if that is refused. It is not a call: memory, opening and clock are
-- unchanged
pub record IsChanged
    {T E : Type 0} (before : SystemState) (change : Result Machine E) (result : Result T E)
    (after : SystemState) : Type 0 where
  pub outcome : change ≡ left_by result after.machine
  pub rest : after ≡ record before { machine = after.machine }
  pub refused : OnErr result (after ≡ before)

abbrev pub Admitted : SystemState → Process → Result (Unit {0}) AdmitRefusal → SystemState → Type 0
Admitted before process result after = IsChanged before (admits before.machine process) result after

abbrev pub Dismissed : SystemState → ℕ → Result (Unit {0}) DismissRefusal → SystemState → Type 0
Dismissed before pid result after = IsChanged before (dismisses before.machine pid) result after

-- the host refused memory for a process whose pid no process has: nothing changed
pub record IsNotAdmitted (before : SystemState) (process : Process) (after : SystemState) : Type 0 where
  pub granted : is_ok (admits before.machine process) ≡ true
  pub new : is_some (standing process.pid before.machine.runners) ≡ false
  pub unchanged : after ≡ before
