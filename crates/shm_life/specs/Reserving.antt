-- What a host does to the ranges that it has reserved: it reserves one more, or releases one.
use Rattle.std.specs.Prelude.{◌≡◌, true, Result, is_ok}
use Rattle.shm_base.specs.Guest.{releases, reserves}
use Rattle.shm_base.specs.declared.guest.HostRange.{HostRange}
use Rattle.shm_base.specs.declared.guest.RangeRefusal.{RangeRefusal}
use Rattle.shm_life.specs.Guest.{IsChanged}
use Rattle.shm_life.specs.SystemState.{SystemState}

abbrev pub Reserved : SystemState → HostRange → Result (Unit {0}) RangeRefusal → SystemState → Type 0
Reserved before range result after = IsChanged before (reserves before.machine range) result after

abbrev pub Released : SystemState → HostRange → Result (Unit {0}) RangeRefusal → SystemState → Type 0
Released before range result after = IsChanged before (releases before.machine range) result after

-- the host refused memory for a range that could be reserved: nothing changed
pub record IsNotReserved (before : SystemState) (range : HostRange) (after : SystemState) : Type 0 where
  pub granted : is_ok (reserves before.machine range) ≡ true
  pub unchanged : after ≡ before
