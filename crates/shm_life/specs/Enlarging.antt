-- A host gives a running machine one more swap area.
use Rattle.std.specs.Prelude.{ℕ, ◌≡◌, ◌⊎◌, ◌++◌, ◌∷◌, [], not, nat_le, if◌then◌else◌, length, Option, Some, None, Result, IfErr, OnErr, OnOk}
use Rattle.shm_base.specs.Bounds.{within}
use Rattle.shm_base.specs.State.{Machine}
use Rattle.shm_base.specs.declared.bounds.TheConstants.{MOST_AREAS}
use Rattle.shm_fault.specs.Store.{held}
use Rattle.shm_slots.specs.View.{AreaView, with_new}
use Rattle.shm_life.specs.SystemState.{SystemState}
use Rattle.shm_life.specs.declared.start.StartError.{StartError}
use Rattle.shm_life.specs.declared.start.StartError.TheVariants.{Areas, AreaSize, HostMemory}

-- Why an area of this many slots can't be added: there are as many areas as a machine may ever have, those that are gone included,
-- or the number of slots is out of its range.
abbrev pub area_refusal : Machine → ℕ → Option StartError
area_refusal s slots =
    if nat_le MOST_AREAS (length s.areas) then Some Areas else
    if not (within 1 s.limits.most_slots slots) then Some AreaSize else
    None

-- the machine with one more area, which has the next number
abbrev pub enlarged : Machine → ℕ → Machine
enlarged s slots = record s { areas = s.areas ++ Some slots ∷ [] }

-- The area was added, with all its slots free: no byte changed, no page moved, and the other areas are as they were. Or it was
-- refused, and nothing changed. It is no call of a process.
pub record IsEnlarged
    (slots : ℕ) (area : AreaView) (before : SystemState) (result : Result (Unit {0}) StartError)
    (after : SystemState) : Type 0 where
  pub granted : OnOk result (area_refusal before.machine slots ≡ None)
  pub machine : OnOk result (after.machine ≡ enlarged before.machine slots)
  pub memory : OnOk result (after.memory ≡ record before.memory { swap = with_new before.memory.swap area })
  pub rest : after ≡ record before { machine = after.machine; memory = after.memory }
  pub held : held after.memory ≡ held before.memory
  pub refused : OnErr result (after ≡ before)
  pub err : IfErr result (λ e. (area_refusal before.machine slots ≡ Some e)
      ⊎ ((e ≡ HostMemory) × (area_refusal before.machine slots ≡ None)))
