-- Changes that the host of a guest makes, through a handle.
use Rattle.std.specs.Prelude.{ℕ, ◌≡◌, ◌≢◌, ◌⊎◌, ◌+◌, Bool, not, ◌&&◌, if◌then◌else◌, List, [], ◌∷◌, map, Option, Some, None, Result, Ok, Err}
use Rattle.shm_base.specs.declared.call.Process.{Process}
use Rattle.shm_base.specs.declared.guest.AdmitRefusal.{AdmitRefusal}
use Rattle.shm_base.specs.declared.guest.AdmitRefusal.TheVariants.{BadPid, PidTaken, TooManyProcesses}
use Rattle.shm_base.specs.declared.guest.DismissRefusal.{DismissRefusal}
use Rattle.shm_base.specs.declared.guest.DismissRefusal.TheVariants.{NoProcess, StillLive}
use Rattle.shm_base.specs.declared.limits.BadLimits.{BadLimits}
use Rattle.shm_life.specs.Enlarging.{IsEnlarged, area_refusal}
use Rattle.shm_life.specs.Guest.{Admitted, Dismissed, IsChanged, IsNotAdmitted}
use Rattle.shm_life.specs.Limiting.{limits}
use Rattle.shm_life.specs.declared.limiting.NewLimits.{NewLimits}
use Rattle.shm_life.specs.SystemState.{SystemState}
use Rattle.shm_machine.specs.declared.machine.Machine.{Machine}
use Rattle.shm_machine.specs.Opened.{area_made}
use Rattle.nogcuvema.specs.Answers.{closed, no_memory, out_of_range, Unchanged}
use Rattle.nogcuvema.specs.Opens.{are_kinds, are_there, area_of, failure_of, start_code}
use Rattle.nogcuvema.specs.declared.structs.NogArea.{NogArea}
use Rattle.nogcuvema.specs.declared.structs.NogFailure.{NogFailure}

abbrev pub admit_code : AdmitRefusal → ℕ
admit_code BadPid = 2031
admit_code PidTaken = 2032
admit_code TooManyProcesses = 2033

abbrev pub dismiss_code : DismissRefusal → ℕ
dismiss_code NoProcess = 2041
dismiss_code StillLive = 2042

-- a change of the machine in the handle
abbrev pub HostedThrough : (Machine → ℕ → Machine → Type 0) → Option Machine → ℕ → Option Machine → Type 0
HostedThrough does None code after = Unchanged closed None code after
HostedThrough does (Some before) code None = ⊥
HostedThrough does (Some before) code (Some after) = does before code after

-- the process joined, or the code says why not
abbrev pub AdmitsBy : Process → Machine → ℕ → Machine → Type 0
AdmitsBy process before code after =
    ((code ≡ 0) × Admitted before.system process (Ok tt) after.system)
    ⊎ ((refusal : AdmitRefusal) × (code ≡ admit_code refusal) × Admitted before.system process (Err refusal) after.system)
    ⊎ ((code ≡ no_memory) × IsNotAdmitted before.system process after.system)

-- the process left, or the code says why not
abbrev pub DismissesBy : ℕ → Machine → ℕ → Machine → Type 0
DismissesBy pid before code after =
    ((code ≡ 0) × Dismissed before.system pid (Ok tt) after.system)
    ⊎ ((refusal : DismissRefusal) × (code ≡ dismiss_code refusal) × Dismissed before.system pid (Err refusal) after.system)

-- calls note this time from now on
abbrev pub TellsTime : ℕ → Machine → ℕ → Machine → Type 0
TellsTime time before code after = (code ≡ 0) × (after.system ≡ record before.system { clock = Some time })

abbrev pub Limited : SystemState → NewLimits → Result (Unit {0}) BadLimits → SystemState → Type 0
Limited before new result after = IsChanged before (limits before.machine new) result after

-- the machine has these limits, or the code is that of the first that is wrong
abbrev pub LimitsBy : NewLimits → Machine → ℕ → Machine → Type 0
LimitsBy new before code after =
    ((code ≡ 0) × Limited before.system new (Ok tt) after.system)
    ⊎ ((bad : BadLimits) × (code ≡ 2010 + bad.0) × Limited before.system new (Err bad) after.system)

-- the area is of a kind, and each failure is one of its calls
abbrev pub fits_area : NogArea → List NogFailure → Bool
fits_area area failures = are_kinds (area ∷ []) && are_there (area ∷ []) failures

-- the code of the first refusal; 0 if there is none
abbrev pub swapon_code : NogArea → List NogFailure → SystemState → ℕ
swapon_code area failures s =
    if not (fits_area area failures) then out_of_range else start_code (area_refusal s.machine area.slots)

-- the area was added; or nothing changed, and the code is that of the first refusal, or out of memory if there is none
abbrev pub EnlargesBy : NogArea → List NogFailure → Machine → ℕ → Machine → Type 0
EnlargesBy area failures before code after =
    let made = area_made (map failure_of failures) 0 (area_of area) in
    ((code ≡ 0) × (swapon_code area failures before.system ≡ 0) × IsEnlarged area.slots made before.system (Ok tt) after.system)
    ⊎ ((code ≢ 0) × (code ≡ swapon_code area failures before.system) × (after.system ≡ before.system))
    ⊎ ((code ≡ no_memory) × (swapon_code area failures before.system ≡ 0) × (after.system ≡ before.system))
