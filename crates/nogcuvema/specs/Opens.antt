-- The code of nog_open, and the machine that it opens.
use Rattle.std.specs.Prelude.{ℕ, ◌≡◌, ◌≢◌, ◌+◌, ◌⊎◌, Bool, true, false, not, ◌&&◌, ◌||◌, ◌==◌, nat_le, nat_lt, if◌then◌else◌, List, map, min, Option, Some, None, Result, Ok, Err, slice_get, IsSomeAnd}
use Rattle.std.specs.List.{list_all}
use Rattle.shm_base.specs.Bounds.{Bounds, within, limits_of, machine_limits_of, profile, ruled}
use Rattle.shm_base.specs.declared.flags.Rules.{Rules}
use Rattle.shm_base.specs.declared.limits.BadLimits.{BadLimits}
use Rattle.shm_base.specs.declared.call.Process.{Process}
use Rattle.shm_life.specs.Start.{start_error, error_number}
use Rattle.shm_life.specs.declared.start.StartError.{StartError}
use Rattle.shm_pager.specs.declared.area.AreaKind.{AreaKind}
use Rattle.shm_pager.specs.declared.area.AreaKind.TheVariants.{Ram, Sparse, Mirror}
use Rattle.shm_machine.specs.declared.machine.Machine.{Machine}
use Rattle.shm_machine.specs.declared.opening.AreaConfig.{AreaConfig}
use Rattle.shm_machine.specs.declared.opening.Failure.{Failure}
use Rattle.shm_pager_core.specs.declared.failing.Side.{Side}
use Rattle.shm_pager_core.specs.declared.failing.Side.TheVariants.{Left, Right}
use Rattle.shm_machine.specs.Opened.{IsOpened, sizes_of}
use Rattle.nogcuvema.specs.declared.structs.NogLimits.{NogLimits}
use Rattle.nogcuvema.specs.declared.structs.NogArea.{NogArea}
use Rattle.nogcuvema.specs.declared.structs.NogFailure.{NogFailure}
use Rattle.nogcuvema.specs.declared.structs.NogProcess.{NogProcess}
use Rattle.nogcuvema.specs.Answers.{no_memory, out_of_range}

abbrev pub kind_of : ℕ → AreaKind
kind_of kind = if kind == 1 then Ram else if kind == 2 then Sparse else Mirror

abbrev pub area_of : NogArea → AreaConfig
area_of a = record { kind = kind_of a.kind; slots = a.slots }

abbrev pub side_of : ℕ → Side
side_of side = if side == 0 then Left else Right

abbrev pub failure_of : NogFailure → Failure
failure_of f = record { area = f.area; side = side_of f.side; is_write = not (f.is_write == 0); call = f.call }

abbrev pub process_of : NogProcess → Process
process_of p = record { pid = p.pid; born = if p.is_born == 0 then None else Some (record { uid = p.uid; gid = p.gid }) }

abbrev pub are_kinds : List NogArea → Bool
are_kinds areas = list_all (λ (a : NogArea). within 1 3 a.kind) areas

-- the area exists and has this side
abbrev pub has_side : ℕ → Option NogArea → Bool
has_side side None = false
has_side side (Some a) = nat_lt side (if a.kind == 3 then 2 else 1)

-- the failure is one of an area and side that exist, and its call is at least 1
abbrev pub is_there : List NogArea → NogFailure → Bool
is_there areas f = has_side f.side (slice_get areas f.area) && nat_le 1 f.call

abbrev pub are_there : List NogArea → List NogFailure → Bool
are_there areas failures = list_all (is_there areas) failures

abbrev pub start_code : Option StartError → ℕ
start_code None = 0
start_code (Some e) = 2020 + error_number e

abbrev pub code_by : Result Bounds BadLimits → List NogArea → List NogFailure → List NogProcess → ℕ
code_by (Err bad) areas failures processes = 2010 + bad.0
code_by (Ok limits) areas failures processes =
    if not (are_kinds areas && are_there areas failures) then out_of_range else
    start_code (start_error limits (sizes_of (map area_of areas)) (map process_of processes))

-- the three limits that the profile fixes are left 0
abbrev pub is_of_profile : NogLimits → Bool
is_of_profile l = (l.most_pieces == 0) && (l.most_processes == 0) && (l.most_slots == 0)

-- the rules for a number; one that is too large gives bits that no rule has
abbrev pub rules_of : ℕ → Rules
rules_of n = record { 0 = min n 65535 }

-- the limits as the numbers say
abbrev pub numbers_of : NogLimits → Bounds
numbers_of l =
    record {
      shmmax = l.shmmax;
      shmmni = l.shmmni;
      shmall = l.shmall;
      frames = l.frames;
      memlock = l.memlock;
      most_pieces = l.most_pieces;
      most_processes = l.most_processes;
      most_slots = l.most_slots;
      rules = rules_of l.rules;
    }

-- the profile's limits
abbrev pub profile_of : NogLimits → Result Bounds BadLimits
profile_of l = limits_of l.shmmax l.shmmni l.shmall l.frames l.memlock

abbrev pub with_rules : Rules → Result Bounds BadLimits → Result Bounds BadLimits
with_rules rules (Ok b) = ruled rules b
with_rules rules (Err bad) = Err bad

abbrev pub limits_by : NogLimits → Result Bounds BadLimits
limits_by l = if is_of_profile l then with_rules (rules_of l.rules) (profile_of l) else machine_limits_of (numbers_of l)

abbrev pub bounds_of : NogLimits → Bounds
bounds_of l =
    if is_of_profile l
    then record (profile l.shmmax l.shmmni l.shmall l.frames l.memlock) { rules = rules_of l.rules }
    else numbers_of l

-- the first refusal that applies: a limit, a number that no call can carry, a start error; 0 if there is none
abbrev pub opening_code : NogLimits → List NogArea → List NogFailure → List NogProcess → ℕ
opening_code l areas failures processes = code_by (limits_by l) areas failures processes

-- nothing is refused, and this machine is open
pub record Opens (l : NogLimits) (areas : List NogArea) (failures : List NogFailure) (processes : List NogProcess) (m : Machine) : Type 0 where
  pub sound : opening_code l areas failures processes ≡ 0
  pub opened : IsOpened (bounds_of l) (map area_of areas) (map failure_of failures) (map process_of processes) m.system

-- out of memory may replace 0 and the errors of processes, because limits, numbers and areas are tested before memory is taken
abbrev pub may_want_memory : ℕ → Bool
may_want_memory code = (code == 0) || nat_lt 2022 code

-- why nothing was opened: the first refusal, or out of memory if that may replace it
abbrev pub IsRefusedBy : NogLimits → List NogArea → List NogFailure → List NogProcess → ℕ → Type 0
IsRefusedBy l areas failures processes code =
    ((code ≡ no_memory) × (may_want_memory (opening_code l areas failures processes) ≡ true))
    ⊎ (code ≡ opening_code l areas failures processes)

-- the machine was opened; or it was refused, and nothing changed
abbrev pub OpenedTo : Option Machine → NogLimits → List NogArea → List NogFailure → List NogProcess → ℕ → Option Machine → Type 0
OpenedTo before l areas failures processes code after =
    ((code ≡ 0) × IsSomeAnd after (Opens l areas failures processes))
    ⊎ ((code ≢ 0) × IsRefusedBy l areas failures processes code × (after ≡ before))
