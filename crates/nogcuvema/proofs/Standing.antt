-- A machine that was opened was not refused.
use Rattle.nogcuvema.proofs.Names.{ℕ, ◌+◌, Bool, false, not, nat_lt, if◌then◌else◌, List, [], map, ap, Result, Ok, Err, ◌∙◌, refl, sym, Bounds, bad, BadLimits, Process, start_error, Machine, AreaConfig, IsOpened, sizes_of, NogLimits, NogArea, NogFailure, NogProcess, area_of, failure_of, process_of, are_kinds, are_there, bounds_of, Opens}
use Rattle.std.proofs.Common.{◌≡◌, ◌∷◌, true, None, Some, arith}
use Rattle.std.proofs.lemmas.Bool.Decides.{nat_tests}
use Rattle.shm_machine.specs.declared.opening.Failure.{Failure}
use Rattle.std.proofs.lemmas.Grind.{common_steps}
use Rattle.shm_life.specs.declared.start.StartError.{StartError}
use Rattle.shm_life.specs.Start.{error_number}
use Rattle.nogcuvema.specs.Opens.{start_code, may_want_memory, opening_code, is_of_profile, numbers_of, profile_of, rules_of, with_rules, limits_by}
use Rattle.shm_base.specs.declared.flags.Rules.{Rules}
use Rattle.shm_base.specs.Rules.{are_rules}
use Rattle.shm_base.specs.Bounds.{within, ruled, limits_within, machine_limits_of, largest, largest_profile, profile}

past : (b : Bool) (n : ℕ) (r : Result Bounds BadLimits) (x : Bounds) → (if b then bad n else r) ≡ Ok x → r ≡ Ok x
past true n r x h = absurd (cc h)
past false n r x h = h

-- limits that are granted are as they were asked for
granted : (most b x : Bounds) → limits_within most b ≡ Ok x → x ≡ b
granted most b x h =
    let ok : Ok b ≡ Ok x =
    past (not (are_rules b.rules)) 9 _ x
    (past (not (within 1 most.most_slots b.most_slots)) 8 _ x
    (past (not (within 1 most.most_processes b.most_processes)) 7 _ x
    (past (not (within 1 most.most_pieces b.most_pieces)) 6 _ x
    (past (nat_lt b.frames (b.memlock + 2)) 5 _ x
    (past (not (within 2 most.frames b.frames)) 4 _ x
    (past (not (within 1 most.shmall b.shmall)) 3 _ x
    (past (not (within 1 most.shmmni b.shmmni)) 2 _ x (past (not (within 1 most.shmmax b.shmmax)) 1 _ x h))))))))
    in
    let same : b ≡ x = cc ok in
    sym same

met : (b : Bool) (y x : Bounds) → (if b then Ok y else bad 9) ≡ Ok x → y ≡ x
met true y x h = cc h
met false y x h = absurd (cc h)

ruled-as : (rules : Rules) (p x : Bounds) → ruled rules p ≡ Ok x → record p { rules = rules } ≡ x
ruled-as rules p x h = met (are_rules rules) (record p { rules = rules }) x h

of-profile : (l : NogLimits) (x : Bounds) (r : Result Bounds BadLimits) → profile_of l ≡ r → with_rules (rules_of l.rules) r ≡ Ok x
    → x ≡ record (profile l.shmmax l.shmmni l.shmall l.frames l.memlock) { rules = rules_of l.rules }
of-profile l x (Err bad) is h = absurd (cc h)
of-profile l x (Ok p) is h =
    let own = granted largest_profile (profile l.shmmax l.shmmni l.shmall l.frames l.memlock) p is in
    sym (ruled-as (rules_of l.rules) p x h) ∙ ap (λ (b : Bounds). record b { rules = rules_of l.rules }) own

bounds-are : (l : NogLimits) (x : Bounds) → limits_by l ≡ Ok x → x ≡ bounds_of l
bounds-are l x h = by (is_of_profile l) refl h
  where
    by : (b : Bool) → is_of_profile l ≡ b → (if b then with_rules (rules_of l.rules) (profile_of l) else machine_limits_of (numbers_of l)) ≡ Ok x
        → x ≡ (if b then record (profile l.shmmax l.shmmni l.shmall l.frames l.memlock) { rules = rules_of l.rules } else numbers_of l)
    by true is h = of-profile l x (profile_of l) refl h
    by false is h = granted largest (numbers_of l) x h

pub opens : (l : NogLimits) (areas : List NogArea) (failures : List NogFailure) (processes : List NogProcess) (x : Bounds) (given : List AreaConfig) (fs : List Failure) (ps : List Process) (m : Machine)
    → limits_by l ≡ Ok x → are_kinds areas ≡ true → are_there areas failures ≡ true
    → given ≡ map area_of areas → fs ≡ map failure_of failures → ps ≡ map process_of processes → start_error x (sizes_of given) ps ≡ None → IsOpened x given fs ps m.system → Opens l areas failures processes m
opens l areas failures processes x given fs ps m limits kinds there same-areas same-failures same-processes start opened =
    let none : start_error x (sizes_of (map area_of areas)) (map process_of processes) ≡ None = rw (← same-areas, ← same-processes) start in
    let bounds = bounds-are l x limits in
    record {
      sound = rw (limits, kinds, there, none) refl;
      opened = rw (← bounds, ← same-areas, ← same-failures, ← same-processes) opened;
    }

-- the sizes that C gives are those of the areas
pub sizes-given : (areas : List NogArea) → map (λ (a : NogArea). a.slots) areas ≡ sizes_of (map area_of areas)
sizes-given [] = refl
sizes-given (a ∷ areas) = ap (λ ns. a.slots ∷ ns) (sizes-given areas)

-- an error of the areas is the first, whatever the processes are
areas-first : (limits : Bounds) (sizes : List ℕ) (ps : List Process) (e : StartError) → start_error limits sizes [] ≡ Some e → start_error limits sizes ps ≡ Some e
areas-first limits sizes ps e first = grind (arith, common_steps)

-- where the areas have none, memory is taken
areas-then : (limits : Bounds) (sizes : List ℕ) (ps : List Process) → start_error limits sizes [] ≡ None → may_want_memory (start_code (start_error limits sizes ps)) ≡ true
areas-then limits sizes ps none = grind (arith, common_steps, nat_tests)

module _ (l : NogLimits) (areas : List NogArea) (failures : List NogFailure) (processes : List NogProcess) (x : Bounds) (limits : limits_by l ≡ Ok x) (kinds : are_kinds areas ≡ true) (there : are_there areas failures ≡ true) where
  coded : opening_code l areas failures processes ≡ start_code (start_error x (sizes_of (map area_of areas)) (map process_of processes))
  coded = rw (limits, kinds, there) refl

  -- the code of an error of the areas
  pub area-refused : (e : StartError) → Some e ≡ start_error x (sizes_of (map area_of areas)) [] → 2020 + error_number e ≡ opening_code l areas failures processes
  area-refused e first = rw (coded, areas-first x (sizes_of (map area_of areas)) (map process_of processes) e (sym first)) refl

  -- memory may be wanted where there is none
  pub memory_wanted : None ≡ start_error x (sizes_of (map area_of areas)) [] → may_want_memory (opening_code l areas failures processes) ≡ true
  memory_wanted none = rw coded (areas-then x (sizes_of (map area_of areas)) (map process_of processes) (sym none))
