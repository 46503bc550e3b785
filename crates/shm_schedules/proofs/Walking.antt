-- The runs that follow a run, and schedules.
use Rattle.std.specs.Prelude.{◌≡◌, ℕ, ◌+◌, ◌&&◌, ◌⊎◌, Bool, true, false, List, [], ◌∷◌, ◌++◌, Option, Some, None, cond, Contains, length, option_map}
use Rattle.std.proofs.Common.{refl, sym, subst, arith, inl, inr, length-append}
use Rattle.std.proofs.lemmas.Bool.{cases_eq}
use Rattle.std.proofs.lemmas.List.{map-append}
use Rattle.std.proofs.lemmas.List.Elements.{Contains-append_left, Contains-append_right}
use Rattle.std.proofs.lemmas.Option.{none-some, same_Some}
use Rattle.shm_base.specs.Processes.{has_pid}
use Rattle.shm_base.specs.Calls.{ProcessCall}
use Rattle.shm_base.specs.declared.call.Process.{Process}
use Rattle.shm_text.specs.Script.{ScriptView}
use Rattle.shm_schedules.specs.Schedules.{Run, after, goes, is_live, next, Leads, IsOver, pid_of, schedule_of, IsReached, followers, one_run}

-- a run that follows another is the one after some call
pub made-by : (o : Option ProcessCall) (run : Run) (pid : ℕ) (m : Run) → option_map (after run pid) o ≡ Some m → (call : ProcessCall) × (o ≡ Some call) × (after run pid call ≡ m)
made-by None run pid m h = absurd (none-some m h)
made-by (Some call) run pid m h = (call, refl, same_Some _ _ h)

-- it has one event more, of the process that went on
pub goes-length : (script : ScriptView) (pid : ℕ) (run m : Run) → goes script pid run ≡ Some m → length m.events ≡ length run.events + 1
goes-length script pid run m h =
    let made = made-by (next script run pid) run pid m h in
    subst (λ (x : Run). length x.events ≡ length run.events + 1) made.2 (length-append run.events _)

pub goes-schedule : (script : ScriptView) (pid : ℕ) (run m : Run) → goes script pid run ≡ Some m → schedule_of m.events ≡ schedule_of run.events ++ pid ∷ []
goes-schedule script pid run m h =
    let made = made-by (next script run pid) run pid m h in
    subst (λ (x : Run). schedule_of x.events ≡ schedule_of run.events ++ pid ∷ []) made.2 (map-append pid_of run.events _)

-- a schedule continues with one line
pub leads-more :
    (script : ScriptView) (schedule : List ℕ) (pid : ℕ) (a b c : Run)
    → Leads script schedule a b → goes script pid b ≡ Some c → Leads script (schedule ++ pid ∷ []) a c
leads-more script [] pid a b c h eq = (c, subst (λ (m : Run). goes script pid m ≡ Some c) (sym h) eq, refl)
leads-more script (q ∷ schedule) pid a b c h eq = (h.0, h.1, leads-more script schedule pid h.0 b c h.2 eq)

pub follower-reached :
    (script : ScriptView) (first run : Run) → IsReached script first run
    → (pid : ℕ) (m : Run) → goes script pid run ≡ Some m → IsReached script first m
follower-reached script first run reached pid m goes =
    subst (λ (s : List ℕ). Leads script s first m) (sym (goes-schedule script pid run m goes)) (leads-more script (schedule_of run.events) pid first run m reached goes)

one-contains : (o : Option Run) (m : Run) → o ≡ Some m → Contains (one_run o) m
one-contains o m h = rw h (0, omega arith, refl)

pub has-cases : (pid : ℕ) (p : Process) (ps : List Process) → has_pid pid (p ∷ ps) ≡ true → (p.pid ≡ pid) ⊎ (has_pid pid ps ≡ true)
has-cases pid p ps h =
    elim (cases_eq p.pid pid) [
      | inl same ↦ inl same
      | inr other ↦ inr (grind (arith, h, other))
    ]

followers-some :
    (script : ScriptView) (pid : ℕ) (run m : Run) → goes script pid run ≡ Some m
    → (ps : List Process) → has_pid pid ps ≡ true → Contains (followers script ps run) m
followers-some script pid run m h [] has = absurd (cc)
followers-some script pid run m h (p ∷ ps) has =
    elim (has-cases pid p ps has) [
      | inl same ↦ Contains-append_left (one_run (goes script p.pid run)) (followers script ps run) m (one-contains (goes script p.pid run) m (subst (λ (q : ℕ). goes script q run ≡ Some m) (sym same) h))
      | inr more ↦ Contains-append_right (one_run (goes script p.pid run)) (followers script ps run) m (followers-some script pid run m h ps more)
    ]

pub test-first : (a b : Bool) (o : Option ProcessCall) (call : ProcessCall) → cond (a && b) o None ≡ Some call → a ≡ true
test-first true b o call h = refl
test-first false b o call h = absurd (none-some call h)

-- each process that can continue is declared, so its run is among the followers
pub followers-contain : (script : ScriptView) (pid : ℕ) (run m : Run) → goes script pid run ≡ Some m → Contains (followers script script.processes run) m
followers-contain script pid run m h =
    let made = made-by (next script run pid) run pid m h in
    followers-some script pid run m h script.processes (test-first (has_pid pid script.processes) (is_live run.machine pid) _ made.0 made.1)

pub contains-none : (m : Run) → Contains ([]) m → ⊥
contains-none m h = omega (arith, h.1)

option-cases : (o : Option Run) → (o ≡ None) ⊎ ((m : Run) × (o ≡ Some m))
option-cases None = inl refl
option-cases (Some m) = inr (m, refl)

-- a run without followers is over
pub none-over : (script : ScriptView) (run : Run) → followers script script.processes run ≡ [] → IsOver script run
none-over script run none pid =
    elim (option-cases (goes script pid run)) [
      | inl none-goes ↦ none-goes
      | inr some ↦ absurd (contains-none some.0 (subst (λ (l : List Run). Contains l some.0) none (followers-contain script pid run some.0 some.1)))
    ]

over-all : (script : ScriptView) (run : Run) → IsOver script run → (ps : List Process) → followers script ps run ≡ []
over-all script run over [] = refl
over-all script run over (p ∷ ps) = rw (over p.pid) (over-all script run over ps)

pub over-none : (script : ScriptView) (run : Run) → IsOver script run → followers script script.processes run ≡ []
over-none script run over = over-all script run over script.processes
