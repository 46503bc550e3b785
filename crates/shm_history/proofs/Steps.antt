-- Steps that lead from one world to another.
use Rattle.std.proofs.Common.{arith, suc, ◌≡◌, ℕ, ◌+◌, ◌<◌, ◌≤◌, List, [], ◌∷◌, ◌++◌, length, get_or, take, drop, refl, sym, ap, ◌∙◌, subst}
use Rattle.std.specs.Prelude.{All}
use Rattle.std.proofs.lemmas.List.{append-nil, append_assoc, length-append, map-append, take_more, take-append-drop}
use Rattle.std.proofs.lemmas.List.Concat.{flat_map-cons}
use Rattle.std.proofs.lemmas.Grind.{flat_map-append}
use Rattle.std.proofs.lemmas.List.Elements.{All-drop, All-head}
use Rattle.std.proofs.Math.Seq.{drop-append_seam, drop-cons}
use mathlib.Core.List.{IsPrefix}
use Rattle.shm_base.specs.declared.call.Step.{Step}
use Rattle.shm_base.specs.declared.call.Step.TheVariants as steps
use Rattle.shm_base.specs.declared.call.Step.TheVariants.{Flush}
use Rattle.shm_base.specs.declared.call.Event.{Event}
use Rattle.shm_history.specs.WorldState.{WorldState, event, calls_of, calls_in, step_calls, IsRun, RunTo, MayStop, StopsIn, StepTakesNone}

run_then : (done : List Step) (step : Step) (w u v : WorldState) → RunTo w done u → IsRun u step v → RunTo w (done ++ step ∷ []) v
run_then [] step w u v h one = (v, subst (λ (x : WorldState). IsRun x step v) h one, refl)
run_then (x ∷ xs) step w u v h one = (h.0, h.1, run_then xs step h.0 u v h.2 one)

-- one step more
pub run_more : (all : List Step) (i : ℕ) (step : Step) (w u v : WorldState) → i < length all → step ≡ get_or all i step
    → RunTo w (take i all) u → IsRun u step v → RunTo w (take (i + 1) all) v
run_more all i step w u v within is h one =
    let more : take (i + 1) all ≡ take i all ++ step ∷ [] = take_more all i step within ∙ ap (λ (s : Step). take i all ++ s ∷ []) (sym is) in
    rw more (run_then (take i all) step w u v h one)

-- a step records its calls after the older events
step_events : (step : Step) (w v : WorldState) → IsRun w step v → (more : List Event) × (v.events ≡ w.events ++ more) × (calls_of more ≡ calls_in step)
step_events (steps.Call pid call) w v h = (event pid call h.0 ∷ [], h.1.recorded, refl)
step_events (Flush pages) w v h = ([], ap (λ (x : WorldState). x.events) h.1.rest ∙ sym (append-nil w.events), refl)

run_events : (all : List Step) (w v : WorldState) → RunTo w all v → (more : List Event) × (v.events ≡ w.events ++ more) × (calls_of more ≡ step_calls all)
run_events [] w v h = ([], ap (λ (x : WorldState). x.events) h ∙ sym (append-nil w.events), refl)
run_events (step ∷ rest) w v h =
    let one = step_events step w h.0 h.1 in
    let others = run_events rest h.0 v h.2 in
    let events : v.events ≡ w.events ++ (one.0 ++ others.0) = others.1 ∙ ap (λ (x : List Event). x ++ others.0) one.1 ∙ append_assoc w.events one.0 others.0 in
    let calls : calls_of (one.0 ++ others.0) ≡ step_calls (step ∷ rest) =
    map-append (λ (e : Event). (e.pid, e.call)) one.0 others.0 ∙ rw (one.2, others.2) (sym (flat_map-cons calls_in step rest)) in
    (one.0 ++ others.0, events, calls)

-- the calls are those of the steps
pub run_calls : (all : List Step) (w v : WorldState) → RunTo w all v → calls_of v.events ≡ calls_of w.events ++ step_calls all
run_calls all w v h =
    let found = run_events all w v h in
    ap calls_of found.1 ∙ map-append (λ (e : Event). (e.pid, e.call)) w.events found.0 ∙ ap (λ x. calls_of w.events ++ x) found.2

-- the older events stay
pub run_keeps : (all : List Step) (w v : WorldState) → RunTo w all v → v.events ≡ w.events ++ drop (length w.events) v.events
run_keeps all w v h =
    let found = run_events all w v h in
    rw found.1 (ap (λ (x : List Event). w.events ++ x) (sym (drop-append_seam w.events found.0)))

step_opening : (step : Step) (w v : WorldState) → IsRun w step v → v.opening ≡ w.opening
step_opening (steps.Call pid call) w v h = h.1.opening
step_opening (Flush pages) w v h = ap (λ (x : WorldState). x.opening) h.1.rest

-- the opening stays
pub run_opening : (all : List Step) (w v : WorldState) → RunTo w all v → v.opening ≡ w.opening
run_opening [] w v h = ap (λ (x : WorldState). x.opening) h
run_opening (step ∷ rest) w v h = run_opening rest h.0 v h.2 ∙ step_opening step w h.0 h.1

-- the calls of some of the steps come before those of the others
pub run_part : (n : ℕ) (all : List Step) (w v : WorldState) → RunTo w (take n all) v → IsPrefix (calls_of v.events) (calls_of w.events ++ step_calls all)
run_part n all w v h =
    let front = take n all in
    let back = drop n all in
    let split : step_calls front ++ step_calls back ≡ step_calls all = sym (flat_map-append calls_in front back) ∙ ap step_calls (take-append-drop n all) in
    (step_calls back, rw (run_calls front w v h) (append_assoc (calls_of w.events) (step_calls front) (step_calls back) ∙ ap (λ x. calls_of w.events ++ x) split))

-- the steps stop at one whose place was reached
pub stops_at : (all : List Step) (i : ℕ) (stop : Step) (w u v : WorldState) → i < length all → stop ≡ get_or all i stop
    → RunTo w (take i all) u → MayStop u stop → v ≡ record u { room = v.room } → u.room ≤ v.room → StopsIn w all v
stops_at all i stop w u v within is ran may rest room =
    let left = drop (suc i) all in
    let split : all ≡ take i all ++ stop ∷ left =
    sym (take-append-drop i all) ∙ ap (λ (s : List Step). take i all ++ s) (drop-cons all i stop within ∙ ap (λ (s : Step). s ∷ left) (sym is)) in
    (take i all, stop, left, u, split, ran, may, rest, room)

step_room : (one : Step) (w v : WorldState) → IsRun w one v → w.room ≤ v.room + length (calls_in one)
step_room (steps.Call pid call) w v h = h.1.room
step_room (Flush pages) w v h = let same : v.room ≡ w.room = ap (λ (x : WorldState). x.room) h.1.rest in omega (arith, same)

calls_more : (one : Step) (rest : List Step) → length (step_calls (one ∷ rest)) ≡ length (calls_in one) + length (step_calls rest)
calls_more one rest = ap length (flat_map-cons calls_in one rest) ∙ length-append (calls_in one) (step_calls rest)

-- each call takes the room of one at most
run_room : (all : List Step) (w v : WorldState) → RunTo w all v → w.room ≤ v.room + length (step_calls all)
run_room [] w v h = let same : v.room ≡ w.room = ap (λ (x : WorldState). x.room) h in omega (arith, same)
run_room (one ∷ rest) w v h = omega (arith, step_room one w h.0 h.1, run_room rest h.0 v h.2, calls_more one rest)

-- a step that asks for no memory stops only without room
stop_room : (stop : Step) (w : WorldState) → MayStop w stop → StepTakesNone stop → (w.room ≡ 0) × (length (calls_in stop) ≡ 1)
stop_room (steps.Call pid call) w may none = (omega (arith, λ (left : 0 < w.room). (may left).0 none), refl)
stop_room (Flush pages) w may none = absurd may

-- with room for every call, and no call that takes memory, no step stops
pub never_stops : (all : List Step) (w v : WorldState) → StopsIn w all v → All StepTakesNone all → length (step_calls all) ≤ w.room → ⊥
never_stops all w v h none enough =
    let done = h.0 in
    let stop = h.1 in
    let left = h.2 in
    let last = h.3 in
    let back : All StepTakesNone (stop ∷ left) = rw (h.4, drop-append_seam done (stop ∷ left)) at (All-drop StepTakesNone (length done) all none) in
    let room = stop_room stop last h.6 (All-head StepTakesNone stop left back) in
    let calls : length (step_calls all) ≡ length (step_calls done) + length (step_calls (stop ∷ left)) =
    rw h.4 (ap length (flat_map-append calls_in done (stop ∷ left)) ∙ length-append (step_calls done) (step_calls (stop ∷ left))) in
    omega (arith, run_room done w last h.5, calls, calls_more stop left, room.0, room.1, enough)
