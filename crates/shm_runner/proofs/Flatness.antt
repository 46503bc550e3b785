-- Where no pager failed, a script's history is the one that it makes of the flat machine.
use Rattle.shm_runner.proofs.Names.{arith, ◌≡◌, ℕ, ◌+◌, ◌≤◌, ◌++◌, true, false, List, [], ◌∷◌, Some, length, map, sym, ap, subst, ◌∙◌, append-nil, append_assoc, length_push, Event, Machine, Opening, start_of, Outcome, step, LeadsFrom, is_failure, StoreView, AreCountsOf, SwapView, are_finite, GoesOn, total, most_total, unfailing, total-most, never_spent-most, WorldState, event, failures_in, tally_of, events_text, usage_text, listing_of, ScriptView, Line, Command, Flush, clear_step, first_clear, rest_clear, run-kept, HaveRun, IsRunOf, RunStep, call_made, HolderView, fresh_holder, with_answer, opening_of, IsWorldSound, NeverFails, world_text, flat_events, flat_end, flat_text}
use Rattle.shm_history.specs.WorldState.{AreCounted}

later_clear : (before : List Event) (e : Event) (more : List Event) → failures_in (before ++ e ∷ more) ≡ 0 → is_failure e.call e.reply ≡ false
later_clear [] e more none = first_clear e more none
later_clear (o ∷ before) e more none = later_clear before e more (rest_clear o (before ++ e ∷ more) none)

-- the events and the machine after these lines are those of the flat machine, if no event names a failure
pub is_flat : (hs : List HolderView) (w : WorldState) (ls : List Line) (steps : List RunStep) (later : List HolderView) (end : WorldState) → HaveRun hs w ls steps later end → failures_in end.events ≡ 0
    → (end.events ≡ w.events ++ flat_events (length w.events + 1) w.machine hs ls) × (end.machine ≡ flat_end (length w.events + 1) w.machine hs ls)
is_flat hs w [] [] later end (values, same) none = (ap (λ (v : WorldState). v.events) same ∙ sym (append-nil w.events), ap (λ (v : WorldState). v.machine) same)
is_flat hs w [] (s ∷ steps) later end ran none = absurd ran
is_flat hs w (l ∷ ls) [] later end ran none = absurd ran
is_flat hs w (Flush pages ∷ ls) (s ∷ steps) later end ((report, is, round, values), ran) none =
    let IsFlat : List HolderView → WorldState → Type 0 = λ vs v. (end.events ≡ v.events ++ flat_events (length v.events + 1) v.machine vs ls) × (end.machine ≡ flat_end (length v.events + 1) v.machine vs ls) in
    let more : IsFlat s.values s.world = is_flat s.values s.world ls steps later end ran none in
    subst (IsFlat hs) round.rest (subst (λ (vs : List HolderView). IsFlat vs s.world) values more)
is_flat hs w (Command c ∷ ls) (s ∷ steps) later end ((reply, is, called, values), ran) none =
    let n = length w.events + 1 in
    let call = call_made hs c in
    let e = event c.pid call reply in
    let m = s.world.machine in
    let vs = with_answer hs c (Some reply) in
    let more = is_flat s.values s.world ls steps later end ran none in
    let long : length s.world.events ≡ n = ap length called.recorded ∙ length_push w.events e in
    let events : flat_events (length s.world.events + 1) m s.values ls ≡ flat_events (n + 1) m vs ls =
    ap (λ (k : ℕ). flat_events (k + 1) m s.values ls) long ∙ ap (λ (v : List HolderView). flat_events (n + 1) m v ls) values in
    let ends : flat_end (length s.world.events + 1) m s.values ls ≡ flat_end (n + 1) m vs ls =
    ap (λ (k : ℕ). flat_end (k + 1) m s.values ls) long ∙ ap (λ (v : List HolderView). flat_end (n + 1) m v ls) values in
    let whole : end.events ≡ w.events ++ e ∷ flat_events (n + 1) m vs ls =
    more.0
    ∙ ap (λ (es : List Event). es ++ flat_events (length s.world.events + 1) m s.values ls) called.recorded
    ∙ append_assoc w.events (e ∷ []) (flat_events (length s.world.events + 1) m s.values ls)
    ∙ ap (λ (es : List Event). w.events ++ e ∷ es) events in
    let clear : is_failure call reply ≡ false = later_clear w.events e (flat_events (n + 1) m vs ls) (sym (ap failures_in whole) ∙ none) in
    let stepped : step w.machine n c.pid call ≡ record { reply = reply; state = m } = clear_step w.machine n e m clear called.move_of in
    let Events : Outcome → Type 0 = λ o. end.events ≡ w.events ++ event c.pid call o.reply ∷ flat_events (n + 1) o.state (with_answer hs c (Some o.reply)) ls in
    let Ends : Outcome → Type 0 = λ o. end.machine ≡ flat_end (n + 1) o.state (with_answer hs c (Some o.reply)) ls in
    (subst Events (sym stepped) whole, subst Ends (sym stepped) (more.1 ∙ ends))

no_failures : (w : WorldState) → IsWorldSound w → w.memory.swap.never_spent ≡ true → failures_in w.events ≤ total w.memory.swap
unfolding AreCounted
no_failures w sound unspent = sound.counted unspent

-- over pagers that never fail no failure was counted, and no area was spent
clear_counts : {P : Type 0} (failed : P → ℕ) (w : WorldState) → IsWorldSound w → AreCountsOf failed w.memory.swap → NeverFails failed
    → (w.memory.swap.never_spent ≡ true) × (total w.memory.swap ≡ 0)
clear_counts failed w sound counted never = unfailing failed w.memory.swap sound.exact.sound.swap counted never

-- and the history names no failure
pub none_unfailing : {P : Type 0} (failed : P → ℕ) (w : WorldState) → IsWorldSound w → AreCountsOf failed w.memory.swap → NeverFails failed → failures_in w.events ≡ 0
none_unfailing failed w sound counted never =
    let clear = clear_counts failed w sound counted never in
    omega (arith, no_failures w sound clear.0, clear.1)

-- a history names no more failures than the areas' pagers may still have counted from the start
pub few_failures : (swap : SwapView) (w : WorldState) → IsWorldSound w → GoesOn swap w.memory.swap → are_finite swap ≡ true → failures_in w.events ≤ most_total swap
few_failures swap w sound began few =
    let unspent = never_spent-most swap w.memory.swap sound.exact.sound.swap began few in
    omega (arith, no_failures w sound unspent, total-most swap w.memory.swap sound.exact.sound.swap began)

-- the output for the world to which a script's lines led
module _ (swap : SwapView) (script : ScriptView) (areas : List ℕ) (start : WorldState) (steps : List RunStep) (w : WorldState) (run : IsRunOf IsWorldSound swap script areas start steps w) (sound : IsWorldSound w) where
  -- the counts of failures went on from those of the areas that were passed in
  pub began : GoesOn swap w.memory.swap
  began =
      let kept = run-kept (map fresh_holder script.processes) run.values start w script.lines steps run.ran in
      subst (λ (areas : SwapView). GoesOn areas w.memory.swap) (ap (λ (m : StoreView). m.swap) run.begins.memory) kept.1

  machine : start.machine ≡ start_of (opening_of script areas)
  machine =
      let is = run.begins.is_world in
      let opening : start.opening ≡ opening_of script areas = is.opened.is ∙ ap (λ (sizes : List ℕ). opening_of script sizes) is.over in
      let legal : LeadsFrom 1 (start_of (opening_of script areas)) start.events start.machine = subst (λ (o : Opening). LeadsFrom 1 (start_of o) start.events start.machine) opening is.sound.legal in
      subst (λ (es : List Event). LeadsFrom 1 (start_of (opening_of script areas)) es start.machine) run.begins.events legal

  -- no failure was counted
  pub flat_printed : w.memory.swap.never_spent ≡ true → total w.memory.swap ≡ 0 → world_text w ≡ flat_text script areas ++ usage_text (tally_of w)
  flat_printed unspent clear =
      let none : failures_in w.events ≡ 0 = let few = no_failures w sound unspent in omega (arith, few, clear) in
      let hs = map fresh_holder script.processes in
      let flat = is_flat hs start script.lines steps run.values w run.ran none in
      let events : w.events ≡ flat_events 1 (start_of (opening_of script areas)) hs script.lines =
      flat.0
      ∙ ap (λ (es : List Event). es ++ flat_events (length es + 1) start.machine hs script.lines) run.begins.events
      ∙ ap (λ (m : Machine). flat_events 1 m hs script.lines) machine in
      let ends : w.machine ≡ flat_end 1 (start_of (opening_of script areas)) hs script.lines =
      flat.1
      ∙ ap (λ (es : List Event). flat_end (length es + 1) start.machine hs script.lines) run.begins.events
      ∙ ap (λ (m : Machine). flat_end 1 m hs script.lines) machine in
      let usage = usage_text (tally_of w) in
      ap (λ (es : List Event). events_text 1 es ++ listing_of w.machine ++ usage) events
      ∙ ap (λ (m : Machine). events_text 1 (flat_events 1 (start_of (opening_of script areas)) hs script.lines) ++ listing_of m ++ usage) ends

  -- the pagers never fail
  pub flat_unfailing : {P : Type 0} (failed : P → ℕ) → AreCountsOf failed w.memory.swap → NeverFails failed → world_text w ≡ flat_text script areas ++ usage_text (tally_of w)
  flat_unfailing failed counted never =
      let clear = clear_counts failed w sound counted never in
      flat_printed clear.0 clear.1

  -- the pagers can count no more failures
  pub flat_bounded : are_finite swap ≡ true → most_total swap ≡ 0 → world_text w ≡ flat_text script areas ++ usage_text (tally_of w)
  flat_bounded few none =
      let areas = sound.exact.sound.swap in
      let clear : total w.memory.swap ≡ 0 = omega (arith, total-most swap w.memory.swap areas began, none) in
      flat_printed (never_spent-most swap w.memory.swap areas began few) clear
