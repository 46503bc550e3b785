-- A run begins anew when its world has got room for its events.
use Rattle.shm_runner.proofs.Names.{◌≡◌, ℕ, List, Result, OnOk, map, subst, sym, on_ok_weaker, WorldState, IsWorldSound, SwapView, ScriptView, Line, HaveRun, IsRunOf, IsStart, RunStep, HolderView, fresh_holder}

-- room for events is no part of what a start says
pub starts-anew : (swap : SwapView) (script : ScriptView) (areas : List ℕ) (old : WorldState) (room : ℕ) → IsStart IsWorldSound swap script areas old → IsStart IsWorldSound swap script areas (record old { room = room })
starts-anew swap script areas old room is =
    let world = is.is_world in
    record {
      is_world = record { opened = world.opened; over = world.over; sound = record { legal = world.sound.legal; counted = world.sound.counted; exact = world.sound.exact; laws = world.sound.laws } };
      events = is.events;
      memory = is.memory;
    }

module _ (swap : SwapView) (script : ScriptView) (areas : List ℕ) (old start : WorldState) (is : IsStart IsWorldSound swap script areas old) (same : start ≡ record old { room = start.room }) where
  starts : IsStart IsWorldSound swap script areas start
  starts = subst (IsStart IsWorldSound swap script areas) (sym same) (starts-anew swap script areas old start.room is)

  -- from the start with room, all lines ran, so the script did
  pub script-ran : {E : Type 0} (r : Result (Unit {0}) E) (hs later : List HolderView) (end : WorldState) (ls : List Line) → OnOk r ((steps : List RunStep) × HaveRun hs start ls steps later end) → ls ≡ script.lines → hs ≡ map fresh_holder script.processes
      → OnOk r ((begin : WorldState) × (steps : List RunStep) × IsRunOf IsWorldSound swap script areas begin steps end)
  script-ran r hs later end ls done same fresh =
      let from = λ (vs : List HolderView) (steps : List RunStep). HaveRun vs start script.lines steps later end in
      on_ok_weaker r (λ it. (start, it.0, record { begins = starts; values = later; ran = subst (λ (vs : List HolderView). from vs it.0) fresh (subst (λ (left : List Line). HaveRun hs start left it.0 later end) same it.1) })) done
