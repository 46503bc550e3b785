-- A world over a system as a script started it.
use Rattle.std.proofs.Common.{◌≡◌, ℕ, List, [], None, ap, ◌∙◌, arith}
use Rattle.shm_base.specs.State.{Opening}
use Rattle.shm_slots.specs.View.{AreaView}
use Rattle.shm_life.specs.Start.{start_error}
use Rattle.shm_life.specs.SystemState.{IsStarted, SystemState}
use Rattle.shm_history.specs.WorldState.{WorldState}
use Rattle.shm_text.specs.Script.{ScriptView}
use Rattle.shm_threads.specs.Outcomes.{IsOpened}

pub opens : (script : ScriptView) (sizes : List ℕ) (areas : List AreaView) (s : SystemState) (w : WorldState) → IsStarted script.limits sizes areas script.processes s
    → start_error script.limits sizes script.processes ≡ None → w.opening ≡ s.opening → w.events ≡ [] → IsOpened script w
opens script sizes areas s w started ok opening events =
    record { events = events; processes = ap (λ (o : Opening). o.processes) (opening ∙ started.opening); pids = grind (arith, ok) }
