use Rattle.shm_outcomes.proofs.Names.{rules, ◌≡◌, ◌∙◌, ◌++◌, ◌∷◌, [], List, ℕ, ap, get_or, length, get_or-append_seam, Machine, Event, Node, event_after, effects_after, replies_after, Run, after}
use Rattle.shm_outcomes.proofs.Replaying.{late-effects}
use Rattle.shm_outcomes.proofs.nodes.Node.after.Goals as goal

pub returns : goal.returns
returns g c =
    let old : Run = c.args.self.now.run in
    let new : Run = after old c.args.pid c.args.call.now in
    let last : Event = event_after old c.args.pid c.args.call.now in
    let run : c.in_ok-run.run' ≡ new = search rules in
    let events : c.events.result.now ≡ old.events ++ last ∷ [] = search rules in
    let count : length c.events-count.result.now ≡ length old.events = search rules in
    let event : c.index-events-count.result ≡ last =
    c.index-events-count.is
    ∙ ap (λ (l : List Event). get_or l (length c.events-count.result.now) c.index-events-count.result) events
    ∙ ap (λ (n : ℕ). get_or (old.events ++ last ∷ []) n c.index-events-count.result) count
    ∙ get_or-append_seam old.events last [] c.index-events-count.result in
    let replies : c.in_ok-replies.replies ≡ replies_after c.args.script.now.processes last c.args.self.now.replies = search rules in
    let machine : g.M.Engine.flat c.machine.result.now ≡ new.machine = search rules in
    let effects =
    c.in_ok-effects.ensures
    ∙ ap (λ (b : Node). effects_after (g.M.Engine.flat c.machine.result.now) c.index-events-count.result b.effects) c.self.view_is
    ∙ ap (λ (m : Machine). effects_after m c.index-events-count.result c.args.self.now.effects) machine
    ∙ ap (λ (e : Event). effects_after new.machine e c.args.self.now.effects) event
    ∙ late-effects old.machine _ c.args.pid c.args.call.now c.args.self.now.effects in
    λ j. record { run = run j; replies = replies j; effects = effects j }
