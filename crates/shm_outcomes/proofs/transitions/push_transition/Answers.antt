use Rattle.shm_outcomes.proofs.Names.{rules, inl, inr, refl, ◌≡◌, ◌∷◌, [], Some, List, length, slice_index_or, ap, ◌∙◌, Event, successor, Transition, next}
use Rattle.shm_outcomes.proofs.Grouping.{transition-some, one-from, put-none, put-one}
use Rattle.shm_outcomes.proofs.transitions.push_transition.Goals as goal

pub returns-clause-more : goal.returns-clause-more
returns-clause-more g c =
    let then : next c.args.script.now c.args.node.now.run c.args.process.now.pid ≡ Some c.in-Some.call = search rules in
    let is : c.in_ok-after.after ≡ successor c.args.script.now c.args.node.now c.args.process.now.pid c.in-Some.call = search rules in
    let events : c.events.result.now ≡ c.in_ok-after.after.run.events = search rules in
    let count : c.events-count.result.now ≡ c.args.node.now.run.events = search rules in
    let one : Transition = record { group = c.in_ok-group.group; event = c.index-events-count.result } in
    inr (
      one,
      transition-some c.args.script.now c.put.new.self c.args.node.now c.args.process.now.pid c.in-Some.call c.in_ok-after.after one then is
          (c.index-events-count.is
          ∙ ap (λ (es : List Event). slice_index_or es (length c.events-count.result.now) c.index-events-count.result) events
          ∙ ap (λ (es : List Event). slice_index_or c.in_ok-after.after.run.events (length es) c.index-events-count.result) count)
          c.in_ok-group.ensures.0,
      c.in_ok-push.ensures.items,
    )

pub returns-in_default-clause-more : goal.returns-in_default-clause-more
returns-in_default-clause-more g c = inl (search rules, refl)

pub returns-clause-put : goal.returns-clause-put
returns-clause-put g c =
    let then : next c.args.script.now c.args.node.now.run c.args.process.now.pid ≡ Some c.in-Some.call = search rules in
    let is : c.in_ok-after.after ≡ successor c.args.script.now c.args.node.now c.args.process.now.pid c.in-Some.call = search rules in
    put-one c.args.script.now (c.args.node.now ∷ []) c.args.next.now c.put.new.self c.in_ok-after.after c.in_ok-group.group (one-from c.args.script.now c.args.node.now c.args.process.now.pid c.in-Some.call c.in_ok-after.after then is) c.in_ok-group.ensures

pub returns-in_default-clause-put : goal.returns-in_default-clause-put
returns-in_default-clause-put g c = put-none c.args.script.now (c.args.node.now ∷ []) c.args.next.now
