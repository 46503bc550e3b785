use Rattle.std.proofs.Common.{◌≡◌, ℕ, ◌+◌, length, ◌++◌, ◌∷◌, [], ap, sym, refl, ◌∙◌, length-append, List, slice_set}
use Rattle.std.proofs.Math.Seq.{set-append_seam, get_or-append_seam}
use Rattle.shm_base.specs.declared.call.Event.{Event}
use Rattle.shm_base.specs.declared.call.Reply.TheVariants as reply
use Rattle.shm_base.specs.History.{IsMove}
use Rattle.shm_history.specs.WorldState.{event}
use Rattle.shm_history.proofs.Histories.{history_more}
use Rattle.shm_history.proofs.Counted.{counted_more}
use Rattle.shm_history.proofs.world.World.call.Goals as goal

-- the reply is in the event after a history that led to the machine
pub invariant_of-self-2 : goal.invariant_of-self-2
invariant_of-self-2 g c =
    let old : List Event = c.self.inside.history.items in
    let begun : Event = event c.args.pid c.args.call.now reply.Done in
    let e : Event = event c.args.pid c.args.call.now c.call_into.new.reply in
    let place : c.len-place.result ≡ length old = rw (c.len-place.ensures, c.make_room.new.history.ok.0, c.make_room.ensures.items) refl in
    let pushed : c.push_reserved.new.self.items ≡ old ++ begun ∷ [] = rw (c.push_reserved.ensures.items, c.make_room.ensures.items) refl in
    let here : c.index_mut-event.result.now ≡ begun = c.index_mut-event.ensures.value ∙ rw (pushed, place) (get_or-append_seam old begun [] c.index_mut-event.result.now) in
    let items : slice_set c.push_reserved.new.self.items c.len-place.result (record { pid = c.index_mut-event.result.now.pid; call = c.index_mut-event.result.now.call; reply = c.call_into.new.reply }) ≡ old ++ e ∷ [] = rw (pushed, place, here) (set-append_seam old begun [] e) in
    let called = c.in_default.ensures.ok in
    let counted : c.call_into.new.self.calls ≡ length old + 1 = called.counted ∙ ap (λ (n : ℕ). n + 1) c.self.invariant.0 in
    let moved : IsMove c.self.inside.system.machine (length old + 1) e c.call_into.new.self.machine = rw (c.self.invariant.3, c.self.invariant.0) at called.move in
    rw (items, called.opening)
    (counted ∙ sym (length-append old (e ∷ [])), history_more c.self.inside.system.opening old e _ _ c.self.invariant.1 moved, counted_more old e c.self.inside.system.memory.swap c.call_into.new.self.memory.swap called.keeps.goes_on c.store.ensures.exact.sound.swap called.cause c.self.invariant.2, called.clock ∙ c.self.invariant.3)
