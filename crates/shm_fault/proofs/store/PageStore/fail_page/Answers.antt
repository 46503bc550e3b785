use Rattle.shm_fault.proofs.More.{held-failing, sound-failing}
use Rattle.shm_fault.proofs.store.PageStore.fail_page.Goals as goal

pub invariant_of-self : goal.invariant_of-self
invariant_of-self g c = (sound-failing (record { segs = c.self.inside.segs; frames = c.self.inside.frames; hand = c.self.inside.hand; swap = c.self.inside.swap; ins = c.self.inside.ins; outs = c.self.inside.outs }) c.self.invariant.0 c.fail_slot.new.self c.fail_slot.ensures.kept c.fail_slot.ensures.sound c.fail_slot.ensures.sizes, c.self.invariant.1)

pub returns-clause-sound : goal.returns-clause-sound
returns-clause-sound g c = sound-failing (record { segs = c.self.inside.segs; frames = c.self.inside.frames; hand = c.self.inside.hand; swap = c.self.inside.swap; ins = c.self.inside.ins; outs = c.self.inside.outs }) c.self.invariant.0 c.fail_slot.new.self c.fail_slot.ensures.kept c.fail_slot.ensures.sound c.fail_slot.ensures.sizes

pub returns-clause-held : goal.returns-clause-held
returns-clause-held g c = rw (← c.self.view_is) (held-failing (record { segs = c.self.inside.segs; frames = c.self.inside.frames; hand = c.self.inside.hand; swap = c.self.inside.swap; ins = c.self.inside.ins; outs = c.self.inside.outs }) c.self.invariant.0 c.fail_slot.new.self c.fail_slot.ensures.kept c.fail_slot.ensures.sound c.fail_slot.ensures.sizes)
