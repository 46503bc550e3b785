use Rattle.shm_attach.proofs.Names.{LostView, ◌∙◌, ◌<◌, ap, arith, length, common_steps, SpacesView, no_reservations}
use Rattle.shm_attach.proofs.Processes.{seg-met}
use Rattle.shm_attach.proofs.Callers.{caller_within, with_pieces-of}
use Rattle.shm_attach.proofs.Translations.{keeps}
use Rattle.shm_attach.proofs.HavingTables.{room_kept}
use Rattle.shm_attach.proofs.spaces.Spaces.unmap.Goals.{After-self}
use Rattle.shm_attach.proofs.spaces.Spaces.unmap.Goals as goal

within : (c : After-self) → c.args.caller.now.index < length c.self.inside.processes.entries
within c = caller_within c.args.caller.now c.self.inside.processes.entries (rw (← c.self.view_is) at c.requires.live)

pub space_at-space-requires : goal.space_at-space-requires
space_at-space-requires c = within (goal.at.space_at-space-requires c).After-self

pub note-requires : goal.note-requires
note-requires c =
    let most = c.self.invariant.1.each c.args.caller.now.index (within (goal.at.note-requires c).After-self) in
    omega (arith, c.met.ensures.count, c.space_at-space.ensures.most, most, c.self.invariant.2)

pub take_range-requires-clause-there : goal.take_range-requires-clause-there
take_range-requires-clause-there c = within (goal.at.take_range-requires-clause-there c).After-self

pub take_range-requires-clause-room : goal.take_range-requires-clause-room
take_range-requires-clause-room c =
    let most = c.self.invariant.1.each c.args.caller.now.index (within (goal.at.take_range-requires-clause-room c).After-self) in
    let count = rw c.space_at-space.ensures.flat at c.count_outside.ensures in
    omega (arith, count, most, c.if-count_outside-self.false)

pub invariant_of-self : goal.invariant_of-self
invariant_of-self c = (
  c.take_range.ensures.sound no_reservations c.self.invariant.0,
  room_kept c.self.inside.most c.self.inside.processes.entries c.take_range.new.processes.entries c.self.invariant.1 c.take_range.ensures.count c.take_range.ensures.most,
  ap (λ (l : LostView). l.most) c.note.ensures ∙ c.self.invariant.2,
)

pub returns-clause-lost : goal.returns-clause-lost
returns-clause-lost c = grind (arith, common_steps, seg-met)

pub returns-clause-runners : goal.returns-clause-runners
returns-clause-runners c = grind (arith, common_steps, with_pieces-of)

pub returns-clause-translated : goal.returns-clause-translated
returns-clause-translated c =
    keeps c.args.self.now.translations c.self.inside.tables.slab c.take_range.new.tables.slab (ap (λ (v : SpacesView). v.translations) c.self.view_is) c.take_range.ensures.translated
