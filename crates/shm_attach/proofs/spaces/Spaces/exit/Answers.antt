use Rattle.shm_attach.proofs.Names.{◌≡◌, ◌<◌, ◌∙◌, ap, arith, [], length, common_steps, length-map, slice_get_within, with_pieces, runners_view, SpacesView, caller_seen, pieces_at, AreTablesSound, no_reservations}
use Rattle.shm_attach.proofs.Callers.{caller_there, with_end-at, length-with_pieces, pieces_at-left}
use Rattle.shm_attach.proofs.Sound.{sound-life}
use Rattle.shm_attach.proofs.spaces.Spaces.exit.Goals.{After-self}
use Rattle.shm_attach.proofs.HavingTables.{room_kept}
use Rattle.shm_base.specs.State.{Ended}
use Rattle.shm_attach.proofs.spaces.Spaces.exit.Goals as goal

after : (c : After-self) → runners_view c.self.inside.processes.entries ≡ with_pieces c.args.self.now.runners (caller_seen c.args.caller.now c.args.self.now.runners) []
after c = ap (λ (v : SpacesView). v.runners) c.self.view_is ∙ c.exec.ensures.runners

within : (c : After-self) → c.args.caller.now.index < length c.self.inside.processes.entries
within c = grind (arith, common_steps, slice_get_within, caller_there, length-map, after, length-with_pieces)

-- its pieces are gone
none_left : (c : After-self) → pieces_at (runners_view c.self.inside.processes.entries) c.args.caller.now.index ≡ []
none_left c = rw (after c) (pieces_at-left c.args.caller.now c.args.self.now.runners [] c.requires)

pub set_life_at-requires : goal.set_life_at-requires
set_life_at-requires c = within (goal.at.set_life_at-requires c).After-self

pub invariant_of-self : goal.invariant_of-self
invariant_of-self c =
    let i = c.args.caller.now.index in
    let es = c.self.inside.processes.entries in
    let b = (goal.at.invariant_of-self c).After-self in
    let sound : AreTablesSound no_reservations c.set_life_at.new.processes.entries c.self.inside.tables =
    sound-life es c.set_life_at.new.processes.entries c.self.inside.tables i Ended (within b) (λ _. none_left b) c.self.invariant.0 c.set_life_at.ensures.runners c.set_life_at.ensures.stored in
    (sound, room_kept c.self.inside.most c.self.inside.processes.entries c.set_life_at.new.processes.entries c.self.invariant.1 c.set_life_at.ensures.count c.set_life_at.ensures.most, c.self.invariant.2)

pub returns-clause-runners : goal.returns-clause-runners
returns-clause-runners c = grind (arith, common_steps, after, with_end-at)
