use Rattle.shm_attach.proofs.Names.{◌≡◌, ◌<◌, ◌∙◌, ap, arith, common_steps, [], length, length-map, slice_get, Some, slice_get_within, is_live, false, life_view, runner_view, runners_view, pieces_at, life_at, refl}
use Rattle.shm_attach.proofs.Joining.{standing-there, attach_count-life, started-again}
use Rattle.shm_attach.proofs.HavingTables.{room_kept}
use Rattle.shm_attach.proofs.Sound.{sound-life}
use Rattle.shm_attach.proofs.spaces.Spaces.admit_again.Goals.{After-self}
use Rattle.shm_attach.proofs.spaces.Spaces.admit_again.Goals as goal

there : (c : After-self)
    → slice_get (runners_view c.self.inside.processes.entries) c.args.found.now.index
    ≡ Some (record { pid = c.args.process.now.pid; life = life_view c.args.found.now.life; pieces = pieces_at (runners_view c.self.inside.processes.entries) c.args.found.now.index })
there c = standing-there c.args.process.now.pid (runners_view c.self.inside.processes.entries) _ (rw (← c.self.view_is) at c.requires)

within : (c : After-self) → c.args.found.now.index < length c.self.inside.processes.entries
within c =
    let lt = slice_get_within (runners_view c.self.inside.processes.entries) c.args.found.now.index _ (there c) in
    omega (arith, lt, length-map c.self.inside.processes.entries runner_view)

-- it has no piece, since it ended
none : (c : After-self) → is_live (life_view c.args.found.now.life) ≡ false → pieces_at (runners_view c.self.inside.processes.entries) c.args.found.now.index ≡ []
none c ended =
    let life : life_at (runners_view c.self.inside.processes.entries) c.args.found.now.index ≡ life_view c.args.found.now.life = let at = there c in grind (arith, common_steps) in
    c.self.invariant.0.exact.idle c.args.found.now.index (ap is_live life ∙ ended)

pub set_life_at-requires : goal.set_life_at-requires
set_life_at-requires c = within (goal.at.set_life_at-requires c).After-self

pub invariant_of-self : goal.invariant_of-self
invariant_of-self c =
    let es = c.self.inside.processes.entries in
    let fs = c.set_life_at.new.processes.entries in
    let b = (goal.at.invariant_of-self c).After-self in
    let gone = none b (ap (λ l. is_live (life_view l)) c.in-Ended.is) in (
      sound-life es fs c.self.inside.tables c.args.found.now.index (life_view c.born.result) (within b) (λ _. gone) c.self.invariant.0 c.set_life_at.ensures.runners c.set_life_at.ensures.stored,
      room_kept c.self.inside.most es fs c.self.invariant.1 c.set_life_at.ensures.count c.set_life_at.ensures.most,
      c.self.invariant.2,
    )

pub returns-clause-joins : goal.returns-clause-joins
returns-clause-joins c =
    let rs = runners_view c.self.inside.processes.entries in
    let b = (goal.at.returns-clause-joins c).After-self in
    let gone = none b (ap (λ l. is_live (life_view l)) c.in-Ended.is) in
    let again = started-again c.args.process.now c.args.found.now.index (life_view c.args.found.now.life) rs (there b) gone in
    rw (← c.self.view_is, c.in-Ended.is, c.set_life_at.ensures.runners, c.born.ensures, again) refl

pub returns-clause-counts : goal.returns-clause-counts
returns-clause-counts c = λ id.
    rw (← c.self.view_is, c.set_life_at.ensures.runners)
    (attach_count-life id c.args.found.now.index (life_view c.born.result) (runners_view c.self.inside.processes.entries)
    (let lt = within (goal.at.returns-clause-counts c).After-self in omega (arith, lt, length-map c.self.inside.processes.entries runner_view)))
