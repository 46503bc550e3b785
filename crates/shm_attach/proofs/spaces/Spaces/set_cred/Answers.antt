use Rattle.shm_attach.proofs.Names.{◌<◌, arith, length, length-map, runner_view, runners_view, IsCaller, Living}
use Rattle.shm_attach.proofs.Callers.{caller_within}
use Rattle.shm_attach.proofs.Joining.{attach_count-life, recredited}
use Rattle.shm_attach.proofs.HavingTables.{room_kept}
use Rattle.shm_attach.proofs.Sound.{sound-life}
use Rattle.shm_attach.proofs.spaces.Spaces.set_cred.Goals.{After-self}
use Rattle.shm_attach.proofs.spaces.Spaces.set_cred.Goals as goal

is : (c : After-self) → IsCaller c.args.caller.now (runners_view c.self.inside.processes.entries)
is c = rw (← c.self.view_is) at c.requires

within : (c : After-self) → c.args.caller.now.index < length c.self.inside.processes.entries
within c = caller_within c.args.caller.now c.self.inside.processes.entries (is c)

pub set_life_at-requires : goal.set_life_at-requires
set_life_at-requires c = within (goal.at.set_life_at-requires c).After-self

pub invariant_of-self : goal.invariant_of-self
invariant_of-self c =
    let es = c.self.inside.processes.entries in
    let fs = c.set_life_at.new.processes.entries in
    let b = (goal.at.invariant_of-self c).After-self in (
      sound-life es fs c.self.inside.tables c.args.caller.now.index (Living c.args.cred) (within b) (λ none. absurd (cc none)) c.self.invariant.0 c.set_life_at.ensures.runners c.set_life_at.ensures.stored,
      room_kept c.self.inside.most es fs c.self.invariant.1 c.set_life_at.ensures.count c.set_life_at.ensures.most,
      c.self.invariant.2,
    )

pub returns-clause-runners : goal.returns-clause-runners
returns-clause-runners c =
    let rs = runners_view c.self.inside.processes.entries in
    let b = (goal.at.returns-clause-runners c).After-self in
    rw (← c.self.view_is, c.set_life_at.ensures.runners) (recredited c.args.caller.now c.args.cred rs (is b))

pub returns-clause-counts : goal.returns-clause-counts
returns-clause-counts c = λ id.
    rw (← c.self.view_is, c.set_life_at.ensures.runners)
    (attach_count-life id c.args.caller.now.index (Living c.args.cred) (runners_view c.self.inside.processes.entries)
    (let lt = within (goal.at.returns-clause-counts c).After-self in omega (arith, lt, length-map c.self.inside.processes.entries runner_view)))
