use Rattle.shm_attach.proofs.Callers.{caller_within}
use Rattle.shm_attach.proofs.Names.{◌∙◌, ap, SpacesView}
use Rattle.shm_attach.proofs.spaces.Spaces.space.Goals as goal

pub space_at-requires : goal.space_at-requires
space_at-requires c = caller_within c.args.caller.now c.self.inside.processes.entries (rw (← c.self.view_is) at c.requires)

pub returns-clause-most : goal.returns-clause-most
returns-clause-most c =
    let within = caller_within c.args.caller.now c.self.inside.processes.entries (rw (← c.self.view_is) at c.requires) in
    c.space_at.ensures.most ∙ c.self.invariant.1.each c.args.caller.now.index within ∙ ap (λ (v : SpacesView). v.most) c.self.view_is
