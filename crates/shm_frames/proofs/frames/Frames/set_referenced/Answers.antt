use Rattle.std.proofs.Common.{◌<◌, ◌∙◌, length, refl, arith}
use Rattle.shm_frames.proofs.Shown.{shown, edit-shown, entry-is, owned-there, used-set, owned-entry}
use Rattle.shm_frames.proofs.Counts.{kept-bits, same-loans}
use Rattle.shm_frames.proofs.frames.Frames.set_referenced.Goals as goal
use Rattle.shm_frames.proofs.frames.Frames.set_referenced.Goals.{After-self}

there : (c : After-self) → c.args.frame < length c.self.inside.table.items
there c = owned-there (shown c.self.inside c.self.invariant.0 c.self.view_is) c.args.frame c.requires.owned

pub index_mut-entry-requires : goal.index_mut-entry-requires
index_mut-entry-requires c = omega (arith, there (goal.at.index_mut-entry-requires c).After-self)

pub invariant_of-self : goal.invariant_of-self
invariant_of-self c =
    let o = goal.at.invariant_of-self c in
    let s = shown c.self.inside c.self.invariant.0 c.self.view_is in
    let t = there o.After-self in
    let at = entry-is s c.args.frame c.index_mut-entry.result.now t c.index_mut-entry.ensures.value in (
      used-set c.self.invariant.0 c.args.frame _,
      c.self.invariant.1,
      c.self.invariant.2,
      kept-bits c.self.invariant.3 t at (record c.index_mut-entry.result.now { referenced = c.args.referenced }) c.self.inside.dirty (owned-entry s c.args.frame c.index_mut-entry.result.now at c.requires.owned) refl refl,
      same-loans c.self.inside.table.items c.self.invariant.4 t at _ refl,
    )

pub returns : goal.returns
returns c =
    let o = goal.at.returns c in
    let s = shown c.self.inside c.self.invariant.0 c.self.view_is in
    let t = there o.After-self in
    edit-shown s c.args.frame c.index_mut-entry.result.now (λ x. record x { referenced = c.args.referenced }) (λ f. record f { referenced = c.args.referenced }) (λ x b. refl) t (entry-is s c.args.frame c.index_mut-entry.result.now t c.index_mut-entry.ensures.value)
