use Rattle.shm_life.proofs.Names.{◌∙◌, ap, sym, subst, IsCaller, AreTrue, SpacesView, Translation, List}
use Rattle.shm_life.proofs.Settled.{well-kept}
use Rattle.shm_life.proofs.Going.{recredited-kept}
use Rattle.shm_life.proofs.kernel.Kernel.setuid.Goals as goal

pub invariant_of-self : goal.invariant_of-self
invariant_of-self g c =
    let rs = c.self.inside.spaces.runners in
    let w = c.self.invariant.0 in
    let e = c.set_cred.ensures in
    let is : IsCaller c.args.caller.now rs = rw (← c.self.view_is) at c.requires in (
      well-kept _ _ _ _ _ _ _ _ w (rw e.runners (recredited-kept c.self.inside.limits c.self.inside.segments.table rs c.args.caller.now w.kept is _))
          (subst (λ (ts : List Translation). AreTrue ts c.self.inside.segments.memory) (sym (ap (λ (v : SpacesView). v.translations) e.rest)) w.translated),
      ap (λ (v : SpacesView). v.most) e.rest ∙ c.self.invariant.1,
      c.self.invariant.2,
    )
