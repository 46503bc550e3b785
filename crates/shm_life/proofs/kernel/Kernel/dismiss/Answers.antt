use Rattle.shm_life.proofs.Names.{◌∙◌, ap, sym, subst, arith, AreTrue, SpacesView, Translation, List}
use Rattle.shm_life.proofs.Changed.{forked-kept}
use Rattle.shm_life.proofs.Joining.{fit-dismissed}
use Rattle.shm_life.proofs.Settled.{well-kept}
use Rattle.shm_life.proofs.Peopled.{dismissed-apart}
use Rattle.shm_life.proofs.kernel.Kernel.dismiss.Goals as goal

pub invariant_of-self : goal.invariant_of-self
invariant_of-self g c =
    let t = c.self.inside.segments.table in
    let a = c.self.inside.spaces in
    let b = c.dismiss.new.self in
    let w = c.self.invariant.0 in
    let e = c.dismiss.ensures in
    let fits = fit-dismissed t c.args.pid a b c.dismiss.result e.leaves e.refused w.kept.pieces in (
      well-kept _ _ _ _ _ _ _ _ w
          (forked-kept c.self.inside.limits t a.runners b.runners w.kept fits (λ id. omega (arith, e.counts id)) (dismissed-apart c.self.inside.limits.most_processes c.args.pid a b c.dismiss.result e.leaves e.refused w.kept.processes))
          (subst (λ (ts : List Translation). AreTrue ts c.self.inside.segments.memory) (sym (ap (λ (v : SpacesView). v.translations) e.rest)) w.translated),
      ap (λ (v : SpacesView). v.most) e.rest ∙ c.self.invariant.1,
      c.self.invariant.2,
    )
