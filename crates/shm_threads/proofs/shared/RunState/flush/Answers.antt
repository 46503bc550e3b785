use Rattle.shm_threads.proofs.Names.{◌≡◌, ◌∙◌, ℕ, List, Some, ap, refl, rules, subst, sym, length, slice_get, slice_get_read}
use Rattle.shm_threads.proofs.Keeping.{kept-trans}
use Rattle.shm_threads.proofs.Passing.{passed-flush}
use Rattle.shm_threads.proofs.Turns.{running-flush}
use Rattle.shm_threads.proofs.shared.RunState.flush.Goals as goal

pub invariant_of-self : goal.invariant_of-self
invariant_of-self g c =
    let old = c.self.inside in
    let rest = c.self.invariant.1 in
    let pages = c.from.result in
    let look = c.in-Some.ensures.lookup in
    let seen = c.deref.result.now in
    let found : slice_get seen old.made ≡ Some c.in-Some.pages.now = slice_get_read seen (length seen) old.made c.in-Some.pages.now refl look.3.0 look.1 in
    let here : slice_get old.rounds.items old.made ≡ Some c.in-Some.pages.now = subst (λ (ps : List ℕ). slice_get ps old.made ≡ Some c.in-Some.pages.now) c.deref.ensures.value found in
    let value : c.in-Some.pages.now ≡ pages = sym c.from.ensures in
    let next : slice_get old.rounds.items old.made ≡ Some pages = here ∙ ap (λ (p : ℕ). Some p) value in (
      running-flush g.O.Origin.script g.O.Origin.start old.world c.flush-report.new.self old.strands.items old.made pages c.flush-report.result c.self.invariant.0
          (ap (λ ps. slice_get ps old.made) (sym rest.0) ∙ next) (record { flushed = c.flush-report.ensures.flushed; keeps = c.flush-report.ensures.keeps; rest = c.flush-report.ensures.rest }),
      (rest.0, (kept-trans g.O.Origin.cell g.O.Origin.stored old.keeper c.publish.new.keeper rest.1.0 c.publish.ensures.kept, (rest.1.1.0, (passed-flush g.O.Origin.answers old.strands.items old.made c.args.n (search rules) c.requires rest.1.1.1.0, rest.1.1.1.1)))),
    )
