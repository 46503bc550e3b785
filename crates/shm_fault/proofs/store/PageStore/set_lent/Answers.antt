use Rattle.shm_fault.proofs.Names.{unlocked, ◌≡◌, ◌<◌, Some, inl, refl, sym, ap, ◌∙◌, length, arith, common_steps, frame_at, frame_by, PageRec, seen}
use Rattle.shm_fault.proofs.Skipped.{skipped-set}
use Rattle.shm_fault.proofs.Sound.{frame-own, Keeps}
use Rattle.shm_fault.proofs.Clock.{keeps-loan, loan-set}
use Rattle.shm_fault.proofs.store.PageStore.set_lent.Goals.{In-Some, After-set_lent}
use Rattle.shm_fault.proofs.store.PageStore.set_lent.Goals as goal

here : (g : _) (c : In-Some g) → frame_by (seen c.self.inside) c.args.page ≡ Some c.in-Some.frame
here g c = ap (λ (p : PageRec). p.frame) (sym c.page.ensures) ∙ c.in-Some.is

own : (g : _) (c : In-Some g) → (c.in-Some.frame < length c.self.inside.frames) × ((frame_at c.self.inside.frames c.in-Some.frame).owner ≡ Some c.args.page)
own g c = frame-own (seen c.self.inside) c.self.invariant.0 c.args.page c.in-Some.frame (here g c)

kept : (g : _) (c : After-set_lent g) → Keeps (seen c.self.inside) (record (seen c.self.inside) { frames = c.set_lent.new.self })
kept g c = rw c.set_lent.ensures (keeps-loan (seen c.self.inside) c.self.invariant.0 c.in-Some.frame c.args.lent)

pub set_lent-requires-clause-there : goal.set_lent-requires-clause-there
set_lent-requires-clause-there g c = (own g (goal.at.set_lent-requires-clause-there g c).In-Some).0

pub set_lent-requires-clause-owned : goal.set_lent-requires-clause-owned
set_lent-requires-clause-owned g c = rw (own g (goal.at.set_lent-requires-clause-owned g c).In-Some).1 refl

pub invariant_of-self : goal.invariant_of-self
invariant_of-self g c =
    let i = c.self.inside in
    ((kept g (goal.at.invariant_of-self g c).After-set_lent).sound, rw c.set_lent.ensures (skipped-set (unlocked i.segs) i.frames i.skips c.self.invariant.1 c.in-Some.frame (record (frame_at i.frames c.in-Some.frame) { lent = c.args.lent }) (inl refl)))

pub returns : goal.returns
returns g c =
    let s = seen c.self.inside in
    let o = goal.at.returns g c in
    let k = kept g o.After-set_lent in
    rw (← c.self.view_is) (record {
      held = k.goes.bytes;
      bits = λ f. grind (arith, common_steps);
      placed = rw (here g o.In-Some) (loan-set s (record s { frames = c.set_lent.new.self }) c.in-Some.frame c.args.lent refl c.set_lent.ensures);
      rest = refl;
      count = k.goes.size;
      sound = k.sound;
    })
