use Rattle.shm_fault.proofs.Names.{refl, arith, frame_at, common_steps, nat_tests, inr, unlocked, no_frame, seen}
use Rattle.shm_fault.proofs.Skipped.{skipped-set, skipped-with}
use Rattle.shm_fault.proofs.Sound.{Keeps, keeps-vacate}
use Rattle.shm_fault.proofs.Places.{vacated-is}
use Rattle.shm_fault.proofs.store.PageStore.vacate.Goals.{After-set_frame}
use Rattle.shm_fault.proofs.store.PageStore.vacate.Goals as goal

kept : (g : _) (c : After-set_frame g) → Keeps (seen c.self.inside) (record (seen c.self.inside) { segs = c.set_frame.new.self; frames = c.empty.new.self })
kept g c =
    let bytes = (frame_at c.self.inside.frames c.args.frame).bytes in
    rw (c.set_frame.ensures, c.empty.ensures)
    (keeps-vacate (seen c.self.inside) c.self.invariant.0 c.resident_page-page.result c.args.frame bytes c.resident_page-page.ensures (rw (← c.self.view_is) at c.requires.clean))

pub invariant_of-self : goal.invariant_of-self
invariant_of-self g c =
    let i = c.self.inside in (
      (kept g c).sound,
      rw (c.set_frame.ensures, c.empty.ensures)
          (skipped-with i.segs c.resident_page-page.result _ _ i.skips (skipped-set (unlocked i.segs) i.frames i.skips c.self.invariant.1 c.args.frame (record no_frame { bytes = (frame_at i.frames c.args.frame).bytes }) (inr refl))),
    )

pub returns : goal.returns
returns g c =
    let s = seen c.self.inside in
    let k = kept g (goal.at.returns g c).After-set_frame in
    let page = c.resident_page-page.result in
    rw (← c.self.view_is)
    (record {
      page = c.resident_page-page.ensures;
      was = grind (arith, nat_tests, common_steps, c.self.invariant.0.tied, page, c.args.frame, c.resident_page-page.ensures);
      frames = c.empty.ensures;
      segs = c.set_frame.ensures;
      rest = refl;
      placed = vacated-is s (record s { segs = c.set_frame.new.self; frames = c.empty.new.self }) c.args.frame page (frame_at s.frames c.args.frame).bytes c.resident_page-page.ensures refl refl
          (c.set_frame.ensures) c.empty.ensures;
      goes = k.goes;
      sound = k.sound;
    })
