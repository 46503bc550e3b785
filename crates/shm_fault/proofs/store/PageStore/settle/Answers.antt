use Rattle.shm_fault.proofs.Names.{true, ap, refl, Some, Frame, frame_at, unlocked, seen}
use Rattle.shm_fault.proofs.Skipped.{skipped-given, skipped-with}
use Rattle.shm_fault.proofs.Sound.{set-twice}
use Rattle.shm_fault.proofs.Visits.{Settles, settles}
use Rattle.shm_fault.proofs.Places.{settled-is}
use Rattle.shm_fault.proofs.store.PageStore.settle.Goals.{After-set_frame}
use Rattle.shm_fault.proofs.store.PageStore.settle.Goals as goal

done : (g : _) (c : After-set_frame g)
    → Settles c.args.page c.args.frame (seen c.self.inside) (record (seen c.self.inside) { segs = c.set_frame.new.self; frames = c.set_referenced.new.self })
done g c =
    let i = c.self.inside in
    let there = rw (← c.self.view_is) at c.requires.there in
    let bytes = rw (← c.self.view_is) at c.requires.bytes in
    let x : Frame = record (frame_at i.frames c.args.frame) { owner = Some c.args.page } in
    rw (set-twice i.frames c.args.frame x (λ y. record y { referenced = true }) there c.fill.ensures.given c.set_referenced.ensures, c.set_frame.ensures)
    (settles (seen i) c.self.invariant.0 c.args.page c.args.frame (rw (← c.self.view_is) at c.requires.has) there
    (rw (← c.self.view_is) at c.requires.free) (rw (← c.self.view_is) at c.requires.away) bytes)

pub invariant_of-self : goal.invariant_of-self
invariant_of-self g c =
    let i = c.self.inside in
    let there = rw (← c.self.view_is) at c.requires.there in
    let x : Frame = record (frame_at i.frames c.args.frame) { owner = Some c.args.page } in (
      (done g c).sound,
      rw (set-twice i.frames c.args.frame x (λ y. record y { referenced = true }) there c.fill.ensures.given c.set_referenced.ensures, c.set_frame.ensures, c.forget.ensures)
          (skipped-with i.segs c.args.page _ _ _ (skipped-given (unlocked i.segs) i.frames i.skips c.self.invariant.1 c.args.frame (record x { referenced = true }))),
    )

pub returns-clause-came : goal.returns-clause-came
returns-clause-came g c = rw (← c.self.view_is) (done g c).came

pub returns-clause-visits : goal.returns-clause-visits
returns-clause-visits g c = rw (← c.self.view_is) (done g c).visits

pub returns-clause-placed : goal.returns-clause-placed
returns-clause-placed g c =
    let s = seen c.self.inside in
    let there = rw (← c.self.view_is) at c.requires.there in
    let x : Frame = record (frame_at s.frames c.args.frame) { owner = Some c.args.page } in
    rw (← c.self.view_is)
    (settled-is s (record s { segs = c.set_frame.new.self; frames = c.set_referenced.new.self }) c.args.page c.args.frame (c.self.invariant.0.tied.free c.args.frame (rw (← c.self.view_is) at c.requires.free)) (ap (λ (x : Frame). x.lent) c.fill.ensures.blank) refl refl
    c.set_frame.ensures
    (set-twice s.frames c.args.frame x (λ y. record y { referenced = true }) there c.fill.ensures.given c.set_referenced.ensures))
