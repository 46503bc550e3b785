use Rattle.shm_fault.proofs.Names.{ap, PageRec, IsStoreSound, length, unlocked, seen, skipped-none}
use Rattle.shm_fault.specs.Store.{frame_of}
use Rattle.shm_fault.proofs.Whole.{few-locked, sound-locked, held-locked, held-there, rec-locked}
use Rattle.shm_fault.proofs.store.PageStore.set_locked.Goals.{After-set_locked}
use Rattle.shm_fault.proofs.store.PageStore.set_locked.Goals as goal

sound : (g : _) (c : After-set_locked g) → IsStoreSound (record (seen c.self.inside) { segs = c.set_locked.new.self })
sound g c =
    let s = seen c.self.inside in
    let few = few-locked s c.self.invariant.0 c.args.seg c.args.locked (rw (← c.self.view_is) at c.requires.few) in
    rw c.set_locked.ensures (sound-locked s c.self.invariant.0 c.args.seg c.args.locked few)

pub set_locked-requires : goal.set_locked-requires
set_locked-requires g c = held-there (seen c.self.inside) c.self.invariant.0 c.args.seg (rw (← c.self.view_is) at c.requires.there)

pub invariant_of-self : goal.invariant_of-self
invariant_of-self g c =
    let i = c.self.inside in (
      sound g (goal.at.invariant_of-self g c).After-set_locked,
      rw c.forget_all.ensures (skipped-none (unlocked c.set_locked.new.self) i.frames (length i.skips) c.self.invariant.1.room),
    )

pub returns-clause-sound : goal.returns-clause-sound
returns-clause-sound g c = sound g (goal.at.returns-clause-sound g c).After-set_locked

pub returns-clause-held : goal.returns-clause-held
returns-clause-held g c = rw (c.set_locked.ensures, ← c.self.view_is) (held-locked (seen c.self.inside) c.self.invariant.0 c.args.seg c.args.locked)

pub returns-clause-still : goal.returns-clause-still
unfolding frame_of
returns-clause-still g c = λ seg page.
    let rec = rec-locked (seen c.self.inside) c.self.invariant.0 c.args.seg c.args.locked (record { seg = seg; page = page }) in
    rw (c.set_locked.ensures, ← c.self.view_is) (ap (λ (p : PageRec). p.frame) rec)
