use Rattle.shm_fault.proofs.Names.{◌≡◌, ◌<◌, ◌%◌, ◌∷◌, [], length, Some, true, refl, length-set, paste, Frame, frame_at, ref_of, inl, unlocked, seen, PutAt}
use Rattle.shm_fault.proofs.Skipped.{skipped-set}
use Rattle.shm_fault.proofs.Sound.{frame-own, set-twice}
use Rattle.shm_fault.proofs.Puts.{puts}
use Rattle.shm_fault.proofs.store.PageStore.store.Goals.{After-self, After-paste_into}
use Rattle.shm_fault.proofs.store.PageStore.store.Goals as goal

own : (g : _) (c : After-self g) → (c.args.frame < length c.self.inside.frames) × ((frame_at c.self.inside.frames c.args.frame).owner ≡ Some (ref_of c.args.span.now))
own g c = frame-own (seen c.self.inside) c.self.invariant.0 (ref_of c.args.span.now) c.args.frame (rw (← c.self.view_is) at c.requires.here)

-- the frame as it was called dirty, before the bytes were put into it
abbrev dirtied : (g : _) → After-self g → Frame
dirtied g c = record (frame_at c.self.inside.frames c.args.frame) { dirty = true }

abbrev pasted : (g : _) → After-self g → Frame → Frame
pasted g c y = record y { bytes = paste y.bytes (c.args.span.now.at % 4096) c.args.bytes.now }

done : (g : _) (c : After-paste_into g)
    → PutAt c.args.bytes.now (c.args.span.now ∷ []) (seen c.self.inside) (record (seen c.self.inside) { frames = c.paste_into.new.frames })
done g c =
    let o = (goal.at.invariant_of-self g c).After-self in
    let s = seen c.self.inside in
    let put = puts s c.self.invariant.0 c.args.span.now c.args.frame c.args.bytes.now (rw (← c.self.view_is) at c.requires.fit) (rw (← c.self.view_is) at c.requires.here) c.requires.size in
    rw (set-twice s.frames c.args.frame (dirtied g o) (pasted g o) (own g o).0 c.make_dirty.ensures c.paste_into.ensures) put

pub make_dirty-requires-clause-there : goal.make_dirty-requires-clause-there
make_dirty-requires-clause-there g c = (own g (goal.at.make_dirty-requires-clause-there g c).After-self).0

pub make_dirty-requires-clause-owned : goal.make_dirty-requires-clause-owned
make_dirty-requires-clause-owned g c = rw (own g (goal.at.make_dirty-requires-clause-owned g c).After-self).1 refl

pub paste_into-requires-clause-there : goal.paste_into-requires-clause-there
paste_into-requires-clause-there g c = rw (c.make_dirty.ensures, length-set) (own g (goal.at.paste_into-requires-clause-there g c).After-self).0

pub invariant_of-self : goal.invariant_of-self
invariant_of-self g c =
    let i = c.self.inside in
    let o = (goal.at.invariant_of-self g c).After-self in (
      (done g c).sound,
      rw (set-twice i.frames c.args.frame (dirtied g o) (pasted g o) (own g o).0 c.make_dirty.ensures c.paste_into.ensures)
          (skipped-set (unlocked i.segs) i.frames i.skips c.self.invariant.1 c.args.frame (pasted g o (dirtied g o)) (inl refl)),
    )

pub returns : goal.returns
returns g c = rw (← c.self.view_is) (done g c)
