use Rattle.shm_fault.proofs.Names.{err_from_is_err_and, ◌≡◌, ℕ, Some, true, false, set, refl, sym, arith, set-get_or, IsSome, List, SideCalls, PageRef, Slot, SwapView, IsSwap, HasSlot, sizes, area_at, with_slot_page, OneArea, AfterWriteFault, GoesOn, no_frame, frame_at, rec_by, StoreView, IsStoreSound, common_steps, nat_tests, inl, unlocked, seen, OnlySlot-page, OnlySlot-fault, owner-written, owner-fault, page-written, owners-page, owners-fault}
use Rattle.shm_fault.proofs.Skipped.{skipped-set}
use Rattle.shm_fault.proofs.Sound.{Own, own, Keeps, keeps-write, dirty-same}
use Rattle.shm_fault.proofs.Places.{bit-set}
use Rattle.shm_fault.proofs.store.PageStore.write_back.Goals.{After-self, After-saturating_add-self-inside, After-from_residual}
use Rattle.shm_fault.proofs.store.PageStore.write_back.Goals as goal

-- the swap with the frame's bytes in the slot
abbrev written : StoreView → ℕ → Slot → List SideCalls → SwapView
written s f k calls = with_slot_page s.swap k (frame_at s.frames f).bytes calls

module _ (s : StoreView) (sound : IsStoreSound s) (f : ℕ) (k : Slot) (some : IsSome (frame_at s.frames f).owner)
    (slot : (r : PageRef) → (frame_at s.frames f).owner ≡ Some r → (rec_by s.segs r).slot ≡ Some k) where
  owner : Own (frame_at s.frames f).owner
  owner = own (frame_at s.frames f).owner some

  -- the slot of its page is there
  has : HasSlot s.swap k.area k.slot
  has = ((sound.tied.pages owner.page (sound.tied.owners f owner.page owner.is)).slot_owned k (slot owner.page owner.is)).0

  -- the write was done
  done : (outs : ℕ) (calls : List SideCalls) → IsSwap (written s f k calls) → sizes (written s f k calls) ≡ sizes s.swap → GoesOn s.swap (written s f k calls)
      → Keeps s (record s { frames = set s.frames f (record (frame_at s.frames f) { dirty = false }); swap = written s f k calls; outs = outs })
  done outs calls swap same goes =
      let bytes = (frame_at s.frames f).bytes in
      keeps-write s sound owner.page f k (record (frame_at s.frames f) { dirty = false }) (written s f k calls) s.ins outs owner.is (slot owner.page owner.is) owner.is refl
      (OnlySlot-page k s.swap bytes calls) (owner-written k s.swap bytes calls has) (λ e. sym (page-written k s.swap bytes calls has)) swap same goes

  -- it failed
  failed : (u : SwapView) → (frame_at s.frames f).dirty ≡ true → OneArea k.area s.swap u → AfterWriteFault k.slot (area_at s.swap k.area) (area_at u k.area)
      → IsSwap u → sizes u ≡ sizes s.swap → GoesOn s.swap u → Keeps s (record s { swap = u })
  failed u dirty one fault swap same goes =
      let k0 = keeps-write s sound owner.page f k (frame_at s.frames f) u s.ins s.outs owner.is (slot owner.page owner.is) owner.is refl
      (OnlySlot-fault k s.swap u one fault) (owner-fault k s.swap u one fault) (λ e. cc) swap same goes in
      let z : set s.frames f (frame_at s.frames f) ≡ s.frames = set-get_or s.frames f no_frame in
      rw z at k0

there : (g : _) (c : After-self g) → HasSlot c.self.inside.swap c.args.slot.area c.args.slot.slot
there g c = has (seen c.self.inside) c.self.invariant.0 c.args.frame c.args.slot (rw (← c.self.view_is) at c.requires.owned) (rw (← c.self.view_is) at c.requires.slot)

wrote : (g : _) (c : After-saturating_add-self-inside g)
    → Keeps (seen c.self.inside) (record (seen c.self.inside) { frames = c.set_dirty.new.self; swap = c.write_slot.new.self; outs = c.saturating_add-self-inside.result })
wrote g c =
    let s = seen c.self.inside in
    let e = c.write_slot.ensures in
    let u : c.write_slot.new.self ≡ written s c.args.frame c.args.slot (area_at c.write_slot.new.self c.args.slot.area).calls = rw c.bytes.ensures.value at c.in_ok-write_slot.ensures.ok in
    rw (c.set_dirty.ensures, u)
    (done s c.self.invariant.0 c.args.frame c.args.slot (rw (← c.self.view_is) at c.requires.owned) (rw (← c.self.view_is) at c.requires.slot)
    c.saturating_add-self-inside.result _ (rw u at e.sound) (rw u at e.sizes) (rw u at e.goes_on))

unwritten : (g : _) (c : After-from_residual g) → Keeps (seen c.self.inside) (record (seen c.self.inside) { swap = c.write_slot.new.self })
unwritten g c =
    let e = c.write_slot.ensures in
    failed (seen c.self.inside) c.self.invariant.0 c.args.frame c.args.slot (rw (← c.self.view_is) at c.requires.owned) (rw (← c.self.view_is) at c.requires.slot) c.write_slot.new.self
    (rw (← c.self.view_is) at c.requires.dirty) e.others c.in_err-write_slot.ensures.err e.sound e.sizes e.goes_on

pub write_slot-requires : goal.write_slot-requires
write_slot-requires g c = there g (goal.at.write_slot-requires g c).After-self

pub invariant_of-self-2 : goal.invariant_of-self-2
invariant_of-self-2 g c =
    let i = c.self.inside in (
      (wrote g (goal.at.invariant_of-self-2 g c).After-saturating_add-self-inside).sound,
      rw c.set_dirty.ensures (skipped-set (unlocked i.segs) i.frames i.skips c.self.invariant.1 c.args.frame (record (frame_at i.frames c.args.frame) { dirty = false }) (inl refl)),
    )

pub invariant_of-self : goal.invariant_of-self
invariant_of-self g c = ((unwritten g c).sound, c.self.invariant.1)

pub returns : goal.returns
returns g c =
    let s = seen c.self.inside in
    let t = record s { frames = c.set_dirty.new.self; swap = c.write_slot.new.self; outs = c.saturating_add-self-inside.result } in
    let k = wrote g (goal.at.returns g c).After-saturating_add-self-inside in
    rw (← c.self.view_is)
    (record {
      frames = c.set_dirty.ensures;
      rest = refl;
      outs = grind (arith, nat_tests, common_steps);
      goes = k.goes;
      failures = c.in_ok-write_slot.ensures.failures;
      placed = bit-set s t c.args.frame false refl refl (rw c.in_ok-write_slot.ensures.ok (owners-page s.swap c.args.slot c.bytes.result.now _)) (rw c.set_dirty.ensures refl);
      sound = k.sound;
    })

pub returns-in_err-write_slot : goal.returns-in_err-write_slot
returns-in_err-write_slot g c =
    let s = seen c.self.inside in
    let t = record s { swap = c.write_slot.new.self } in
    let k = unwritten g (goal.at.returns-in_err-write_slot g c).After-from_residual in
    let dirty : (frame_at s.frames c.args.frame).dirty ≡ true = rw (← c.self.view_is) at c.requires.dirty in
    let failed = (err_from_is_err_and c.from_residual.result c.from_residual.ensures.1).1 in
    rw (failed, ← c.self.view_is)
    (record {
      frames = sym (dirty-same s.frames c.args.frame true dirty);
      rest = refl;
      outs = refl;
      goes = k.goes;
      failures = c.in_err-write_slot.ensures.failures;
      placed = bit-set s t c.args.frame true refl refl (owners-fault s.swap t.swap c.args.slot c.write_slot.ensures.others c.in_err-write_slot.ensures.err)
          (rw (dirty-same s.frames c.args.frame true dirty) refl);
      sound = k.sound;
    })
