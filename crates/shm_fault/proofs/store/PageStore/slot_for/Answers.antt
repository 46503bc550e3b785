use Rattle.shm_fault.proofs.Names.{nat_tests, common_steps, ◌≡◌, Some, None, sym, ap, ◌∙◌, refl, arith, used_slots, swap_slots, with_slot_owner, frame_at, PageRec, rec_by, seen}
use Rattle.shm_fault.specs.Store.{frame_of}
use Rattle.shm_fault.proofs.Skipped.{skipped-with}
use Rattle.shm_fault.proofs.Tally.{used-slots, some_slotless}
use Rattle.shm_fault.proofs.Pages.{by-still}
use Rattle.shm_fault.proofs.Sound.{Takes, takes}
use Rattle.shm_fault.proofs.Placed.{found-free}
use Rattle.shm_fault.proofs.Places.{slotted-own, slotted-took}
use Rattle.shm_fault.proofs.store.PageStore.slot_for.Goals.{After-set_page}
use Rattle.shm_fault.proofs.store.PageStore.slot_for.Goals as goal

pub unreachable-requires : goal.unreachable-requires
unreachable-requires g c =
    let i = c.self.inside in
    let sound = c.self.invariant.0 in
    let page = c.resident_page-page.result in
    let owned : (frame_at i.frames c.args.frame).owner ≡ Some page = c.resident_page-page.ensures in
    let none : (rec_by i.segs page).slot ≡ None = ap (λ (p : PageRec). p.slot) (sym c.page-place.ensures) ∙ c.in_default.is in
    let full : used_slots i.swap ≡ swap_slots i.swap = c.in_default-take_slot.ensures.full in
    let few = some_slotless (seen i) sound.apart page (sound.tied.owners c.args.frame page owned) none in
    let same = used-slots (seen i) sound.apart sound.tied in
    omega (arith, full, few, same, sound.capacity)

done : (g : _) (c : After-set_page g)
    → Takes c.args.frame c.in-Some-take_slot.slot (seen c.self.inside) (record (seen c.self.inside) { segs = c.set_page.new.self; swap = c.take_slot.new.self })
done g c =
    let i = c.self.inside in
    let page = c.resident_page-page.result in
    let slot = c.in-Some-take_slot.slot in
    let none : (rec_by i.segs page).slot ≡ None = ap (λ (p : PageRec). p.slot) (sym c.page-place.ensures) ∙ c.in_default.is in
    let first = c.in-Some-take_slot.ensures.found in
    let u : c.take_slot.new.self ≡ with_slot_owner i.swap slot (Some page) = c.in-Some-take_slot.ensures.taken in
    let e = c.take_slot.ensures in
    rw (c.set_page.ensures, u, c.page-place.ensures)
    (takes (seen i) c.self.invariant.0 page c.args.frame slot c.resident_page-page.ensures (rw (← c.self.view_is) at c.requires.dirty) none
    first.there first.free (rw u at e.sound) (rw u at e.steady.same_sizes) (rw u at e.steady.goes_on))

pub invariant_of-self : goal.invariant_of-self
invariant_of-self g c =
    let i = c.self.inside in (
      (done g c).sound,
      rw c.set_page.ensures (skipped-with i.segs c.resident_page-page.result _ i.frames i.skips c.self.invariant.1),
    )

pub returns : goal.returns
returns g c =
    let s = seen c.self.inside in
    let page = c.resident_page-page.result in
    let slot = c.in-Some-take_slot.slot in
    let d = done g (goal.at.returns g c).After-set_page in
    let none : (rec_by s.segs page).slot ≡ None = ap (λ (p : PageRec). p.slot) (sym c.page-place.ensures) ∙ c.in_default.is in
    let taken : c.take_slot.new.self ≡ with_slot_owner s.swap slot (Some page) = c.in-Some-take_slot.ensures.taken in
    rw (← c.self.view_is) (record {
      is = d.slot;
      rest = refl;
      still = by-still _ _ d.still;
      away = d.away;
      goes = d.goes;
      failures = c.take_slot.ensures.steady.failures;
      placed = rw (c.set_page.ensures, taken, c.page-place.ensures)
          (slotted-took s c.args.frame page slot c.resident_page-page.ensures none (found-free s.swap None slot c.self.invariant.0.swap.each c.in-Some-take_slot.ensures.found));
      sound = d.sound;
    })

pub returns-in-Some : goal.returns-in-Some
unfolding frame_of
returns-in-Some g c =
    let s = seen c.self.inside in
    let has : (rec_by s.segs c.resident_page-page.result).slot ≡ Some c.in-Some.slot = ap (λ (p : PageRec). p.slot) (sym c.page-place.ensures) ∙ c.in-Some.is in
    let placed = slotted-own s c.args.frame c.resident_page-page.result c.in-Some.slot c.resident_page-page.ensures has in
    rw (← c.self.view_is) (grind (arith, nat_tests, common_steps, has, placed, c.resident_page-page.ensures))
