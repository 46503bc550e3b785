use Rattle.shm_fault.proofs.Names.{err_from_is_err_and, MatchResult-from_err, total, ◌≡◌, ◌∙◌, ◌+◌, arith, common_steps, nat_tests, is_some, [], ◌∷◌, ◌++◌, Option, Some, None, refl, ap, MatchOption, PageRef, Slot, HasSlot, Came, rec_by, StoreView, one_if, seen}
use Rattle.shm_fault.proofs.Slots.{bytes-kept}
use Rattle.shm_fault.proofs.Sound.{slot-own}
use Rattle.shm_fault.proofs.Pages.{by-still}
use Rattle.shm_fault.proofs.Visits.{Visits-trans, moves-more, moves-still, moves-trans}
use Rattle.shm_fault.proofs.Counting.{byte-one, counts-more, counts-still}
use Rattle.shm_fault.proofs.store.PageStore.come_in.Goals as goal

slot_there : (s : StoreView) (r : PageRef) → ((k : Slot) → (rec_by s.segs r).slot ≡ Some k → HasSlot s.swap k.area k.slot) → (o : Option Slot) → (rec_by s.segs r).slot ≡ o → MatchOption o (Unit {0}) (λ k. HasSlot s.swap k.area k.slot)
slot_there s r has None e = tt
slot_there s r has (Some k) e = has k e

pub load-requires-clause-slot : goal.load-requires-clause-slot
load-requires-clause-slot g c =
    rw (c.page-slot.ensures, ← c.self.view_is)
    (slot_there (seen c.self.inside) c.args.page (λ k e. (slot-own (seen c.self.inside) c.self.invariant.0 c.args.page k e).0) (rec_by c.self.inside.segs c.args.page).slot refl)

pub settle-requires-clause-there : goal.settle-requires-clause-there
settle-requires-clause-there g c = rw (c.load.ensures.visits c.args.page None).goes.size c.requires.there

pub settle-requires-clause-has : goal.settle-requires-clause-has
settle-requires-clause-has g c = rw c.load.ensures.rest c.requires.has

pub settle-requires-clause-away : goal.settle-requires-clause-away
settle-requires-clause-away g c = rw c.load.ensures.rest c.requires.away

pub settle-requires-clause-bytes : goal.settle-requires-clause-bytes
settle-requires-clause-bytes g c =
    rw (c.in_ok-load.ensures.bytes, ← bytes-kept _ _ c.load.ensures.kept, c.page-slot.ensures, ap (λ (v : StoreView). v.segs) c.load.ensures.rest, ← c.self.view_is) refl

pub returns : goal.returns
returns g c =
    let s = c.args.self.now in
    let t = c.load.new.self in
    let z = c.settle.new.self in
    let u = c.args.touched.now in
    let ms = u.moved.items in
    let loaded = c.load.ensures in
    let settled = c.settle.ensures in
    let still = by-still _ _ λ (r : PageRef). ap (λ (v : StoreView). (rec_by v.segs r).frame) loaded.rest in
    record {
      here = grind (arith, nat_tests, common_steps);
      bit = settled.bit;
      visits = λ pinned. Visits-trans c.args.page pinned s t z (loaded.visits c.args.page pinned) (settled.visits pinned);
      moves = rw c.push.ensures.items
          (moves-trans ms ms (ms ++ Came c.args.page c.args.frame ∷ []) s t z (moves-still ms s t still) (moves-more ms (Came c.args.page c.args.frame) t z settled.came));
      few = grind (arith, common_steps);
      ins = grind (arith, nat_tests, common_steps);
      outs = refl;
      counts = counts-more u _ s z (one_if (is_some c.page-slot.result.slot)) 0
          (ap (λ n. u.ins + n) (c.from.ensures ∙ byte-one _ ∙ ap one_if c.is_some.ensures)) (ap (λ (v : StoreView). v.ins) settled.rest ∙ c.in_ok-load.ensures.ins)
          (omega arith) (ap (λ (v : StoreView). v.outs) settled.rest ∙ ap (λ (v : StoreView). v.outs) loaded.rest);
      placed = rw (← loaded.placed) settled.placed;
      stopped = tt;
      slot = tt;
      failures = ap (λ (v : StoreView). total v.swap) settled.rest ∙ c.in_ok-load.ensures.failures;
    }

pub returns-in_err-load : goal.returns-in_err-load
returns-in_err-load g c =
    let s = c.args.self.now in
    let t = c.load.new.self in
    let u = c.args.touched.now in
    let loaded = c.load.ensures in
    let from = c.from_residual.ensures.0 in
    let still = by-still _ _ λ (r : PageRef). ap (λ (v : StoreView). (rec_by v.segs r).frame) loaded.rest in
    record {
      here = grind (arith, common_steps);
      bit = grind (arith, common_steps);
      visits = λ pinned. loaded.visits c.args.page pinned;
      moves = moves-still u.moved.items s t still;
      few = omega arith;
      ins = grind (arith, common_steps);
      outs = refl;
      counts = grind (arith, common_steps, counts-still);
      placed = grind (arith, common_steps);
      stopped = MatchResult-from_err _ _ _ from λ _. loaded.placed;
      slot = grind (arith, common_steps);
      failures = rw (err_from_is_err_and c.from_residual.result c.from_residual.ensures.1).1 c.in_err-load.ensures.failures;
    }
