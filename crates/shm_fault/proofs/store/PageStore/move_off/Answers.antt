use Rattle.shm_fault.proofs.Names.{◌≡◌, false, refl, List, Option, None, ℕ, set, ap, length, ◌∙◌, arith, area_at, held, CountsFailure, IsStoreSound, Still, StoreView, SwapView, common_steps, nat_tests, seen, failures-after}
use Rattle.shm_fault.proofs.Counting.{uncounted-trans}
use Rattle.shm_fault.specs.Store.{frame_of}
use Rattle.shm_fault.proofs.Sound.{Goes-trans, GoesOn-trans, cause-of}
use Rattle.shm_fault.proofs.Visits.{kept-locked}
use Rattle.shm_fault.proofs.Areas.{IsCleaned, cleaned-more, cleaned-there, cleaned-room, cleaned-free, cleaned-off, cleaned-none}
use Rattle.shm_fault.proofs.Places.{area-gone, stops-moving}
use Rattle.shm_fault.proofs.store.PageStore.move_off.Goals.{After-unwrap_or-count, After-self-2, In_default, After-turn_off}
use Rattle.shm_fault.proofs.store.PageStore.move_off.Goals as goal

-- all slots of the area are visited
count : (g : _) (c : After-unwrap_or-count g) → c.unwrap_or-count.result ≡ length (area_at c.args.self.now.swap c.args.area).pages
count g c = grind (arith, nat_tests, common_steps, c.args.self.now.swap, c.size.result, c.args.area, c.self.view_is, c.size.ensures, c.requires.there, c.unwrap_or-count.ensures)

-- what the loop leaves, of the store as it is opened again
cleaned : (g : _) (c : After-self-2 g) → IsCleaned c.args.area c.loop-slot.slot c.args.self.now (seen c.self-2.inside)
cleaned g c = rw (← c.self-2.view_is) at c.loop-slot.invariant

done : (g : _) (c : After-turn_off g)
    → IsStoreSound (record (seen c.self-2.inside) { swap = c.turn_off.new.self }) × (held (record (seen c.self-2.inside) { swap = c.turn_off.new.self }) ≡ held c.args.self.now)
done g c =
    let o = goal.at.invariant_of-self g c in
    let all = count g o.After-unwrap_or-count in
    let e = c.turn_off.ensures in
    cleaned-off c.args.area c.loop-slot.slot c.args.self.now (seen c.self-2.inside) (cleaned g o.After-self-2) c.requires.there (omega (arith, all, c.loop-slot-test.false))
    c.turn_off.new.self e.gone e.sound e.sizes c.requires.room

still-off : (s t : StoreView) (u : SwapView) → Still s t → Still s (record t { swap = u })
unfolding frame_of
still-off s t u still seg page = still seg page

-- a write that failed moved no page's frame
still-err : (g : _) (c : In_default g) → Still c.args.self.now c.clear_slot.new.self
still-err g c seg page = c.clear_slot.ensures.still seg page ∙ c.loop-slot.invariant.still seg page

pub clear_slot-requires-clause-there : goal.clear_slot-requires-clause-there
clear_slot-requires-clause-there g c =
    let all = count g (goal.at.clear_slot-requires-clause-there g c).After-unwrap_or-count in
    cleaned-there c.args.area c.loop-slot.slot c.args.self.now c.loop-slot.self c.loop-slot.invariant c.requires.there (omega (arith, c.loop-slot-test.true, all))

pub clear_slot-requires-clause-room : goal.clear_slot-requires-clause-room
clear_slot-requires-clause-room g c =
    cleaned-room c.args.area c.loop-slot.slot c.args.self.now c.loop-slot.self c.loop-slot.invariant c.requires.there c.requires.room

pub loop-slot-preserved : goal.loop-slot-preserved
loop-slot-preserved g c =
    cleaned-more c.args.area c.loop-slot.slot c.args.self.now c.loop-slot.self c.clear_slot.new.self _ c.loop-slot.invariant c.in-Ok.ensures

pub turn_off-requires-clause-free : goal.turn_off-requires-clause-free
turn_off-requires-clause-free g c =
    let o = goal.at.turn_off-requires-clause-free g c in
    let all = count g o.After-unwrap_or-count in
    λ i lt. cleaned-free c.args.area c.loop-slot.slot c.args.self.now (seen c.self-2.inside) (cleaned g o.After-self-2) c.requires.there (omega (arith, all, c.loop-slot-test.false)) i

pub invariant_of-self : goal.invariant_of-self
invariant_of-self g c = ((done g c).0, c.self-2.invariant.1)

pub loop-slot-init : goal.loop-slot-init
loop-slot-init g c = rw (← c.self.view_is) (cleaned-none c.args.area (seen c.self.inside) c.self.invariant.0)

pub returns-in_default : goal.returns-in_default
returns-in_default g c =
    let o = goal.at.returns-in_default g c in
    let s = c.args.self.now in
    let t = c.clear_slot.new.self in
    let e = c.clear_slot.ensures in
    let before = c.loop-slot.invariant in
    let all = count g o.After-unwrap_or-count in
    let owned : length (area_at s.swap c.args.area).owners ≡ length (area_at s.swap c.args.area).pages = rw (← c.self.view_is) (c.self.invariant.0.swap.each c.args.area).owned in
    let still = still-err g o.In_default in
    let goes = Goes-trans s c.loop-slot.self t before.goes e.goes in
    let failures : CountsFailure false s t = failures-after false s.swap c.loop-slot.self.swap t.swap before.failures c.in_default.ensures.failures in
    record {
      held = goes.bytes;
      gone = tt;
      kept_sizes = goes.same_sizes;
      count = goes.size;
      cause = cause-of false s t goes failures refl;
      failures = failures;
      moved = c.none.ensures.0;
      rest = uncounted-trans s c.loop-slot.self t before.rest e.rest;
      moves = tt;
      stopped = stops-moving c.args.area c.loop-slot.slot s c.loop-slot.self t (omega (arith, all, owned, c.loop-slot-test.true)) before.placed c.in_default.ensures.stopped;
      still = still;
      kept = grind (arith, nat_tests, common_steps, still, kept-locked, s, t);
      counts = goes.goes_on;
      sound = e.sound;
    }

pub returns : goal.returns
returns g c =
    let o = goal.at.returns g c in
    let s = c.args.self.now in
    let t = seen c.self-2.inside in
    let u : StoreView = record t { swap = c.turn_off.new.self } in
    let is = cleaned g o.After-self-2 in
    let e = c.turn_off.ensures in
    let ok = done g o.After-turn_off in
    let all = count g o.After-unwrap_or-count in
    let last : c.loop-slot.slot ≡ length (area_at s.swap c.args.area).pages = omega (arith, all, c.loop-slot-test.false, c.loop-slot.auto.slot-end) in
    record {
      held = ok.1;
      gone = e.sizes ∙ ap (λ (xs : List (Option ℕ)). set xs c.args.area None) is.goes.same_sizes;
      kept_sizes = tt;
      count = is.goes.size;
      cause = tt;
      failures = e.failures ∙ is.failures;
      moved = tt;
      rest = record { ins = is.rest.ins; outs = is.rest.outs };
      moves = rw (← last) (area-gone s t u c.args.area c.loop-slot.slot (rw e.gone refl) is.placed);
      stopped = tt;
      still = still-off s t c.turn_off.new.self is.still;
      kept = grind (arith, nat_tests, common_steps, u, s, kept-locked, is);
      counts = GoesOn-trans _ _ _ is.goes.goes_on e.goes_on;
      sound = ok.0;
    }
