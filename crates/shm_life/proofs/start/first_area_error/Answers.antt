use Rattle.shm_life.proofs.Names.{◌≡◌, ℕ, ◌+◌, ◌<◌, ◌&&◌, List, length, drop, get_or, refl, arith, common_steps, within, are_sizes, map, drop_more}
use Rattle.shm_life.proofs.start.first_area_error.Goals as goal

sizes-next : {A : Type 0} (most : ℕ) (size : A → ℕ) (areas : List A) (i : ℕ) (area : A) → i < length areas → area ≡ get_or areas i area
    → are_sizes most (map size (drop i areas)) ≡ (within 1 most (size area) && are_sizes most (map size (drop (i + 1) areas)))
sizes-next most size areas i area within is = rw (drop_more areas i area within, ← is) refl

pub returns-then-not-is_area_size : goal.returns-then-not-is_area_size
returns-then-not-is_area_size g c = λ size gives.
    let slots = gives _ _ (record { shown = _; shows = refl; says = record { met = c.slots.ensures } }) in
    let rest = sizes-next c.args.limits.now.most_slots size c.args.areas.now c.loop-area.area-index c.area-item.result c.loop-area-test.true c.area-item.is in
    grind (arith, common_steps, slots, rest, c.loop-area.invariant size gives)

pub loop-area-preserved : goal.loop-area-preserved
loop-area-preserved g c = λ size gives.
    let slots = gives _ _ (record { shown = _; shows = refl; says = record { met = c.slots.ensures } }) in
    let rest = sizes-next c.args.limits.now.most_slots size c.args.areas.now c.loop-area.area-index c.area-item.result c.loop-area-test.true c.area-item.is in
    grind (arith, common_steps, slots, rest, c.loop-area.invariant size gives)
