use Rattle.shm_life.proofs.Names.{rules, ◌≡◌, None, sym, ap, refl, ◌∙◌, arith, Machine, Outcome, gives, swapoff, is_refusal, Done, caller_seen, sizes, StoreView, slice_set, slots}
use Rattle.shm_life.proofs.Swapping.{IsThere, is_there, off-few, off-done}
use Rattle.shm_life.proofs.Running.{failing, granted, kept_refl, refused_as, ok_fact, err_fact, none-failed, one-failed}
use Rattle.shm_life.proofs.kernel.Kernel.swapoff.Given.{Over}
use Rattle.shm_life.proofs.kernel.Kernel.swapoff.Goals as goal
use Rattle.shm_life.proofs.kernel.Kernel.swapoff.Goals.{After-from, After-is_err}

-- the area is active, and the capacity is that of all areas
there : (g : Over) (c : After-from g) → IsThere (sizes c.self.inside.segments.memory.swap) c.args.area c.in-Some.size × (c.capacity.result ≡ slots (sizes c.self.inside.segments.memory.swap))
there g c =
    let swap : c.swap-swap.result.now ≡ c.self.inside.segments.memory.swap = c.swap-swap.ensures ∙ ap (λ (m : StoreView). m.swap) c.store.ensures.value in
    (is_there c.self.inside.segments.memory.swap c.args.area c.in-Some.size (rw swap at (sym c.size.ensures ∙ c.in-Some.is)), rw swap at c.capacity.ensures)

pub returns-then-capacity-reserved : goal.returns-then-capacity-reserved
returns-then-capacity-reserved g c = λ n.
    let rs = c.self.inside.spaces.runners in
    let m : Machine = record { limits = c.self.inside.limits; areas = sizes c.self.inside.segments.memory.swap; table = c.self.inside.segments.table; runners = rs; host_ranges = c.self.inside.host_ranges.items } in
    let at = there g (goal.at.returns-then-capacity-reserved g c).After-from in
    refused_as _ _ _ _ _ (rw (← c.self.view_is) (off-few m (caller_seen c.args.caller.now rs) c.args.area c.in-Some.size c.if-caller-ne0.false at.0 (omega (arith, c.if-capacity-reserved.true, c.from.ensures, c.reserved.ensures, at.1))))

-- the flat machine takes it away
done : (g : Over) (c : After-is_err g) → IsThere (sizes c.self.inside.segments.memory.swap) c.args.area c.in-Some.size × (c.capacity.result ≡ slots (sizes c.self.inside.segments.memory.swap))
    → swapoff c.args.self.now.flat (caller_seen c.args.caller.now c.args.self.now.flat.runners) c.args.area ≡ gives (record c.args.self.now.flat { areas = slice_set c.args.self.now.flat.areas c.args.area None }) Done
done g c at =
    let rs = c.self.inside.spaces.runners in
    let m : Machine = record { limits = c.self.inside.limits; areas = sizes c.self.inside.segments.memory.swap; table = c.self.inside.segments.table; runners = rs; host_ranges = c.self.inside.host_ranges.items } in
    rw (← c.self.view_is) (off-done m (caller_seen c.args.caller.now rs) c.args.area c.in-Some.size c.if-caller-ne0.false at.0 (omega (arith, c.if-capacity-reserved.false, c.from.ensures, c.reserved.ensures, at.1)))

pub returns-then-is_err : goal.returns-then-is_err
returns-then-is_err g c = λ n.
    let at = goal.at.returns-then-is_err g c in
    let failed = sym c.is_err.ensures.value ∙ c.if-is_err.true in
    let e = c.move_off.ensures in
    failing _ _ _ _ _ _ (record {
      instead = ap (λ (o : Outcome). is_refusal o.reply) (done g at.After-is_err (there g at.After-from));
      unchanged = rw (← c.self.view_is, err_fact c.move_off.result _ failed e.moves.kept_sizes, e.table) refl;
      cause = rw (← c.self.view_is) (err_fact c.move_off.result _ failed e.moves.cause);
    }) (search (rules, kept_refl)) (rw (← c.self.view_is) (record { uncounted = e.moves.rest; failures = one-failed c.move_off.result _ _ failed e.moves.failures; stopped = err_fact c.move_off.result _ failed e.moves.stopped }))

pub returns : goal.returns
returns g c = λ n.
    let at = goal.at.returns g c in
    let e = c.move_off.ensures in
    let went = sym c.is_err.ensures.value ∙ c.if-is_err.false in
    let gone = ok_fact c.move_off.result _ went e.moves.gone in
    granted _ _ _ _ _ _ (done g at.After-is_err (there g at.After-from) ∙ rw (← c.self.view_is, gone, e.table) refl) refl (search (rules, kept_refl))
    (rw (← c.self.view_is) (record { uncounted = e.moves.rest; failures = none-failed c.move_off.result _ _ went e.moves.failures; places = ok_fact c.move_off.result _ went e.moves.moves }))
