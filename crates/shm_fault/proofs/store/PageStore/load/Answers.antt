use Rattle.shm_fault.proofs.Names.{err_from_is_err_and, MatchResult-from_err, ℕ, refl, arith, common_steps, nat_tests, frame_at, inl, unlocked, seen, AreSkipped, owners-kept}
use Rattle.shm_fault.proofs.Skipped.{skipped-set}
use Rattle.shm_fault.proofs.Visits.{IsStep, step-load}
use Rattle.shm_fault.proofs.Places.{same-places}
use Rattle.shm_fault.proofs.store.PageStore.load.Goals.{After-fill_from}
use Rattle.shm_fault.proofs.store.PageStore.load.Goals as goal

step : (g : _) (c : After-fill_from g) (ins : ℕ)
    → IsStep (seen c.self.inside) (record (seen c.self.inside) { frames = c.fill_from.new.frames; swap = c.fill_from.new.swap; ins = ins })
step g c ins =
    let e = c.fill_from.ensures in
    let bytes = (frame_at c.fill_from.new.frames c.args.frame).bytes in
    rw e.frames
    (step-load (seen c.self.inside) c.self.invariant.0 c.args.frame bytes (rw (← c.self.view_is) at c.requires.free) c.fill_from.new.swap ins e.kept (e.sound c.self.invariant.0.swap) e.sizes e.goes_on)

skipped : (g : _) (c : After-fill_from g) → AreSkipped (unlocked c.self.inside.segs) c.fill_from.new.frames c.self.inside.skips
skipped g c =
    let i = c.self.inside in
    rw c.fill_from.ensures.frames (skipped-set (unlocked i.segs) i.frames i.skips c.self.invariant.1 c.args.frame (record (frame_at i.frames c.args.frame) { bytes = (frame_at c.fill_from.new.frames c.args.frame).bytes }) (inl refl))

pub invariant_of-self-2 : goal.invariant_of-self-2
invariant_of-self-2 g c =
    let o = (goal.at.invariant_of-self-2 g c).After-fill_from in
    ((step g o c.saturating_add-self-inside.result).sound, skipped g o)

pub invariant_of-self : goal.invariant_of-self
invariant_of-self g c =
    let o = (goal.at.invariant_of-self g c).After-fill_from in
    ((step g o c.self.inside.ins).sound, skipped g o)

pub returns : goal.returns
returns g c =
    let s = seen c.self.inside in
    let t = record s { frames = c.fill_from.new.frames; swap = c.fill_from.new.swap; ins = c.saturating_add-self-inside.result } in
    let e = c.in_ok-fill_from.ensures in
    let k = step g (goal.at.returns g c).After-fill_from c.saturating_add-self-inside.result in
    rw (← c.self.view_is)
    (record {
      bytes = e.bytes;
      swap = e.swap;
      kept = c.fill_from.ensures.kept;
      rest = refl;
      ins = grind (arith, nat_tests, common_steps);
      free = grind (arith, common_steps);
      placed = same-places s t c.args.frame (frame_at c.fill_from.new.frames c.args.frame).bytes refl refl (owners-kept s.swap c.fill_from.new.swap c.fill_from.ensures.kept) c.fill_from.ensures.frames;
      slot = tt;
      visits = k.visits;
      failures = e.failures;
    })

pub returns-in_err-fill_from : goal.returns-in_err-fill_from
returns-in_err-fill_from g c =
    let s = seen c.self.inside in
    let t = record s { frames = c.fill_from.new.frames; swap = c.fill_from.new.swap } in
    let e = c.in_err-fill_from.ensures in
    let from = c.from_residual.ensures.0 in
    let k = step g (goal.at.returns-in_err-fill_from g c).After-fill_from c.self.inside.ins in
    rw (← c.self.view_is)
    (record {
      bytes = grind (arith, common_steps);
      swap = grind (arith, common_steps);
      kept = c.fill_from.ensures.kept;
      rest = refl;
      ins = grind (arith, common_steps);
      free = grind (arith, common_steps);
      placed = same-places s t c.args.frame (frame_at c.fill_from.new.frames c.args.frame).bytes refl refl (owners-kept s.swap c.fill_from.new.swap c.fill_from.ensures.kept) c.fill_from.ensures.frames;
      slot = MatchResult-from_err _ _ _ from λ _. e.slot;
      visits = k.visits;
      failures = rw (err_from_is_err_and c.from_residual.result c.from_residual.ensures.1).1 e.failures;
    })
