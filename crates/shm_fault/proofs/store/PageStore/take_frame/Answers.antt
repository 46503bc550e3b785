use Rattle.shm_fault.proofs.Names.{err_from_is_err_and, MatchResult-from_err, counted, Gone, refl, sym, ap, ◌+◌, ◌∙◌, arith, common_steps, one_if, seen, nat_tests}
use Rattle.shm_fault.specs.Store.{frame_of}
use Rattle.shm_fault.proofs.Visits.{moves-more, moves-still}
use Rattle.shm_fault.proofs.Counting.{byte-one, counts-still, counts-more}
use Rattle.shm_fault.proofs.Places.{evicted-counted, free-counted, room-free, room-made}
use Rattle.shm_fault.proofs.store.PageStore.take_frame.Goals as goal

pub evict-requires : goal.evict-requires
evict-requires g c = record { full = rw c.free_frame.ensures.same c.in_default.ensures.least }

pub returns-in-Some : goal.returns-in-Some
returns-in-Some g c =
    let s = seen c.self.inside in
    let room = room-free s c.args.pinned c.in-Some.frame (sym c.in-Some.ensures.value) in
    let transfers = free-counted s c.args.pinned c.in-Some.frame (counted c.args.touched.now) (sym c.in-Some.ensures.value) in
    rw (c.free_frame.ensures.same, ← c.self.view_is) (grind (arith, nat_tests, common_steps, room, transfers, counts-still))

pub returns : goal.returns
returns g c =
    let s = seen c.self.inside in
    let t = c.evict.new.self in
    let u = c.args.touched.now in
    let gone = c.in_ok-evicted.evicted in
    let room = room-made s t c.args.pinned gone.frame (sym c.in_default.ensures.value) (rw c.free_frame.ensures.same at c.in_ok-evicted.ensures.placed) (rw c.free_frame.ensures.same at c.in_ok-evicted.ensures.chosen) in
    record {
      free = c.in_ok-evicted.ensures.free;
      visits = λ r. rw (← c.self.view_is) (rw c.free_frame.ensures.same at (c.evict.ensures.visits r));
      moves = rw (c.push.ensures.items, ← c.self.view_is) (moves-more u.moved.items (Gone gone.page) s t c.in_ok-evicted.ensures.gone);
      few = grind (arith, common_steps);
      ins = refl;
      outs = grind (arith, common_steps);
      counts = rw (← c.self.view_is) (counts-more u _ s t 0 (one_if gone.written) (omega arith) c.evict.ensures.ins (ap (λ n. u.outs + n) (c.from.ensures ∙ byte-one _)) c.in_ok-evicted.ensures.outs);
      placed = rw (← c.self.view_is) room.0;
      chosen = rw (← c.self.view_is) room.1;
      transfers = rw (← c.self.view_is)
          (evicted-counted s c.args.pinned gone.written (counted u) (u.outs + c.from.result) (sym c.in_default.ensures.value) (rw c.free_frame.ensures.same at c.in_ok-evicted.ensures.written) (ap (λ n. u.outs + n) (c.from.ensures ∙ byte-one _)));
      uncounted = tt;
      stopped = tt;
      failures = rw (← c.self.view_is) c.in_ok-evicted.ensures.failures;
    }

pub returns-in_err-evicted : goal.returns-in_err-evicted
unfolding frame_of
returns-in_err-evicted g c =
    let s = seen c.self.inside in
    let t = c.evict.new.self in
    let u = c.args.touched.now in
    let from = c.from_residual.ensures.0 in
    record {
      free = grind (arith, common_steps);
      visits = λ r. rw (← c.self.view_is) (rw c.free_frame.ensures.same at (c.evict.ensures.visits r));
      moves = rw (← c.self.view_is) (moves-still u.moved.items s t c.in_err-evicted.ensures.err);
      few = omega arith;
      ins = refl;
      outs = omega arith;
      counts = rw (← c.self.view_is) (counts-still u _ _ c.evict.ensures.ins c.in_err-evicted.ensures.outs);
      placed = grind (arith, common_steps);
      chosen = grind (arith, common_steps);
      transfers = grind (arith, common_steps);
      uncounted = MatchResult-from_err _ _ _ from λ _. refl;
      stopped = MatchResult-from_err _ _ _ from λ _. rw (← c.self.view_is) (rw c.free_frame.ensures.same at c.in_err-evicted.ensures.stopped);
      failures = rw ((err_from_is_err_and c.from_residual.result c.from_residual.ensures.1).1, ← c.self.view_is) c.in_err-evicted.ensures.failures;
    }
