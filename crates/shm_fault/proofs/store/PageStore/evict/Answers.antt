use Rattle.shm_fault.proofs.Names.{err_from_is_err_and, MatchResult-from_err, total, arith, common_steps, ◌≡◌, Some, false, length-set, rec_by, List, ap, sym, ◌∙◌, get_or-set_same, Frame, no_frame, frame_at, StoreView, is_free, position-none, failures-after}
use Rattle.shm_fault.proofs.Pages.{by-still, still-by}
use Rattle.shm_fault.proofs.Visits.{evicted-gone, evicted-visits}
use Rattle.shm_fault.proofs.Places.{eviction-is, stops-write, victim-dirty}
use Rattle.shm_fault.proofs.store.PageStore.evict.Goals as goal

pub vacate-page-requires-clause-there : goal.vacate-page-requires-clause-there
vacate-page-requires-clause-there g c = rw (c.in_ok-written.ensures.ok, length-set, c.turn-frame.ensures.goes.size) c.turn-frame.ensures.there

pub returns : goal.returns
returns g c =
    let s = c.args.self.now in
    let t₁ = c.turn-frame.new.self in
    let t₂ = c.clean.new.self in
    let t₃ = c.vacate-page.new.self in
    let f = c.turn-frame.result in
    let turned = c.turn-frame.ensures in
    let cleaned = c.clean.ensures in
    let left = c.vacate-page.ensures in
    let segs = ap (λ (v : StoreView). v.segs) turned.rest in
    let set_at = get_or-set_same t₁.frames f (record (frame_at t₁.frames f) { dirty = false }) no_frame (rw turned.goes.size turned.there) in
    let owner : (frame_at s.frames f).owner ≡ Some c.vacate-page.result = sym (turned.alike f).owner ∙ (sym (ap (λ (fs : List Frame). (frame_at fs f).owner) c.in_ok-written.ensures.ok ∙ ap (λ (x : Frame). x.owner) set_at) ∙ left.page) in
    record {
      visits =
          evicted-visits s t₁ t₂ t₃ f c.vacate-page.result c.args.pinned (record (frame_at t₁.frames f) { dirty = false }) (record no_frame { bytes = (frame_at t₂.frames f).bytes })
          segs cleaned.still cleaned.away left.was left.segs turned.goes cleaned.goes left.goes turned.pin c.in_ok-written.ensures.ok left.frames turned.may owner;
      gone = evicted-gone s t₁ t₂ t₃ f c.vacate-page.result c.args.pinned no_frame no_frame segs cleaned.still cleaned.away left.was left.segs;
      free = grind (arith, common_steps, length-set, get_or-set_same);
      err = tt;
      ins = ap (λ (v : StoreView). v.ins) left.rest ∙ ap (λ (v : StoreView). v.ins) cleaned.rest ∙ ap (λ (v : StoreView). v.ins) turned.rest;
      outs = grind (arith, common_steps);
      placed = eviction-is s t₁ t₂ t₃ c.args.pinned f turned.chosen turned.placed c.in_ok-written.ensures.placed left.placed;
      chosen = turned.chosen;
      written = c.in_ok-written.ensures.written ∙ (turned.alike f).dirty ∙ victim-dirty s c.args.pinned f turned.chosen;
      stopped = tt;
      failures = ap (λ (v : StoreView). total v.swap) left.rest ∙ c.in_ok-written.ensures.failures ∙ ap (λ (v : StoreView). total v.swap) turned.rest;
    }

pub returns-in_err-written : goal.returns-in_err-written
returns-in_err-written g c =
    let s = c.args.self.now in
    let t₁ = c.turn-frame.new.self in
    let t₂ = c.clean.new.self in
    let turned = c.turn-frame.ensures in
    let cleaned = c.clean.ensures in
    let from = c.from_residual.ensures.0 in
    let still = still-by _ _ cleaned.still in
    record {
      visits = grind (arith, common_steps, still);
      gone = grind (arith, common_steps);
      free = grind (arith, common_steps);
      err = MatchResult-from_err _ _ _ from λ _. by-still _ _ λ r. still r ∙ ap (λ (v : StoreView). (rec_by v.segs r).frame) turned.rest;
      ins = ap (λ (v : StoreView). v.ins) cleaned.rest ∙ ap (λ (v : StoreView). v.ins) turned.rest;
      outs = grind (arith, common_steps);
      placed = grind (arith, common_steps);
      chosen = grind (arith, common_steps);
      written = grind (arith, common_steps);
      stopped = MatchResult-from_err _ _ _ from λ _.
          stops-write s t₁ t₂ c.args.pinned c.turn-frame.result turned.chosen turned.placed c.in_err-written.ensures.stopped
          (position-none is_free s.frames no_frame c.requires.full) (sym (turned.alike c.turn-frame.result).dirty ∙ c.in_err-written.ensures.dirty);
      failures = rw (err_from_is_err_and c.from_residual.result c.from_residual.ensures.1).1
          (failures-after false s.swap t₁.swap t₂.swap (ap (λ (v : StoreView). total v.swap) turned.rest) c.in_err-written.ensures.failures);
    }
