use Rattle.shm_fault.proofs.Names.{err_from_is_err_and, ◌≡◌, ◌∙◌, arith, common_steps, true, false, sym, frame_at, nat_tests}
use Rattle.shm_fault.proofs.Sound.{dirty-same}
use Rattle.shm_fault.proofs.Places.{clean-is, dirty-is}
use Rattle.shm_fault.specs.Store.{frame_of}
use Rattle.shm_fault.proofs.store.PageStore.clean.Goals as goal

pub page_out-requires-clause-dirty : goal.page_out-requires-clause-dirty
page_out-requires-clause-dirty g c = rw (← c.self.view_is) (sym c.is_dirty.ensures ∙ c.if-not-is_dirty.false)

pub returns-then-not-is_dirty : goal.returns-then-not-is_dirty
unfolding frame_of
returns-then-not-is_dirty g c =
    let s = c.args.self.now in
    let not_dirty : (frame_at s.frames c.args.frame).dirty ≡ false = rw (← c.self.view_is) (sym c.is_dirty.ensures ∙ c.if-not-is_dirty.true) in
    grind (arith, nat_tests, common_steps, dirty-same s.frames c.args.frame false not_dirty, clean-is s c.args.frame not_dirty)

pub returns : goal.returns
returns g c =
    let s = c.args.self.now in
    let dirty : (frame_at s.frames c.args.frame).dirty ≡ true = rw (← c.self.view_is) (sym c.is_dirty.ensures ∙ c.if-not-is_dirty.false) in
    grind (arith, nat_tests, common_steps, dirty, dirty-is s c.page_out.new.self c.args.frame dirty)

pub returns-in_err-page_out : goal.returns-in_err-page_out
returns-in_err-page_out g c =
    let s = c.args.self.now in
    let dirty : (frame_at s.frames c.args.frame).dirty ≡ true = rw (← c.self.view_is) (sym c.is_dirty.ensures ∙ c.if-not-is_dirty.false) in
    rw (err_from_is_err_and c.from_residual.result c.from_residual.ensures.1).1 (grind (arith, nat_tests, common_steps, dirty, dirty-same s.frames c.args.frame true dirty))
