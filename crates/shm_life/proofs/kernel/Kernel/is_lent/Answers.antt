use Rattle.shm_life.proofs.Names.{◌≡◌, ◌∙◌, Some, None, sym, frame-own, frame_by}
use Rattle.shm_fault.specs.Store.{frame_of}
use Rattle.shm_life.proofs.Lending.{lent-there, lent-nowhere}
use Rattle.shm_life.proofs.kernel.Kernel.is_lent.Goals as goal

pub is_lent-requires : goal.is_lent-requires
unfolding frame_of
is_lent-requires g c =
    let m = c.self.inside.segments.memory in
    let asked = rw c.store-store.ensures.value at c.frame.ensures in
    let at : frame_by m c.args.page ≡ Some c.in-Some.frame = sym asked ∙ c.in-Some.is in
    let frames = rw c.store-store.ensures.value at c.frames.ensures in
    rw frames (frame-own m c.store-store.ensures.exact.sound c.args.page c.in-Some.frame at).0

pub returns-in-Some : goal.returns-in-Some
unfolding frame_of
returns-in-Some g c =
    let m = c.self.inside.segments.memory in
    let asked = rw c.store-store.ensures.value at c.frame.ensures in
    let at : frame_by m c.args.page ≡ Some c.in-Some.frame = sym asked ∙ c.in-Some.is in
    let frames = rw c.store-store.ensures.value at c.frames.ensures in
    let lent = rw frames at c.is_lent.ensures in
    rw (← c.self.view_is) (lent ∙ lent-there m c.args.page c.in-Some.frame at)

pub returns-in-None : goal.returns-in-None
unfolding frame_of
returns-in-None g c =
    let m = c.self.inside.segments.memory in
    let asked = rw c.store-store.ensures.value at c.frame.ensures in
    let at : frame_by m c.args.page ≡ None = sym asked ∙ c.in-None.is in
    rw (← c.self.view_is) (lent-nowhere m c.args.page at)
