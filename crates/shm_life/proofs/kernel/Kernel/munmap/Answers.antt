use Rattle.shm_life.proofs.Names.{rules, refl, ◌∙◌, ◌≡◌, ap, IsCaller, SameTable, pieces_at, rest_segments, detach_all, swept, SegmentsView, rest_is_attached}
use Rattle.shm_life.proofs.Going.{Goes, swept-may, range-goes, renewed, renewed-first, renewed-same, rests-live}
use Rattle.shm_life.proofs.Settled.{well-kept, settled-table}
use Rattle.shm_life.proofs.Running.{granted, kept_refl}
use Rattle.shm_life.proofs.kernel.Kernel.munmap.Given.{Over}
use Rattle.shm_life.proofs.kernel.Kernel.munmap.Goals as goal
use Rattle.shm_life.proofs.kernel.Kernel.munmap.Goals.{After-lost, After-segments}

-- the segments of which a part is left
kept : (g : Over) (c : After-segments g) → c.segments.result.now ≡ rest_segments c.args.addr c.in_ok-to.to (pieces_at c.self.inside.spaces.runners c.args.caller.now.index)
kept g c = c.segments.ensures.value ∙ c.rests-rests.ensures ∙ ap (rest_segments c.args.addr c.in_ok-to.to) c.space.ensures.pieces

pub attach_rests-requires : goal.attach_rests-requires
attach_rests-requires g c =
    let caller = c.args.caller.now in
    let is : IsCaller caller c.self.inside.spaces.runners = rw (← c.self.view_is) at c.requires in
    rw (kept g c) (rests-live c.self.inside.limits _ _ caller c.self.invariant.0.kept is c.args.addr c.in_ok-to.to)

goes : (g : Over) (c : After-lost g) → Goes c.self.inside.limits c.attach_rests.new.segments.table c.unmap.new.self.runners c.lost.result.now
goes g c =
    let caller = c.args.caller.now in
    let t = c.self.inside.segments.table in
    let rs = c.self.inside.spaces.runners in
    let is : IsCaller caller rs = rw (← c.self.view_is) at c.requires in
    let e = c.in_ok-unmap.ensures in
    let same : SameTable t (renewed (rest_is_attached c.rules.result) c.args.time caller.pid t c.segments.result.now) = renewed-same (rest_is_attached c.rules.result) c.args.time caller.pid t c.segments.result.now in
    rw (c.attach_rests.ensures, c.lost.ensures.value, e.lost, e.runners)
    (range-goes c.self.inside.limits _ rs caller (settled-table c.self.inside.limits t _ rs c.self.invariant.0.kept same) is c.args.addr c.in_ok-to.to)

pub after_detach-requires : goal.after_detach-requires
after_detach-requires g c = swept-may _ _ _ (goes g c)

pub invariant_of-self-2 : goal.invariant_of-self-2
invariant_of-self-2 g c = (
  (let m = c.self.inside.segments.memory in
      let same : c.attach_rests.new.segments.memory ≡ m = ap (λ (v : SegmentsView). v.memory) c.attach_rests.ensures in
      let translated = c.unmap.ensures.translated m c.self.invariant.0.translated in
      c.after_detach.ensures.well c.self.inside.limits (rw same (well-kept _ _ _ _ _ _ _ _ c.self.invariant.0 (goes g (goal.at.invariant_of-self-2 g c).After-lost).kept translated))),
  c.unmap.ensures.most ∙ c.self.invariant.1,
  c.self.invariant.2,
)

pub returns : goal.returns
returns g c =
    let kept = kept g (goal.at.returns g c).After-segments in
    let e = c.in_ok-unmap.ensures in
    let table = c.after_detach.ensures.table
    ∙ ap (λ (v : SegmentsView). swept c.unmap.new.self.runners (detach_all c.args.time c.args.caller.now.pid v.table c.lost.result.now)) c.attach_rests.ensures
    ∙ ap (swept c.unmap.new.self.runners) (renewed-first (rest_is_attached c.rules.result) c.args.time c.args.caller.now.pid c.segments.result.now c.lost.result.now c.self.inside.segments.table) in
    let left = rw (kept, c.rules.ensures.value, c.lost.ensures.value, e.lost, e.runners) at table in
    let same : c.attach_rests.new.segments.memory ≡ c.self.inside.segments.memory = ap (λ (v : SegmentsView). v.memory) c.attach_rests.ensures in
    granted _ _ _ _ _ _ (search (rules, left)) refl (search (rules, kept_refl)) (rw (← c.self.view_is) (rw same at c.after_detach.ensures.ends).moves)
