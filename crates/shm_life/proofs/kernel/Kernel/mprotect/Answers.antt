use Rattle.shm_life.proofs.Names.{◌∙◌, refl, ap, [], All, Machine, Piece, IsCaller, IsLive, PieceFits, caller_seen, pieces_at, sizes, SameTable, SegmentsView, All-weaker, rest_is_attached}
use Rattle.shm_life.proofs.Going.{renewed, renewed-kept, renewed-same}
use Rattle.shm_life.proofs.Settled.{caller-fits, still-well, well-kept}
use Rattle.shm_attach.proofs.Protected.{split-own}
use Rattle.shm_life.proofs.Protected.{mprotect-as}
use Rattle.shm_life.proofs.Running.{unmoved}
use Rattle.shm_life.proofs.kernel.Kernel.mprotect.Goals as goal

pub attach_rests-requires : goal.attach_rests-requires
attach_rests-requires g c =
    let t = c.self.inside.segments.table in
    let rs = c.self.inside.spaces.runners in
    let caller = c.args.caller.now in
    let is : IsCaller caller rs = rw (← c.self.view_is) at c.requires in
    let own : All (λ (p : Piece). IsLive t p.seg) (pieces_at rs caller.index) =
    All-weaker (PieceFits t) (λ (p : Piece). IsLive t p.seg) (λ p h. h.0) (pieces_at rs caller.index) (caller-fits t caller rs is c.self.invariant.0.kept.pieces) in
    rw (c.lost.ensures.value, c.protect-protected.ensures.lost) (split-own (IsLive t) _ c.args.writable c.args.addr c.args.len (pieces_at rs caller.index) own)

pub invariant_of-self : goal.invariant_of-self
invariant_of-self g c = (
  (let t = c.self.inside.segments.table in
      let rs = c.self.inside.spaces.runners in
      let caller = c.args.caller.now in
      let is : IsCaller caller rs = rw (← c.self.view_is) at c.requires in
      let w = c.self.invariant.0 in
      let e = c.protect-protected.ensures in
      let translated = e.translated c.self.inside.segments.memory w.translated in
      let same : SameTable t (renewed (rest_is_attached c.rules.result) c.args.time caller.pid t c.lost.result.now) = renewed-same (rest_is_attached c.rules.result) c.args.time caller.pid t c.lost.result.now in
      rw c.attach_rests.ensures
      (still-well {lost = []} _ _ _ _ _ _ _ _
      (well-kept _ _ _ _ _ _ _ _ w (rw e.runners (renewed-kept c.self.inside.limits t rs caller w.kept is _ e.own)) translated) same refl translated)),
  c.protect-protected.ensures.most ∙ c.self.invariant.1,
  c.self.invariant.2,
)

pub returns : goal.returns
returns g c =
    let rs = c.self.inside.spaces.runners in
    let m : Machine = record { limits = c.self.inside.limits; areas = sizes c.self.inside.segments.memory.swap; table = c.self.inside.segments.table; runners = rs; host_ranges = c.self.inside.host_ranges.items } in
    let e = c.protect-protected.ensures in
    let step = mprotect-as m c.args.time (caller_seen c.args.caller.now rs) _ c.args.writable c.args.addr c.args.len c.protect-protected.result c.self.invariant.1 e.refusal in
    unmoved _ _ _ _ _ (rw (← c.self.view_is) (step ∙ rw (c.attach_rests.ensures, c.rules.ensures.value, c.lost.ensures.value, e.lost, e.runners) refl))
    (rw (← c.self.view_is) (ap (λ (v : SegmentsView). v.memory) c.attach_rests.ensures))
