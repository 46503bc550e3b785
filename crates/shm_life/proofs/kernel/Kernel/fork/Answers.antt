use Rattle.shm_life.proofs.Names.{◌∙◌, ◌≡◌, ap, rules, Piece, All, refl, [], IsCaller, IsLive, caller_seen, pieces_at, born_child, SameTable, segments_of, unborn_from, map, fork_marks, segments_in, moves-refl, Some}
use Rattle.shm_life.proofs.Going.{renewed, renewed-same}
use Rattle.shm_life.proofs.Inheriting.{segments-bare}
use Rattle.shm_life.proofs.Running.{granted, keeps_refl}
use Rattle.shm_life.proofs.Settled.{caller-fits, lives-map, still-well, well-kept}
use Rattle.shm_life.proofs.Peopled.{forked-apart}
use Rattle.shm_life.proofs.Changed.{born-fits, forked-kept}
use Rattle.shm_life.proofs.kernel.Kernel.fork.Given.{Over}
use Rattle.shm_life.proofs.kernel.Kernel.fork.Goals as goal
use Rattle.shm_life.proofs.kernel.Kernel.fork.Goals.{After-pieces}

-- the segments of the pieces that are noted are those of the caller
noted : (g : Over) (c : After-pieces g) → segments_in c.pieces.result.now ≡ segments_of (caller_seen c.args.caller.now c.self.inside.spaces.runners)
noted g c = ap segments_in c.pieces.ensures.value ∙ segments-bare c.space.result.now.pieces ∙ ap (map (λ (p : Piece). p.seg)) c.space.ensures.pieces

pub note_inherited-requires : goal.note_inherited-requires
note_inherited-requires g c =
    let t = c.self.inside.segments.table in
    let rs = c.self.inside.spaces.runners in
    let is : IsCaller c.args.caller.now rs = rw (← c.self.view_is) at c.requires in
    let lives : All (IsLive t) (segments_of (caller_seen c.args.caller.now rs)) = lives-map t (pieces_at rs c.args.caller.now.index) (caller-fits t c.args.caller.now rs is c.self.invariant.0.kept.pieces) in
    rw (noted g c) lives

pub invariant_of-self : goal.invariant_of-self
invariant_of-self g c = (
  (let t = c.self.inside.segments.table in
      let rs = c.self.inside.spaces.runners in
      let caller = c.args.caller.now in
      let child = c.in-Some.child in
      let is : IsCaller caller rs = rw (← c.self.view_is) at c.requires in
      let born : c.fork.new.self.runners ≡ born_child rs (caller_seen caller rs) child = c.fork.ensures.born in
      let unborn : unborn_from 0 child.pid rs ≡ Some child.index = c.in-Some.ensures.unborn in
      let fits = born-fits t rs (caller_seen caller rs) child c.self.invariant.0.kept.pieces (caller-fits t caller rs is c.self.invariant.0.kept.pieces) in
      let same : SameTable t (renewed (fork_marks c.rules.result) c.args.time caller.pid t (segments_in c.pieces.result.now)) = renewed-same (fork_marks c.rules.result) c.args.time caller.pid t (segments_in c.pieces.result.now) in
      let translated = c.fork.ensures.translated c.self.inside.segments.memory c.self.invariant.0.translated in
      rw c.note_inherited.ensures
      (still-well {lost = []} _ _ _ _ _ _ _ _
      (well-kept _ _ _ _ _ _ _ _ c.self.invariant.0
      (forked-kept c.self.inside.limits t rs c.fork.new.self.runners c.self.invariant.0.kept (rw born fits) c.fork.ensures.more (rw born (forked-apart c.self.inside.limits.most_processes rs (caller_seen caller rs) child unborn c.self.invariant.0.kept.processes)))
      translated) same refl translated)),
  c.fork.ensures.most ∙ c.self.invariant.1,
  c.self.invariant.2,
)

pub returns : goal.returns
returns g c =
    let noted = noted g (goal.at.returns g c).After-pieces in
    let table = rw (c.rules.ensures.value, noted) at c.note_inherited.ensures in
    granted _ _ _ _ _ _ (search (rules, table)) refl (search (rules, keeps_refl)) (search (rules, moves-refl))
