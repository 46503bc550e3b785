use Rattle.shm_life.proofs.Names.{◌≡◌, ◌+◌, ◌*◌, pieces_at, rest_segments, refl, ap, sym, ◌∙◌, rules, to_z, of_z, w32, Outcome, shmat, is_refusal, AreTrue, IsCaller, caller_seen, SegmentsView, piece_for, attaches_if, PieceFits, rest_is_attached}
use Rattle.shm_life.proofs.Settled.{well-kept}
use Rattle.shm_life.proofs.Going.{Goes, swept-may, attached-goes, attached-first, renewed-first, renewed-same, rests-live}
use Rattle.shm_life.proofs.Attaching.{on-err}
use Rattle.shm_life.proofs.Running.{granted, kept_refl, answered_as}
use Rattle.shm_life.proofs.Indexed.{only-at}
use Rattle.shm_life.proofs.kernel.Kernel.shmat.Given.{Over}
use Rattle.shm_life.proofs.kernel.Kernel.shmat.Goals as goal
use Rattle.shm_life.proofs.kernel.Kernel.shmat.Goals.{After-place_for, After-segments, After-lost}

-- the segments of which a part is left
kept : (g : Over) (c : After-segments g) → c.segments.result.now ≡ rest_segments c.in-Ok.placed.base (c.in-Ok.placed.base + 4096 * c.in-Ok.placed.pages) (pieces_at c.self.inside.spaces.runners c.args.caller.now.index)
kept g c = c.segments.ensures.value ∙ c.rests-rests.ensures ∙ ap (rest_segments c.in-Ok.placed.base (c.in-Ok.placed.base + 4096 * c.in-Ok.placed.pages)) c.space.ensures.pieces

pub attach_rests-requires : goal.attach_rests-requires
attach_rests-requires g c =
    let caller = c.args.caller.now in
    let is : IsCaller caller c.self.inside.spaces.runners = rw (← c.self.view_is) at c.requires in
    rw (kept g c) (rests-live c.self.inside.limits _ _ caller c.self.invariant.0.kept is c.in-Ok.placed.base (c.in-Ok.placed.base + 4096 * c.in-Ok.placed.pages))

pub attach-requires-clause-only : goal.attach-requires-clause-only
attach-requires-clause-only g c =
    let fits : PieceFits c.self.inside.segments.table (piece_for c.args.flags c.in-Ok.placed) = rw (← c.self.view_is) at c.in-Ok.ensures.fits in
    only-at c.self.inside.segments.table c.self.inside.spaces.runners c.in-Ok.placed.seg fits.0 c.self.invariant.0.kept.pieces

goes : (g : Over) (c : After-lost g) → Goes c.self.inside.limits c.attached.new.self.table c.attach.new.self.runners c.lost.result.now
goes g c =
    let caller = c.args.caller.now in
    let rs = c.self.inside.spaces.runners in
    let p = c.in-Ok.placed in
    let is : IsCaller caller rs = rw (← c.self.view_is) at c.requires in
    let fits : PieceFits c.self.inside.segments.table (piece_for c.args.flags p) = rw (← c.self.view_is) at c.in-Ok.ensures.fits in
    rw (c.attached.ensures, c.attach_rests.ensures, c.rules.ensures.value, c.lost.ensures.value, c.in_ok-attach.ensures.lost, c.in_ok-attach.ensures.runners, c.contains-writable.ensures tt)
    (attached-goes c.self.inside.limits c.self.inside.segments.table rs caller c.args.time c.segments.result.now c.args.flags p c.self.invariant.0.kept is fits)

pub attached-requires : goal.attached-requires
attached-requires g c =
    let fits : PieceFits c.self.inside.segments.table (piece_for c.args.flags c.in-Ok.placed) = rw (← c.self.view_is) at c.in-Ok.ensures.fits in
    let t = c.self.inside.segments.table in
    rw c.attach_rests.ensures ((renewed-same (rest_is_attached c.rules.result) c.args.time c.args.caller.now.pid t c.segments.result.now).same.there c.in-Ok.placed.seg ∙ fits.0)

pub after_detach-requires : goal.after_detach-requires
after_detach-requires g c = swept-may _ _ _ (goes g c)

pub invariant_of-self-2 : goal.invariant_of-self-2
invariant_of-self-2 g c = (
  (let m = c.self.inside.segments.memory in
      let store = c.store-store.ensures.value in
      let translated : AreTrue c.attach.new.self.translations m = rw store at (c.attach.ensures.translated (rw store c.self.invariant.0.translated)) in
      let same : c.attached.new.self.memory ≡ m = ap (λ (v : SegmentsView). v.memory) c.attached.ensures ∙ ap (λ (v : SegmentsView). v.memory) c.attach_rests.ensures in
      c.after_detach.ensures.well c.self.inside.limits (rw same (well-kept _ _ _ _ _ _ _ _ c.self.invariant.0 (goes g (goal.at.invariant_of-self-2 g c).After-lost).kept translated))),
  c.attach.ensures.most ∙ c.self.invariant.1,
  c.self.invariant.2,
)

-- what the flat machine does
outcome : (g : Over) (c : After-place_for g)
    → shmat c.args.self.now.flat c.args.time (caller_seen c.args.caller.now c.args.self.now.flat.runners) c.args.id c.args.addr c.args.flags
    ≡ attaches_if c.args.self.now.flat c.args.time (caller_seen c.args.caller.now c.args.self.now.flat.runners) c.args.flags c.place_for.result
outcome g c =
    let m = c.args.self.now.flat in
    let k = caller_seen c.args.caller.now m.runners in
    let signed : to_z w32 (of_z w32 c.args.id) ≡ c.args.id = search rules in
    ap (attaches_if m c.args.time k c.args.flags) (rw signed at (sym c.place_for.ensures.value))

pub returns-clause-served : goal.returns-clause-served
returns-clause-served g c =
    let step = rw (c.in-Ok.is, ← c.self.view_is) at (outcome g (goal.at.returns-clause-served g c).After-place_for) in
    let gone = rw (c.lost.ensures.value, c.in_ok-attach.ensures.lost, c.in_ok-attach.ensures.runners, c.contains-writable.ensures tt) at c.after_detach.ensures.table in
    let kept = kept g (goal.at.returns-clause-served g c).After-segments in
    let same : c.attached.new.self.memory ≡ c.self.inside.segments.memory = ap (λ (v : SegmentsView). v.memory) c.attached.ensures ∙ ap (λ (v : SegmentsView). v.memory) c.attach_rests.ensures in
    granted _ _ _ _ _ _ (rw (← c.self.view_is) (step ∙ rw (c.after_detach.ensures.sizes, gone, c.attached.ensures, c.attach_rests.ensures, attached-first, renewed-first, kept, c.rules.ensures.value, c.in_ok-attach.ensures.runners, c.contains-writable.ensures tt) refl)) refl (search (rules, kept_refl)) (rw (← c.self.view_is) (rw same at c.after_detach.ensures.ends).moves)

pub returns-in-Err-clause-served : goal.returns-in-Err-clause-served
returns-in-Err-clause-served g c = answered_as _ _ _ _ (rw c.in-Err.is at (outcome g (goal.at.returns-in-Err-clause-served g c).After-place_for))

pub returns-in_err-attach-clause-memory : goal.returns-in_err-attach-clause-memory
returns-in_err-attach-clause-memory g c =
    let step = rw c.in-Ok.is at (outcome g (goal.at.returns-in_err-attach-clause-memory g c).After-place_for) in
    on-err c.from_residual.result (record { unchanged = search rules; instead = ap (λ (o : Outcome). is_refusal o.reply) step })
