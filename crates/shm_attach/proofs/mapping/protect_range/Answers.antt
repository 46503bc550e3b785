use Rattle.shm_attach.proofs.Names.{◌≡◌, ◌∙◌, ◌+◌, ◌-◌, ◌/◌, ◌≤◌, length, option_to_list, append-nil, List, ℕ, Some, refl, ap, sym, subst, arith, LostView, runners_view, pieces_at, most_at, length-append, err_from_is_err_and, Protected, ended, protects_from, AreNow, protected_between, continued, noted, refusal_in}
use Rattle.shm_base.specs.State.{Piece}
use Rattle.shm_attach.proofs.Growing.{noted-twice, room-left}
use Rattle.shm_attach.proofs.Protecting.{now-same, now-then, lives-now, protects-next, protects-done}
use Rattle.shm_attach.proofs.mapping.protect_range.Goals.{After-protect_piece, In_ok-passed, After-loop-at}
use Rattle.shm_attach.proofs.mapping.protect_range.Goals as goal

pub loop-at-init : goal.loop-at-init
loop-at-init c =
    record {
      left = (c.args.to - c.args.from) / 4096;
      enough = omega (arith, c.requires.range.from_page, c.requires.range.to_page, c.requires.range.order);
      page = c.requires.range.from_page;
      whole = ap (λ (ids : List ℕ). noted ids (protected_between c.args.processes.now.entries c.args.index c.args.writable c.args.from c.args.to)) c.requires.none;
      now = now-same c.args.processes.now.entries c.args.tables.now c.args.index c.requires.process.there c.requires.process.sound;
      few = omega (arith, ap length c.requires.none);
      room = omega (arith, ap length c.requires.none);
      most = refl;
    }

pub protect_piece-requires-clause-process : goal.protect_piece-requires-clause-process
protect_piece-requires-clause-process c =
    let now = c.loop-at.invariant.now in
    record {
      there = rw now.count c.requires.process.there;
      live = lives-now c.args.processes.now.entries c.loop-at.processes.entries c.args.tables.now c.loop-at.tables c.args.index _ c.requires.process.there now c.requires.process.live;
      most = rw (now.most c.args.index) c.requires.process.most;
      sound = now.sound;
    }

-- A PIECE

-- the final result, by that of this piece
whole : (c : After-protect_piece)
    → protected_between c.args.processes.now.entries c.args.index c.args.writable c.args.from c.args.to
    ≡ noted c.loop-at.lost.segments
    (continued c.protect_piece.result (protects_from (c.loop-at.invariant.left - 1) (most_at c.args.processes.now.entries c.args.index) c.args.writable c.args.to) (pieces_at (runners_view c.protect_piece.new.processes.entries) c.args.index))
whole c =
    let i = c.args.index in
    let kept = c.loop-at.invariant in
    let most = most_at c.args.processes.now.entries i in
    let ps = pieces_at (runners_view c.loop-at.processes.entries) i in
    sym kept.whole
    ∙ ap (noted c.loop-at.lost.segments)
    (protects-next kept.left most c.args.writable c.args.to c.loop-at.at ps c.loop-at-test.true kept.enough
    ∙ rw (kept.now.most i) at (c.protect_piece.ensures.protects (protects_from (kept.left - 1) most c.args.writable c.args.to)))

now : (c : After-protect_piece)
    → AreNow c.args.processes.now.entries c.protect_piece.new.processes.entries c.args.tables.now c.protect_piece.new.tables c.args.index (pieces_at (runners_view c.protect_piece.new.processes.entries) c.args.index)
now c =
    now-then c.args.processes.now.entries c.loop-at.processes.entries c.protect_piece.new.processes.entries c.args.tables.now c.loop-at.tables c.protect_piece.new.tables c.args.index _ _ c.requires.process.there
    c.loop-at.invariant.now c.protect_piece.ensures.now

fits : (c : In_ok-passed) → length c.loop-at.lost.segments + length (option_to_list c.in_ok-passed.passed.split) ≤ c.loop-at.lost.most
fits c =
    let kept = c.loop-at.invariant in
    room-left c.loop-at.lost.segments c.in_ok-passed.passed.split _ _ _ kept.room (omega (arith, kept.few, c.in_ok-passed.ensures.grows.more)) c.in_ok-passed.ensures.grows.room
    (kept.now.most c.args.index ∙ sym c.requires.reserved ∙ sym kept.most)

pub add-requires : goal.add-requires
add-requires c = fits (goal.at.add-requires c).In_ok-passed

pub loop-at-preserved : goal.loop-at-preserved
loop-at-preserved c =
    let kept = c.loop-at.invariant in
    let b = (goal.at.loop-at-preserved c).After-protect_piece in
    let split = c.in_ok-passed.passed.split in
    let more = length-append c.loop-at.lost.segments (option_to_list split) in
    let added = ap (λ (l : LostView). length l.segments) c.add.ensures in
    let behind = protects_from (kept.left - 1) (most_at c.args.processes.now.entries c.args.index) c.args.writable c.args.to c.in_ok-passed.passed.end (pieces_at (runners_view c.protect_piece.new.processes.entries) c.args.index) in
    record {
      left = kept.left - 1;
      enough = omega (arith, kept.enough, (c.in_ok-passed.ensures.further).0);
      page = (c.in_ok-passed.ensures.further).1;
      whole =
          ap (λ (l : LostView). noted l.segments behind) c.add.ensures
          ∙ sym (noted-twice c.loop-at.lost.segments (option_to_list split) behind)
          ∙ sym (rw c.in_ok-passed.was at (whole b));
      now = now b;
      few = omega (arith, added, more, kept.few, c.in_ok-passed.ensures.grows.more);
      room = omega (arith, added, more, ap (λ (l : LostView). l.most) c.add.ensures, fits (goal.at.loop-at-preserved c).In_ok-passed);
      most = ap (λ (l : LostView). l.most) c.add.ensures ∙ kept.most;
    }

-- A REFUSAL

pub returns-in_err-passed-clause-refusal : goal.returns-in_err-passed-clause-refusal
returns-in_err-passed-clause-refusal c =
    let stop = rw c.in_err-passed.was at (whole (goal.at.returns-in_err-passed-clause-refusal c).After-protect_piece) in
    let err = err_from_is_err_and c.from_residual.result c.from_residual.ensures.1 in
    ap (λ r. refusal_in r) err.1 ∙ ap (λ e. Some e) err.2 ∙ ap (λ (x : Protected). x.refusal) (sym stop)

pub returns-in_err-passed-clause-now : goal.returns-in_err-passed-clause-now
returns-in_err-passed-clause-now c =
    let b = (goal.at.returns-in_err-passed-clause-now c).After-protect_piece in
    let stop = rw c.in_err-passed.was at (whole b) in
    subst (λ (ps : List Piece). AreNow c.args.processes.now.entries c.protect_piece.new.processes.entries c.args.tables.now c.protect_piece.new.tables c.args.index ps)
    (ap (λ (x : Protected). x.pieces) (sym stop)) (now b)

pub returns-in_err-passed-clause-split : goal.returns-in_err-passed-clause-split
returns-in_err-passed-clause-split c =
    let stop = rw c.in_err-passed.was at (whole (goal.at.returns-in_err-passed-clause-split c).After-protect_piece) in
    sym (append-nil c.loop-at.lost.segments) ∙ ap (λ (x : Protected). x.split) (sym stop)

-- THE END

done : (c : After-loop-at) → noted c.loop-at.lost.segments (ended (pieces_at (runners_view c.loop-at.processes.entries) c.args.index))
    ≡ protected_between c.args.processes.now.entries c.args.index c.args.writable c.args.from c.args.to
done c =
    let i = c.args.index in
    let kept = c.loop-at.invariant in
    ap (noted c.loop-at.lost.segments)
    (sym (protects-done kept.left (most_at c.args.processes.now.entries i) c.args.writable c.args.to c.loop-at.at (pieces_at (runners_view c.loop-at.processes.entries) i) c.loop-at-test.false))
    ∙ kept.whole

pub returns-clause-refusal : goal.returns-clause-refusal
returns-clause-refusal c = ap (λ (x : Protected). x.refusal) (done (goal.at.returns-clause-refusal c).After-loop-at)

pub returns-clause-split : goal.returns-clause-split
returns-clause-split c =
    sym (append-nil c.loop-at.lost.segments) ∙ ap (λ (x : Protected). x.split) (done (goal.at.returns-clause-split c).After-loop-at)
