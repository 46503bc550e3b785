use Rattle.shm_areas.proofs.Names.{ap, ◌+◌, ◌≡◌, ◌≤◌, ◌∙◌, find, has_origin, length, List, arith, not, option_map, origin_of, sym, lowest_address, Piece, bare, bare_all, stored_named, stored_without, slice_range, All-filter, is_named, SpaceView}
use Rattle.std.proofs.lemmas.List.Sums.{length-filter, count_by-le-length}
use Rattle.shm_base.specs.State as flat
use Rattle.shm_areas.proofs.Edits.{arranged_filter, bare_filter}
use Rattle.shm_areas.proofs.Filled.{filled-without}
use Rattle.shm_areas.proofs.Origins.{find-run, seg_of_origin, taken-run}
use Rattle.shm_areas.proofs.space.Space.take_at.Goals.{After-first_with_origin, After-take_named}
use Rattle.shm_areas.proofs.space.Space.take_at.Goals as goal

-- the segment
named : (c : After-first_with_origin) → option_map (λ (p : Piece). p.seg) c.first_with_origin.result ≡ option_map (λ (p : flat.Piece). p.seg) (origin_of c.args.addr (bare_all c.args.self.now.pieces))
named c =
    let all = c.self.inside.pieces.items in
    let run = c.run_of_origin-run.result in
    let here = λ (p : Piece). has_origin c.args.addr (bare p) in
    let own : c.deref.result.now ≡ all = c.deref.ensures.value in
    let found : find here (slice_range c.deref-2.result.now run.first run.last) ≡ find here all =
    rw c.deref-2.ensures.value (find-run c.args.addr c.self.inside.reach run.first run.last all c.self.invariant.2 (rw own at c.run_of_origin-run.ensures)) in
    ap (option_map (λ (p : Piece). p.seg)) (c.first_with_origin.ensures ∙ found ∙ ap (λ (s : SpaceView). find here s.pieces) c.self.view_is)
    ∙ seg_of_origin c.args.addr c.args.self.now.pieces

pub returns-in_err-seg-clause-segment : goal.returns-in_err-seg-clause-segment
returns-in_err-seg-clause-segment c =
    c.from_residual.ensures ∙ ap (option_map (λ (p : Piece). p.seg)) (sym c.in_err-seg.was) ∙ named (goal.at.returns-in_err-seg-clause-segment c).After-first_with_origin

pub returns-clause-segment : goal.returns-clause-segment
returns-clause-segment c =
    ap (option_map (λ (p : Piece). p.seg)) (sym c.in_ok-seg.was) ∙ named (goal.at.returns-clause-segment c).After-first_with_origin

-- what is left
left : (c : After-take_named) → c.take_named.new.pieces.items ≡ stored_without c.args.addr c.in_ok-seg.field-0.seg c.self.inside.pieces.items
left c =
    let run = c.run_of_origin-run.result in
    let own : c.deref.result.now ≡ c.self.inside.pieces.items = c.deref.ensures.value in
    c.take_named.ensures.items
    ∙ taken-run c.args.addr c.in_ok-seg.field-0.seg c.self.inside.reach run.first run.last c.self.inside.pieces.items c.self.invariant.2 (rw own at c.run_of_origin-run.ensures)

pub returns-clause-kept : goal.returns-clause-kept
returns-clause-kept c =
    rw (← c.self.view_is) (ap (λ (ps : List Piece). record { pieces = ps; most = c.self.inside.most }) (left (goal.at.returns-clause-kept c).After-take_named))

pub returns-clause-flat : goal.returns-clause-flat
returns-clause-flat c = ap (λ (s : SpaceView). bare_all s.pieces) (returns-clause-kept c) ∙ bare_filter c.args.addr c.in_ok-seg.field-0.seg c.args.self.now.pieces

pub invariant_of-self : goal.invariant_of-self
invariant_of-self c =
    let ps = c.self.inside.pieces.items in
    let seg = c.in_ok-seg.field-0.seg in
    let stays = λ (p : Piece). not (stored_named c.args.addr seg p) in
    let fewer : length (stored_without c.args.addr seg ps) ≤ length ps = rw (length-filter stays ps) (count_by-le-length stays ps) in
    rw (left c) (
      record {
        arranged = arranged_filter stays lowest_address ps c.self.invariant.0.arranged;
        few = omega (arith, fewer, c.self.invariant.0.few);
        bound = c.self.invariant.0.bound;
      },
      omega (arith, c.take_named.ensures.capacity, c.self.invariant.1),
      rw (bare_filter c.args.addr seg ps) (All-filter (λ (p : flat.Piece). not (is_named c.args.addr seg p)) (λ (p : flat.Piece). p.first_page + p.pages ≤ c.self.inside.reach) (bare_all ps) c.self.invariant.2),
      rw c.lowered-self-inside.ensures (filled-without c.self.inside.filled c.args.addr seg ps c.self.invariant.3),
    )
