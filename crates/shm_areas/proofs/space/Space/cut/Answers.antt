use Rattle.shm_areas.proofs.Names.{ap, ◌+◌, ◌≡◌, ◌≤◌, ◌∙◌, length, List, arith, common_steps, length-map, cut, Piece, bare, bare_all, stored_cut, left_by, SpaceView}
use Rattle.shm_base.specs.State as flat
use Rattle.shm_areas.proofs.Edits.{bare_cut, arranged_cut}
use Rattle.shm_areas.proofs.Filled.{filled-cut}
use Rattle.shm_areas.proofs.Passing.{all-cut, within-parts}
use Rattle.shm_areas.proofs.space.Space.cut.Goals.{After-cut_of-cut}
use Rattle.shm_areas.proofs.space.Space.cut.Goals as goal

few : (from to most : _) (ps : List Piece) → length (cut from to (bare_all ps)) ≤ most → length (stored_cut from to ps) ≤ most
few from to most ps h = rw (← length-map (stored_cut from to ps) bare, bare_cut from to ps) h

left : (c : After-cut_of-cut) → left_by c.self.inside.pieces.items c.cut_of-cut.result ≡ stored_cut c.args.from c.args.to c.args.self.now.pieces
left c = grind (arith, common_steps)

pub replace-requires-clause-room : goal.replace-requires-clause-room
replace-requires-clause-room c = grind (arith, common_steps, few, left)

pub returns-clause-kept : goal.returns-clause-kept
returns-clause-kept c =
    let rest = c.replace.ensures.items ∙ left (goal.at.returns-clause-kept c).After-cut_of-cut in
    grind (arith, common_steps, rest)

pub returns-clause-flat : goal.returns-clause-flat
returns-clause-flat c = ap (λ (s : SpaceView). bare_all s.pieces) (returns-clause-kept c) ∙ bare_cut c.args.from c.args.to c.args.self.now.pieces

pub invariant_of-self : goal.invariant_of-self
invariant_of-self c = (
  grind (arith, common_steps, arranged_cut, returns-clause-flat, returns-clause-kept, few),
  grind (arith, common_steps),
  rw (c.replace.ensures.items, left (goal.at.invariant_of-self c).After-cut_of-cut, ← c.self.view_is, bare_cut c.args.from c.args.to c.self.inside.pieces.items)
      (all-cut (λ (p : flat.Piece). p.first_page + p.pages ≤ c.self.inside.reach) c.args.from c.args.to (within-parts c.self.inside.reach c.args.from c.args.to) (bare_all c.self.inside.pieces.items) c.self.invariant.2),
  rw (c.replace.ensures.items, left (goal.at.invariant_of-self c).After-cut_of-cut, c.lowered-self-inside.ensures, ← c.self.view_is)
      (filled-cut c.self.inside.filled c.args.from c.args.to c.self.inside.pieces.items c.self.invariant.0.arranged c.requires.from c.self.invariant.3),
)
