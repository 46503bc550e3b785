use Rattle.shm_areas.proofs.Names.{ap, bare, ◌+◌, ◌≤◌, ◌∙◌, bare_all, arith, common_steps, SpaceView, All-weaker}
use Rattle.shm_areas.proofs.Edits.{bare_inserted, inserted_at, arranged_inserted, length_inserted}
use Rattle.shm_areas.proofs.Filled.{filled-inserted}
use Rattle.shm_areas.proofs.Passing.{all-inserted}
use Rattle.shm_base.specs.State as flat
use Rattle.shm_areas.proofs.space.Space.insert.Goals as goal

pub returns-clause-kept : goal.returns-clause-kept
returns-clause-kept c = grind (arith, common_steps, inserted_at)

pub returns-clause-flat : goal.returns-clause-flat
returns-clause-flat c = ap (λ (s : SpaceView). bare_all s.pieces) (returns-clause-kept c) ∙ bare_inserted c.args.piece c.args.self.now.pieces

pub invariant_of-self : goal.invariant_of-self
invariant_of-self c = (
  grind (arith, common_steps, arranged_inserted, returns-clause-kept, length_inserted, returns-clause-flat),
  grind (arith, common_steps),
  rw (ap (λ (s : SpaceView). s.pieces) (returns-clause-kept c), ← c.self.view_is, bare_inserted c.args.piece c.self.inside.pieces.items)
      (all-inserted (λ (p : flat.Piece). p.first_page + p.pages ≤ c.max-self-inside.result) (bare c.args.piece) (bare_all c.self.inside.pieces.items) (omega (arith, c.max-self-inside.ensures))
      (All-weaker (λ (p : flat.Piece). p.first_page + p.pages ≤ c.self.inside.reach) (λ (p : flat.Piece). p.first_page + p.pages ≤ c.max-self-inside.result)
      (λ p le. omega (arith, le, c.max-self-inside.ensures)) (bare_all c.self.inside.pieces.items) c.self.invariant.2)),
  rw (ap (λ (s : SpaceView). s.pieces) (returns-clause-kept c), ← c.self.view_is, c.raised-self-inside.ensures) (filled-inserted c.self.inside.filled c.args.piece c.self.inside.pieces.items c.requires.fit c.self.invariant.3),
)
