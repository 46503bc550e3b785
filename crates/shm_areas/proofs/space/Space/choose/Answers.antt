use Rattle.shm_areas.proofs.Names.{◌∙◌, bare_all}
use Rattle.shm_areas.proofs.FreeGaps.{chosen_alone}
use Rattle.shm_areas.proofs.Gaps.{chosen_gap}
use Rattle.shm_areas.proofs.space.Space.choose.Goals as goal

pub returns-clause-value : goal.returns-clause-value
returns-clause-value c = c.gap_from.ensures.value ∙ (chosen_gap (bare_all c.args.self.now.pieces) c.args.pages c.gap_from.ensures.arranged).same

pub returns-clause-least : goal.returns-clause-least
returns-clause-least c = rw c.gap_from.ensures.value (chosen_gap (bare_all c.args.self.now.pieces) c.args.pages c.gap_from.ensures.arranged).law

pub returns-clause-beside : goal.returns-clause-beside
returns-clause-beside c = c.gap_from.ensures.value ∙ chosen_alone (bare_all c.args.self.now.pieces) c.args.pages c.gap_from.ensures.arranged
