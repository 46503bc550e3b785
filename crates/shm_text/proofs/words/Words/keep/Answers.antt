use Rattle.shm_text.proofs.Names.{common_steps, arith, length-map, length-take}
use Rattle.shm_text.proofs.Scanning.{kept_none}
use Rattle.shm_text.proofs.words.Words.keep.Goals as goal

pub returns-then-is_empty : goal.returns-then-is_empty
returns-then-is_empty c = grind (arith, common_steps, length-map, length-take, kept_none)
