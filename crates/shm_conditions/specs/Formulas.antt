-- The condition that a tree in memory is.
use Rattle.shm_conditions.specs.Conditions.{Condition, Says, Not, Both, Either}
use Rattle.shm_conditions.specs.declared.formula.Formula.{Formula}
use Rattle.shm_conditions.specs.declared.formula.Formula.TheVariants as formulas

-- a box is its pointer and what is in it
abbrev pub bare : Formula → Condition
bare (formulas.Says l word) = Says l word.items
bare (formulas.Not' p c) = Not (bare c)
bare (formulas.Both' p a q b) = Both (bare a) (bare b)
bare (formulas.Either' p a q b) = Either (bare a) (bare b)
