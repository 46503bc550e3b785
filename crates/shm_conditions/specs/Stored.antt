-- Codes of what a reader keeps.
use Rattle.std.specs.Prelude.{Bool, List, Option, refl}
use Rattle.std.specs.Coded.{Coded, code_by, coded×, coded_bool, coded_list, coded_option}
use Rattle.shm_conditions.specs.Codes.{condition_code}
use Rattle.shm_conditions.specs.Conditions.{Condition}
use Rattle.shm_conditions.specs.Levels.{Level}
use Rattle.shm_conditions.specs.Reading.{Tree}

abbrev pub level_code : Coded Level
level_code =
    code_by (Option Condition × (Option Condition × Bool)) (coded× (coded_option condition_code) (coded× (coded_option condition_code) coded_bool))
    (λ l. (l.any, (l.all, l.negated))) (λ p. record { any = p.0; all = p.1.0; negated = p.1.1 }) (λ _. refl)

abbrev pub tree_code : Coded Tree
tree_code =
    code_by (List Level × (Level × Option Condition)) (coded× (coded_list level_code) (coded× level_code (coded_option condition_code)))
    (λ t. (t.outer, (t.level, t.operand))) (λ p. record { outer = p.0; level = p.1.0; operand = p.1.1 }) (λ _. refl)
