-- Reading a condition.
use Rattle.std.specs.Prelude.{ℕ, ◌+◌, List, [], ◌∷◌, length, Option, Some, None, Result, Ok, Err}
use Rattle.shm_text.specs.Script.{ScriptView}
use Rattle.shm_conditions.specs.Conditions.{Condition, Says}
use Rattle.shm_conditions.specs.Levels.{Level, and_after, any_with, negate, no_level, or_after}
use Rattle.shm_conditions.specs.Naming.{line_in, reply_in}
use Rattle.shm_conditions.specs.Tokens.{Token, tokens_of}
use Rattle.shm_conditions.specs.declared.fault.ConditionFault.{ConditionFault}
use Rattle.shm_conditions.specs.declared.fault.ConditionFaultKind.{ConditionFaultKind}
use Rattle.shm_conditions.specs.declared.fault.ConditionFaultKind.TheVariants.{NoOperand, NoOperator, Unopened, Unclosed}
use Rattle.shm_conditions.specs.declared.naming.ProcessLine.{ProcessLine}
use Rattle.shm_conditions.specs.declared.tokens.Mark.{Mark}
use Rattle.shm_conditions.specs.declared.tokens.Mark.TheVariants as marks

-- the open parentheses, innermost first, and the operand that was read last, unless one has to follow
pub record Tree : Type 0 where
  pub outer : List Level
  pub level : Level
  pub operand : Option Condition

abbrev pub tree : List Level → Level → Option Condition → Tree
tree outer level operand = record { outer = outer; level = level; operand = operand }

abbrev pub no_tree : Tree
no_tree = tree [] no_level None

-- BEFORE AN OPERAND

abbrev pub word_read : Tree → List ℕ → Result ProcessLine ConditionFaultKind → Result Tree ConditionFaultKind
word_read t word (Ok line) = Ok (record t { operand = Some (Says line (reply_in word)) })
word_read t word (Err kind) = Err kind

abbrev pub before_operand : ScriptView → Tree → Mark → List ℕ → Result Tree ConditionFaultKind
before_operand script t marks.Word word = word_read t word (line_in script word)
before_operand script t marks.Not word = Ok (record t { level = negate t.level })
before_operand script t marks.Open word = Ok (tree (t.level ∷ t.outer) no_level None)
before_operand script t _ word = Err NoOperand

-- AFTER ONE

-- a parenthesis is closed, and what is in it is the operand
abbrev pub closed : List Level → Condition → Result Tree ConditionFaultKind
closed [] c = Err Unopened
closed (level ∷ outer) c = Ok (tree outer level (Some c))

abbrev pub after_operand : Tree → Condition → Mark → Result Tree ConditionFaultKind
after_operand t c marks.And = Ok (tree t.outer (and_after t.level c) None)
after_operand t c marks.Or = Ok (tree t.outer (or_after t.level c) None)
after_operand t c marks.Close = closed t.outer (any_with t.level c)
after_operand t c _ = Err NoOperator

-- THE WHOLE

abbrev pub read_by : ScriptView → Option Condition → Tree → Token → Result Tree ConditionFaultKind
read_by script None t token = before_operand script t token.mark token.word
read_by script (Some c) t token = after_operand t c token.mark

abbrev pub faulty : {X : Type 0} → ℕ → Result X ConditionFaultKind → Result X ConditionFault
faulty at (Ok x) = Ok x
faulty at (Err kind) = Err (record { at = at; kind = kind })

abbrev pub tree_after : ScriptView → Result Tree ConditionFault → Token → Result Tree ConditionFault
tree_after script (Err fault) token = Err fault
tree_after script (Ok t) token = faulty token.at (read_by script t.operand t token)

abbrev pub tree_from : ScriptView → Result Tree ConditionFault → List Token → Result Tree ConditionFault
tree_from script t [] = t
tree_from script t (token ∷ tokens) = tree_from script (tree_after script t token) tokens

abbrev pub finished_with : Option Condition → Tree → Result Condition ConditionFaultKind
finished_with None t = Err NoOperand
finished_with (Some c) t = ended_in t.outer (any_with t.level c)
  where
    ended_in : List Level → Condition → Result Condition ConditionFaultKind
    ended_in [] whole = Ok whole
    ended_in (level ∷ outer) whole = Err Unclosed

abbrev pub finished : ℕ → Result Tree ConditionFault → Result Condition ConditionFault
finished at (Err fault) = Err fault
finished at (Ok t) = faulty at (finished_with t.operand t)

-- the condition that a text is, or its first fault; what is missing at its end has the number of the byte after it
abbrev pub condition_of : ScriptView → List ℕ → Result Condition ConditionFault
condition_of script text = finished (length text + 1) (tree_from script (Ok no_tree) (tokens_of text))
