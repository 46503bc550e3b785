-- What the program reads and writes for its words.
use Rattle.std.specs.Prelude.{◌≡◌, ℕ, List, [], ◌∷◌, Option, Some, None, Result, Err, OnOk, IfOk, IfErr}
use Rattle.std.specs.Io.KnownBytes.{IsAtEnd, Keeps}
use Rattle.shm_program.specs.Runs.{IsTextFor}
use Rattle.shmcheck.specs.Answers.{IsAnswered, IsAnyAnswer, IsStopOf, WritesNothing}
use Rattle.shmcheck.specs.declared.command.Asked.{Asked}
use Rattle.shmcheck.specs.declared.command.Asked.TheVariants.{Outcomes, Question, Judge, Sample}
use Rattle.shmcheck.specs.declared.stop.Stop.{Stop}
use Rattle.shmcheck.specs.declared.stop.Stop.TheVariants.{Usage}

-- the sizes of the program's swap areas
abbrev pub one_area : List ℕ
one_area = 64 ∷ []

-- the answer to what was asked about a script over swap areas of these sizes: the input before it and the rest after it, and the
-- output
pub record IsAnswerOver (asked : Asked) (given : List ℕ) (result : Result ℕ Stop) (input rest old new : Option (List ℕ)) (areas : List ℕ) : Type 0 where
  pub ok : IfOk result (IsAnswered asked given areas input old new)
  pub whole : OnOk result (IsAtEnd rest)
  pub cause : IfErr result (λ s. IsStopOf s asked given areas input)
  pub silent : IfErr result (λ s. WritesNothing (IsTextFor (IsAnyAnswer asked given) areas input) s old new)

-- the fourth word
abbrev pub condition_in : List (List ℕ) → List ℕ
condition_in (name ∷ command ∷ wish ∷ condition ∷ ws) = condition
condition_in _ = []

-- a question is given its condition, the word after `--exists` or `--forbid`, and a judge the contents of its log
abbrev pub given_for : Asked → List (List ℕ) → List ℕ → List ℕ
given_for (Outcomes o) words log = []
given_for (Question wish o) words log = condition_in words
given_for (Judge o) words log = log
given_for (Sample d) words log = []

-- what the program does if its words ask for this; if they ask for nothing, it is a usage error, and nothing is written
abbrev pub IsAsked : Option Asked → List (List ℕ) → List ℕ → Result ℕ Stop → Option (List ℕ) → Option (List ℕ) → Option (List ℕ) → Option (List ℕ) → Type 0
IsAsked None words log result input rest old new = (result ≡ Err Usage) × Keeps old new
IsAsked (Some asked) words log result input rest old new = IsAnswerOver asked (given_for asked words log) result input rest old new one_area
