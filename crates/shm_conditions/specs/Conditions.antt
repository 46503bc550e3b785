-- What a condition over the replies of an outcome means.
use Rattle.std.specs.Prelude.{ℕ, ◌==◌, ◌&&◌, ◌||◌, Bool, false, not, if◌then◌else◌, List, [], ◌∷◌, ◌++◌, Option, Some, None, slice_get, slice_index_or}
use Rattle.std.specs.Str.{bytes_eq}
use Rattle.shm_base.specs.History.{is_refusal}
use Rattle.shm_base.specs.declared.call.Reply.{Reply}
use Rattle.shm_schedules.specs.Cuts.{is_any}
use Rattle.shm_schedules.specs.Text.{reply_words}
use Rattle.shm_conditions.specs.declared.naming.ProcessLine.{ProcessLine}

-- the reply to a line of a process has this word; or conditions joined by `~`, `/\` and `\/`
pub data Condition : Type 0 where
  Says : ProcessLine → List ℕ → Condition
  Not : Condition → Condition
  Both : Condition → Condition → Condition
  Either : Condition → Condition → Condition

-- REPLIES

-- the word is one of a text's words, of which the first begins with these bytes
abbrev pub has_word_from : List ℕ → List ℕ → List ℕ → Bool
has_word_from word begun [] = bytes_eq begun word
has_word_from word begun (b ∷ bs) = if b == 32 then bytes_eq begun word || has_word_from word [] bs else has_word_from word (begun ++ b ∷ []) bs

-- a word of the printed reply, in which a time is 0 or `set`; a question mark stands for any reply that is not an error
abbrev pub fits : List ℕ → Reply → Bool
fits word reply = if is_any word then not (is_refusal reply) else has_word_from word [] (reply_words reply)

-- a call that was not made has no reply
abbrev pub fits_some : List ℕ → Option Reply → Bool
fits_some word None = false
fits_some word (Some reply) = fits word reply

-- CONDITIONS

abbrev pub says : List (List Reply) → ProcessLine → List ℕ → Bool
says outcome l word = fits_some word (slice_get (slice_index_or outcome l.process []) l.line)

-- the condition is true of an outcome, which has the replies to each process in order
abbrev pub holds : List (List Reply) → Condition → Bool
holds outcome (Says l word) = says outcome l word
holds outcome (Not c) = not (holds outcome c)
holds outcome (Both a b) = holds outcome a && holds outcome b
holds outcome (Either a b) = holds outcome a || holds outcome b
