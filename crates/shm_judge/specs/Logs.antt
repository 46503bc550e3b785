-- The replies of a system to each process, and whether a run has them.
use Rattle.std.specs.Prelude.{◌≡◌, ◌<◌, ℕ, Bool, true, false, List, [], ◌∷◌, length, slice_index_or}
use Rattle.shm_base.specs.History.{is_refusal}
use Rattle.shm_base.specs.declared.call.Event.{Event}
use Rattle.shm_base.specs.declared.call.Process.{Process}
use Rattle.shm_base.specs.declared.call.Reply.{Reply}
use Rattle.shm_text.specs.Script.{ScriptView}
use Rattle.shm_schedules.specs.Cuts.{is_any}
use Rattle.shm_schedules.specs.Schedules.{replies_to}
use Rattle.shm_schedules.specs.Text.{reply_words}

-- a line of a log, and the words of its reply
pub record Answer : Type 0 where
  pub line : List ℕ
  pub reply : List ℕ

-- a line of a log: its process and its answer
pub record Entry : Type 0 where
  pub pid : ℕ
  pub answer : Answer

abbrev pub FitsAs : Bool → List ℕ → Reply → Type 0
FitsAs true words reply = is_refusal reply ≡ false
FitsAs false words reply = words ≡ reply_words reply

-- these words print the reply, with its times as 0 or `set`; a question mark stands for any reply that is not a refusal
abbrev pub Fits : Answer → Reply → Type 0
Fits answer reply = FitsAs (is_any answer.reply) answer.reply reply

-- the replies begin the answers
abbrev pub Begins : List Answer → List Reply → Type 0
Begins answers [] = Unit {0}
Begins [] (r ∷ replies) = ⊥
Begins (a ∷ answers) (r ∷ replies) = Fits a r × Begins answers replies

-- the same for each process; a log has a list for each declared process, in the script's order
abbrev pub AllBegin : ScriptView → List (List Answer) → List Event → Type 0
AllBegin script log events =
    (i : ℕ) (p : Process) → i < length script.processes → p ≡ slice_index_or script.processes i p → Begins (slice_index_or log i []) (replies_to p.pid events)

-- the replies are exactly the answers
abbrev pub Fills : List Answer → List Reply → Type 0
Fills answers replies = Begins answers replies × (length replies ≡ length answers)

abbrev pub AllFill : ScriptView → List (List Answer) → List Event → Type 0
AllFill script log events =
    (i : ℕ) (p : Process) → i < length script.processes → p ≡ slice_index_or script.processes i p → Fills (slice_index_or log i []) (replies_to p.pid events)
