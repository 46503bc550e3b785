-- Where the processes of a run are in their lines.
use Rattle.std.specs.Prelude.{◌≡◌, ◌≤◌, ◌+◌, ◌-◌, ◌++◌, ◌==◌, ◌&&◌, ℕ, Bool, true, false, List, [], ◌∷◌, length, drop, filter, nat_lt, is_some, if◌then◌else◌, Option, Some, None, All}
use Rattle.shm_base.specs.Calls.{ProcessCall}
use Rattle.shm_base.specs.History.{own_part}
use Rattle.shm_base.specs.Memory.{takes_memory}
use Rattle.shm_base.specs.State.{Life, Unborn, Live, Ended, Runner, Machine}
use Rattle.shm_base.specs.Callers.{caller_of}
use Rattle.shm_base.specs.declared.call.Call.TheVariants.{Fork, Exit}
use Rattle.shm_base.specs.declared.call.Event.{Event}
use Rattle.shm_base.specs.declared.call.Reply.TheVariants.{Done}
use Rattle.shm_history.specs.WorldState.{WorldState, IsCalled}
use Rattle.shm_text.specs.Form.{CommandView}
use Rattle.shm_text.specs.Script.{ScriptView}
use Rattle.shm_text.specs.Variables.{no_values, call_of, values_after}
use Rattle.shm_threads.specs.Transcripts.{Follows, IsMarkAllowed, commands_of, is_child, is_forked, reply_in, transcript_events}
use Rattle.shm_threads.specs.declared.strand.Made.{Made}
use Rattle.shm_threads.specs.declared.strand.Made.TheVariants.{Birth, End, Nothing}
use Rattle.shm_threads.specs.declared.strand.Strand.{Strand}
use Rattle.shm_threads.specs.declared.transcript.Answer.{Answer}
use Rattle.shm_threads.specs.declared.transcript.Answer.TheVariants.{Reply as Replied, HostMemory}
use Rattle.shm_threads.specs.declared.transcript.Entry.{Entry}
use Rattle.shm_threads.specs.declared.transcript.Transcript.{Transcript}

abbrev pub pid_of_strand : Strand → ℕ
pid_of_strand s = s.pid

-- how many lines a strand has left
abbrev pub left_of : Strand → ℕ
left_of s = s.lines - length s.entries.items

abbrev pub left_in : List Strand → ℕ
left_in [] = 0
left_in (s ∷ ss) = left_of s + left_in ss

-- a strand before its first line, where these are the pids of all command lines
pub record IsFresh (callers : List ℕ) (s : Strand) : Type 0 where
  pub lines : s.lines ≡ length (filter (λ p. p == s.pid) callers)
  pub values : s.vars ≡ no_values
  pub entries : s.entries.items ≡ []
  pub room : s.lines ≤ s.entries.room

-- the strand keeps its entries, or does not
abbrev pub IsKeptAs : Bool → Strand → Type 0
IsKeptAs is_kept s = s.entries.is_kept ≡ is_kept

-- what a call did to the lives of processes
abbrev pub made_by : ProcessCall → Answer → Made
made_by (Fork child) (Replied Done) = Birth child
made_by Exit (Replied Done) = End
made_by _ _ = Nothing

-- A call of a strand is made: it is recorded with its reply; or the host refused memory for it, and only the room changed
abbrev pub IsAnswered : WorldState → ℕ → ProcessCall → Answer → WorldState → Type 0
IsAnswered before pid call (Replied r) after = IsCalled before pid call r after
IsAnswered before pid call HostMemory after = (after ≡ record before { room = after.room }) × (before.room ≤ after.room) × (takes_memory call ≡ true)

-- the call of a strand's next line, with its answer
pub record IsMade (before : WorldState) (s : Strand) (command : CommandView) (made : Made) (after : WorldState) (t : Strand) : Type 0 where
  pub entry : Entry
  pub call : entry.call ≡ call_of s.vars command.call
  pub answered : IsAnswered before s.pid entry.call entry.answer after
  pub effect : made ≡ made_by entry.call entry.answer
  pub pid : t.pid ≡ s.pid
  pub lines : t.lines ≡ s.lines
  pub values : t.vars ≡ values_after s.vars command.var (reply_in entry.answer)
  pub entries : t.entries.items ≡ s.entries.items ++ entry ∷ []
  pub room : t.entries.room ≡ s.entries.room
  pub kept : t.entries.is_kept ≡ s.entries.is_kept

-- More entries that follow the lines that are left make, after those so far, entries that follow all lines
abbrev pub IsUnderway : List CommandView → List (Option ℕ) → List Entry → Type 0
IsUnderway cs values es = (more : List Entry) → Follows values (drop (length es) cs) more → Follows no_values cs (es ++ more)

-- the life of the first process with a pid
abbrev pub life_from : ℕ → List Runner → Option Life
life_from pid [] = None
life_from pid (r ∷ rs) = if r.pid == pid then Some r.life else life_from pid rs

-- How far a strand is: a child that is not born has no entry, a live process follows its lines so far, and one that ended has
-- followed them
abbrev pub StandsAt : ScriptView → List Event → Strand → Option Life → Type 0
StandsAt script history s None = ⊥
StandsAt script history s (Some Unborn) = (is_child s.pid script.processes ≡ true) × (s.entries.items ≡ []) × (s.vars ≡ no_values) × (is_forked s.pid history ≡ false)
StandsAt script history s (Some (Live cred)) = IsUnderway (commands_of s.pid script.lines) s.vars s.entries.items
StandsAt script history s (Some Ended) = Follows no_values (commands_of s.pid script.lines) s.entries.items

-- A strand of a script, its place in its lines, and its own part of the history
pub record IsStrand (script : ScriptView) (machine : Machine) (history : List Event) (s : Strand) : Type 0 where
  pub lines : s.lines ≡ length (commands_of s.pid script.lines)
  pub room : s.lines ≤ s.entries.room
  pub place : StandsAt script history s (life_from s.pid machine.runners)
  pub own : transcript_events s.pid s.entries.items ≡ own_part s.pid history
  pub marks : All IsMarkAllowed s.entries.items

-- the process is live and has a line left
abbrev pub can_go : Machine → Strand → Bool
can_go machine s = nat_lt (length s.entries.items) s.lines && is_some (caller_of machine s.pid)

-- the transcript of a strand
abbrev pub transcript_of : Strand → Transcript
transcript_of s = record { pid = s.pid; entries = s.entries }
