-- A script with its lines in the order of a schedule.
use Rattle.std.specs.Prelude.{◌≡◌, ℕ, ◌==◌, if◌then◌else◌, List, [], ◌∷◌, ◌++◌, length, map, take}
use Rattle.shm_base.specs.declared.call.Event.{Event}
use Rattle.shm_base.specs.State.{start_of}
use Rattle.shm_text.specs.Script.{ScriptView}
use Rattle.shm_text.specs.declared.script.Line.{Line}
use Rattle.shm_text.specs.declared.script.Line.TheVariants.{Command, Flush}
use Rattle.shm_threads.specs.Transcripts.{commands_of}
use Rattle.shm_program.specs.Values.{fresh_holder}
use Rattle.shm_program.specs.Runs.{opening_of}
use Rattle.shm_runner.specs.Flat.{flat_events}

-- the first command line of a process
abbrev pub first_line : ℕ → List Line → List Line
first_line pid [] = []
first_line pid (Flush pages ∷ ls) = first_line pid ls
first_line pid (Command c ∷ ls) = if c.pid == pid then Command c ∷ [] else first_line pid ls

-- the lines without it
abbrev pub without_first : ℕ → List Line → List Line
without_first pid [] = []
without_first pid (Flush pages ∷ ls) = Flush pages ∷ without_first pid ls
without_first pid (Command c ∷ ls) = if c.pid == pid then ls else Command c ∷ without_first pid ls

-- for each pid of a schedule the next command line of its process, without flush lines
abbrev pub in_order : List ℕ → List Line → List Line
in_order [] ls = []
in_order (pid ∷ schedule) ls = first_line pid ls ++ in_order schedule (without_first pid ls)

-- the pids of the command lines
abbrev pub pids_of : List Line → List ℕ
pids_of [] = []
pids_of (Flush pages ∷ ls) = pids_of ls
pids_of (Command c ∷ ls) = c.pid ∷ pids_of ls

-- lines of a script in the order of a schedule: one for each of its pids; those of a process are its first ones, in its order
pub record AreOrdered (schedule : List ℕ) (lines news : List Line) : Type 0 where
  pub pids : pids_of news ≡ schedule
  pub own : (pid : ℕ) → commands_of pid news ≡ take (length (commands_of pid news)) (commands_of pid lines)

-- the script with these lines
abbrev pub ordered : List ℕ → ScriptView → ScriptView
ordered schedule script = record script { lines = in_order schedule script.lines }

-- the calls and replies that a script makes of the flat machine in file order, over areas of these sizes
abbrev pub serial_events : ScriptView → List ℕ → List Event
serial_events script areas = flat_events 1 (start_of (opening_of script areas)) (map fresh_holder script.processes) script.lines
