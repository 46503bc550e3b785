-- Why the program stops: its message, its exit status, and what it says about its input.
use Rattle.std.specs.Prelude.{ℕ, ◌≡◌, ◌<◌, true, List, ◌++◌, codes, length, Option, None, Ok}
use Rattle.std.specs.Fmt.{decimal}
use Rattle.std.specs.declared.io.ErrorKind.{ErrorKind}
use Rattle.std.specs.declared.io.ErrorKind.TheVariants.{OutOfMemory}
use Rattle.shm_text.specs.Script.{ScriptView}
use Rattle.shm_program.specs.Faults.{fault_text, exit_status}
use Rattle.shm_program.specs.Runs.{IsCause, IsCauseIn, IsReadAs, IsSilent, is_serial}
use Rattle.shm_program.specs.declared.fault.RunFault.TheVariants.{HostMemory}
use Rattle.std.specs.Io.KnownBytes.{Keeps}
use Rattle.shmview.specs.declared.steps.Steps.{Steps}
use Rattle.shmview.specs.declared.stop.Stop.{Stop}
use Rattle.shmview.specs.declared.stop.Stop.TheVariants.{Usage, TooLong, Fault}

abbrev pub stop_text : Stop → List ℕ
stop_text Usage = codes "usage: shmview [--text] [--steps FROM-TO] SWAP..."
stop_text (TooLong steps) = decimal steps ++ codes " steps are more than 2000: choose some by --steps FROM-TO"
stop_text (Fault fault) = fault_text fault

abbrev pub stop_status : Stop → ℕ
stop_status Usage = 2
stop_status (TooLong steps) = 2
stop_status (Fault fault) = exit_status fault

-- the words could not be read: the host refused memory, or a word is not valid UTF-8
abbrev pub io_stop : ErrorKind → Stop
io_stop OutOfMemory = Fault HostMemory
io_stop _ = Usage

-- the script has this many lines, more than 2,000, and no steps were chosen
pub record IsTooLong (asked : Option Steps) (script : ScriptView) (n : ℕ) : Type 0 where
  pub all : asked ≡ None
  pub lines : n ≡ length script.lines
  pub long : 2000 < n

-- what a stop says about an input that was read as this script
abbrev pub IsStopIn : Stop → Option Steps → List ℕ → ScriptView → Type 0
IsStopIn Usage asked areas script = ⊥
IsStopIn (TooLong n) asked areas script = IsTooLong asked script n
IsStopIn (Fault fault) asked areas script = IsCauseIn fault areas script × (is_serial fault ≡ true)

-- what a stop says about its input
abbrev pub IsStopOf : Stop → Option Steps → List ℕ → Option (List ℕ) → Type 0
IsStopOf Usage asked areas input = ⊥
IsStopOf (TooLong n) asked areas input = (script : ScriptView) × IsReadAs input (Ok script) × IsTooLong asked script n
IsStopOf (Fault fault) asked areas input = IsCause fault areas input × (is_serial fault ≡ true)

-- nothing is written; or if the writer failed, a beginning of a text with this property, and not all of it
abbrev pub WritesNothing : (List ℕ → Type 0) → Stop → Option (List ℕ) → Option (List ℕ) → Type 0
WritesNothing IsText (Fault fault) old new = IsSilent IsText fault old new
WritesNothing IsText _ old new = Keeps old new
