-- What the stops say of the input, and what they leave of the output.
use Rattle.std.proofs.Common.{◌≡◌, ◌⊎◌, refl, sym, subst, inl, inr, ℕ, List, Option, Ok}
use Rattle.std.specs.Prelude.{IfErr, Result, Err}
use Rattle.shm_life.specs.Start.{start_error}
use Rattle.shm_text.specs.Script.{ScriptView}
use Rattle.shm_program.specs.Runs.{IsReadAs, IsStop}
use Rattle.shm_program.specs.declared.fault.RunFault.{RunFault}
use Rattle.shm_program.specs.declared.fault.RunFault.TheVariants.{WriteFailed, HostMemory}
use Rattle.shm_program.proofs.Causes.{silent_as, stop_cause, stop_serial}
use Rattle.shmview.specs.Stop.{IsStopIn, IsStopOf, WritesNothing}
use Rattle.shmview.specs.declared.steps.Steps.{Steps}
use Rattle.shmview.specs.declared.stop.Stop.{Stop}
use Rattle.shmview.specs.declared.stop.Stop.TheVariants.{Usage, TooLong, Fault}

-- a text of one kind is of another
pub nothing_as : (IsText IsOther : List ℕ → Type 0) (result : Result (Unit {0}) Stop) (old new : Option (List ℕ)) → ((text : List ℕ) → IsText text → IsOther text) → IfErr result (λ s. WritesNothing IsText s old new) → IfErr result (λ s. WritesNothing IsOther s old new)
nothing_as IsText IsOther (Ok done) old new to silent = tt
nothing_as IsText IsOther (Err Usage) old new to silent = silent
nothing_as IsText IsOther (Err (TooLong n)) old new to silent = silent
nothing_as IsText IsOther (Err (Fault fault)) old new to silent = silent_as IsText IsOther fault old new to silent

-- what a stop says of the input, from what it says of the script that the input is
stop_of : (s : Stop) (asked : Option Steps) (areas : List ℕ) (script : ScriptView) (input : Option (List ℕ)) → IsReadAs input (Ok script) → IsStopIn s asked areas script → IsStopOf s asked areas input
stop_of Usage asked areas script input read stop = absurd stop
stop_of (TooLong n) asked areas script input read stop = (script, read, stop)
stop_of (Fault fault) asked areas script input read (cause, serial) = (cause input read, serial)

pub stops : (result : Result (Unit {0}) Stop) (input : Option (List ℕ)) (asked : Option Steps) (areas : List ℕ) (script : ScriptView) → IsReadAs input (Ok script) → IfErr result (λ s. IsStopIn s asked areas script) → IfErr result (λ s. IsStopOf s asked areas input)
stops (Ok done) input asked areas script read stop = tt
stops (Err s) input asked areas script read stop = stop_of s asked areas script input read stop

-- the world was not opened
pub open_stop : (fault : RunFault) (asked : Option Steps) (areas : List ℕ) (script : ScriptView) → IsStop fault (start_error script.limits areas script.processes) → IsStopIn (Fault fault) asked areas script
open_stop fault asked areas script stop = (stop_cause fault areas script stop, stop_serial fault _ stop)

-- the world was opened: out of memory and a writer that fails say nothing of the script
late_stop : (s : Stop) (asked : Option Steps) (areas : List ℕ) (script : ScriptView) → (s ≡ Fault HostMemory) ⊎ (s ≡ Fault WriteFailed) → IsStopIn s asked areas script
late_stop s asked areas script (inl e) = subst (λ s. IsStopIn s asked areas script) (sym e) ((λ input read. tt), refl)
late_stop s asked areas script (inr e) = subst (λ s. IsStopIn s asked areas script) (sym e) ((λ input read. tt), refl)

pub late_stops : (result : Result (Unit {0}) Stop) (asked : Option Steps) (areas : List ℕ) (script : ScriptView) → IfErr result (λ s. (s ≡ Fault HostMemory) ⊎ (s ≡ Fault WriteFailed)) → IfErr result (λ s. IsStopIn s asked areas script)
late_stops (Ok done) asked areas script e = tt
late_stops (Err s) asked areas script e = late_stop s asked areas script e

pub writer_stops : (result : Result (Unit {0}) Stop) → IfErr result (λ s. s ≡ Fault WriteFailed) → IfErr result (λ s. (s ≡ Fault HostMemory) ⊎ (s ≡ Fault WriteFailed))
writer_stops (Ok done) e = tt
writer_stops (Err s) e = inr e
