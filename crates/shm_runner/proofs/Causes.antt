-- What the errors of a run with threads say of the input.
use Rattle.shm_runner.proofs.Names.{◌≡◌, ℕ, true, List, Ok, Option, Keeps-refl, false≢true, Err, IfErr, Result, WorldState, ScriptView, RunError, CanEnd, IsCauseIn, IsSilent, is_serial, RunFault, Gate, Mismatch, CanFail, IsUngated, ended_as}
use Rattle.shm_threads.specs.declared.outcome.RunError.TheVariants as errors

-- why a run with threads ended
pub ended_cause : (error : RunError) (areas : List ℕ) (script : ScriptView) → IsCauseIn (ended_as error) areas script
ended_cause errors.HostMemory areas script = λ input read. tt
ended_cause (errors.GateExpired pid) areas script = λ input read. tt
ended_cause (errors.HistoryMismatch pid) areas script = λ input read. tt
ended_cause errors.ThreadRefused areas script = λ input read. tt

-- it ended before anything was written
pub ended_silent : (IsText : List ℕ → Type 0) (error : RunError) (kept : Option (List ℕ)) → IsSilent IsText (ended_as error) kept kept
ended_silent IsText errors.HostMemory kept = Keeps-refl kept
ended_silent IsText (errors.GateExpired pid) kept = Keeps-refl kept
ended_silent IsText (errors.HistoryMismatch pid) kept = Keeps-refl kept
ended_silent IsText errors.ThreadRefused kept = Keeps-refl kept

-- an open gate ends no thread
pub ungated : (script : ScriptView) (passed : WorldState) (error : RunError) → CanEnd (λ pid n may. may) script passed error → IsUngated error
ungated script passed errors.HostMemory can = tt
ungated script passed (errors.GateExpired pid) can = absurd (false≢true can.here.ended)
ungated script passed (errors.HistoryMismatch pid) can = can
ungated script passed errors.ThreadRefused can = tt

pub ended_fails : (error : RunError) → IsUngated error → CanFail (ended_as error)
ended_fails errors.HostMemory can = tt
ended_fails (errors.GateExpired pid) can = can
ended_fails (errors.HistoryMismatch pid) can = can
ended_fails errors.ThreadRefused can = tt

-- no fault of a run without threads is a mismatch, or a gate's
pub serial_fails : (fault : RunFault) → is_serial fault ≡ true → CanFail fault
serial_fails (Mismatch pid) serial = absurd (cc serial)
serial_fails (Gate pid) serial = absurd (cc serial)
serial_fails fault serial = tt

pub serials_fail : (result : Result (Unit {0}) RunFault) → IfErr result (λ f. is_serial f ≡ true) → IfErr result CanFail
serials_fail (Ok done) serial = tt
serials_fail (Err fault) serial = serial_fails fault serial
