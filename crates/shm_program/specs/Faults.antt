-- The messages of the faults, and the exit statuses.
use Rattle.std.specs.Prelude.{ℕ, List, ◌++◌, codes}
use Rattle.std.specs.Fmt.{decimal}
use Rattle.shm_text.specs.Fault.{kind_text}
use Rattle.shm_text.specs.declared.fault.ReadRefused.{ReadRefused}
use Rattle.shm_text.specs.declared.fault.ReadRefused.TheVariants as refused
use Rattle.shm_life.specs.declared.start.StartError.{StartError}
use Rattle.shm_life.specs.declared.start.StartError.TheVariants as starts
use Rattle.shm_program.specs.declared.fault.RunFault.{RunFault}
use Rattle.shm_program.specs.declared.fault.RunFault.TheVariants.{Script, StartRefused, ReadFailed, WriteFailed, Gate, Mismatch, ThreadRefused, HostMemory}

abbrev pub fault_text : RunFault → List ℕ
fault_text (Script f) = codes "line " ++ (decimal f.line ++ (codes ": " ++ kind_text f.kind))
fault_text (StartRefused n) = codes "start refused " ++ decimal n
fault_text ReadFailed = codes "read failed"
fault_text WriteFailed = codes "write failed"
fault_text (Gate pid) = codes "gate expired " ++ decimal pid
fault_text (Mismatch pid) = codes "history mismatch " ++ decimal pid
fault_text ThreadRefused = codes "thread refused"
fault_text HostMemory = codes "out of memory"

-- 1 for a script fault, 3 for a fault of the run, 4 for out of memory
abbrev pub exit_status : RunFault → ℕ
exit_status (Script f) = 1
exit_status (StartRefused n) = 3
exit_status ReadFailed = 3
exit_status WriteFailed = 3
exit_status (Gate pid) = 3
exit_status (Mismatch pid) = 3
exit_status ThreadRefused = 3
exit_status HostMemory = 4

-- the reader's refusal as a fault of the run
abbrev pub refused_as : ReadRefused → RunFault
refused_as refused.HostMemory = HostMemory
refused_as (refused.Fault fault) = Script fault

-- a start error as a fault of the run
abbrev pub stopped_as : StartError → RunFault
stopped_as starts.Areas = StartRefused 1
stopped_as starts.AreaSize = StartRefused 2
stopped_as starts.Processes = StartRefused 3
stopped_as starts.Pid = StartRefused 4
stopped_as starts.HostMemory = HostMemory
