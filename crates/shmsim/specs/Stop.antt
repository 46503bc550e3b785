-- Why the program stops: its message and its exit status.
use Rattle.std.specs.Prelude.{ℕ, List, codes}
use Rattle.std.specs.declared.io.ErrorKind.{ErrorKind}
use Rattle.std.specs.declared.io.ErrorKind.TheVariants.{OutOfMemory}
use Rattle.clap.specs.declared.error.kind.ErrorKind.{ErrorKind as Refusal}
use Rattle.clap.specs.declared.error.kind.ErrorKind.TheVariants as refusals
use Rattle.shm_program.specs.Faults.{fault_text, exit_status}
use Rattle.shm_program.specs.declared.fault.RunFault.TheVariants.{HostMemory}
use Rattle.shmsim.specs.declared.command.Stop.{Stop}
use Rattle.shmsim.specs.declared.command.Stop.TheVariants.{Usage, Fault}

abbrev pub stop_text : Stop → List ℕ
stop_text Usage = codes "usage: shmsim serial|threads SWAP..."
stop_text (Fault fault) = fault_text fault

abbrev pub stop_status : Stop → ℕ
stop_status Usage = 2
stop_status (Fault fault) = exit_status fault

-- the words could not be read: the host refused memory, or a word is not valid UTF-8
abbrev pub io_stop : ErrorKind → Stop
io_stop OutOfMemory = Fault HostMemory
io_stop _ = Usage

-- the words were refused: the host refused memory, or they are not those of the program
abbrev pub clap_stop : Refusal → Stop
clap_stop refusals.OutOfMemory = Fault HostMemory
clap_stop _ = Usage
