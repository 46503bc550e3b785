use Rattle.std.proofs.Common.{length, ◌-◌}
use Rattle.shm_machine.proofs.Stretching.{ReadSo}
use Rattle.shm_machine.proofs.machine.Machine.read.Given as goal

abbrev pub invariant-loop-done : goal.invariant-loop-done
invariant-loop-done l = ReadSo l.fn.self.system l.pid l.addr l.fn.bytes l.done l.bytes l.self.system

abbrev pub decreases-loop-done : goal.decreases-loop-done
decreases-loop-done l = length l.initial.bytes - l.done
