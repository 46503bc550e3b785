use Rattle.std.proofs.Common.{length, ◌-◌}
use Rattle.shm_machine.proofs.Stretching.{WrittenSo}
use Rattle.shm_machine.proofs.machine.Machine.write.Given as goal

abbrev pub invariant-loop-done : goal.invariant-loop-done
invariant-loop-done l = WrittenSo l.fn.self.system l.pid l.addr l.bytes l.done l.self.system

abbrev pub decreases-loop-done : goal.decreases-loop-done
decreases-loop-done l = length l.bytes - l.done
