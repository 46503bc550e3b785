use Rattle.std.proofs.Common.{◌≡◌}
use Rattle.shm_process_tests.proofs.monitor.watch.Given as goal

abbrev pub invariant-loop : goal.invariant-loop
invariant-loop g l = l.seat.cell ≡ l.gauge
