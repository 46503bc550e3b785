use Rattle.std.proofs.Common.{◌≡◌, drop}
use Rattle.shm_schedules.specs.Digests.{with_bytes}
use Rattle.shm_schedules.proofs.digests.with_bytes.Given as goal

abbrev pub invariant-loop-byte : goal.invariant-loop-byte
invariant-loop-byte l = with_bytes l.digest l.bytes ≡ with_bytes l.all (drop l.byte-index l.bytes)
