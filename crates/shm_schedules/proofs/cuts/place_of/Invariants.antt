use Rattle.std.proofs.Common.{◌≡◌, ◌≤◌, ◌-◌, ◌++◌, length, drop, take}
use Rattle.shm_schedules.specs.Cuts.{past, until}
use Rattle.shm_schedules.proofs.cuts.place_of.Given as goal

abbrev pub invariant-loop-place : goal.invariant-loop-place
invariant-loop-place l = record {
  within : l.place ≤ length l.bytes;
  until : until l.byte l.bytes ≡ take l.place l.bytes ++ until l.byte (drop l.place l.bytes);
  past : past l.byte l.bytes ≡ past l.byte (drop l.place l.bytes);
}

abbrev pub decreases-loop-place : goal.decreases-loop-place
decreases-loop-place l = length l.bytes - l.place
