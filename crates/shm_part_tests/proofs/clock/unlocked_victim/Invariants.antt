use Rattle.shm_part_tests.specs.Unlocked.{is_unlocked}
use Rattle.shm_part_tests.proofs.clock.unlocked_victim.Given as goal

abbrev pub ghost-victim : goal.ghost-victim
ghost-victim a = is_unlocked a.eligible.now.1
