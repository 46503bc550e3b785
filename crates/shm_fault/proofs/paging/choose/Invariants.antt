use Rattle.shm_fault.proofs.Names.{unlocked}
use Rattle.shm_fault.proofs.paging.choose.Given as goal

abbrev pub ghost-victim : goal.ghost-victim
ghost-victim a = unlocked a.eligible.now.0.now
