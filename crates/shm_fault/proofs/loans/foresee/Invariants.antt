use Rattle.shm_fault.proofs.Names.{unlocked}
use Rattle.shm_fault.proofs.loans.foresee.Given as goal

abbrev pub ghost-next_victim : goal.ghost-next_victim
ghost-next_victim a = unlocked a.eligible.now.0.now
