use Rattle.shm_store_tests.specs.Trial.{HasThree}
use Rattle.shm_store_tests.proofs.paging.ask_all.Given as goal

abbrev pub invariant-loop-number : goal.invariant-loop-number
invariant-loop-number g l = HasThree l.store
