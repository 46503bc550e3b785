use Rattle.shm_fault.proofs.Names.{arith, common_steps, nat_tests}
use Rattle.shm_fault.proofs.Entries.{find-is}
use Rattle.shm_fault.proofs.page_tables.found.Goals as goal

pub returns-in-Some-Some-clause-some : goal.returns-in-Some-Some-clause-some
returns-in-Some-Some-clause-some c = rw (find-is c.args.tables.now.items c.requires c.args.id) (grind (arith, nat_tests, common_steps))

pub returns-in_default-clause-none : goal.returns-in_default-clause-none
returns-in_default-clause-none c = rw (find-is c.args.tables.now.items c.requires c.args.id) (grind (arith, nat_tests, common_steps))
