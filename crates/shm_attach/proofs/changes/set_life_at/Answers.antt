use Rattle.shm_attach.proofs.Names.{refl, sym, length-set_value_at, arith, common_steps}
use Rattle.shm_attach.proofs.Processes.{runners_live}
use Rattle.shm_attach.proofs.HavingTables.{most_at-set, stored_at-set, stored_at-value, stored_at-other}
use Rattle.shm_attach.proofs.changes.set_life_at.Goals as goal

pub returns-clause-runners : goal.returns-clause-runners
returns-clause-runners c = grind (arith, common_steps, runners_live)

pub returns-clause-count : goal.returns-clause-count
returns-clause-count c = length-set_value_at c.args.processes.now.entries c.args.index (record { life = c.args.life; space = c.index_mut.result.now.space })

pub returns-clause-stored : goal.returns-clause-stored
returns-clause-stored c = grind (arith, common_steps, stored_at-set, stored_at-value, stored_at-other)

pub returns-clause-most : goal.returns-clause-most
returns-clause-most c = most_at-set c.args.processes.now.entries c.args.index c.index_mut.result.now (record { life = c.args.life; space = c.index_mut.result.now.space }) (sym c.index_mut.ensures.value) refl
