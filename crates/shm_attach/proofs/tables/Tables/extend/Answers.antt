use Rattle.shm_attach.proofs.Names.{sym}
use Rattle.shm_attach.proofs.Tied.{tied-table}
use Rattle.shm_attach.proofs.tables.Tables.extend.Goals as goal

pub returns-in-Some-clause-tied : goal.returns-in-Some-clause-tied
returns-in-Some-clause-tied g c = tied-table c.args.self.now c.args.key c.in-Some.table.now c.extend.new.self c.requires.tied (sym c.in-Some.ensures.value) c.extend.ensures.rest
