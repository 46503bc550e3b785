use Rattle.shm_attach.proofs.Names.{sym}
use Rattle.shm_attach.proofs.HavingTables.{pieces_at-stored, stored_at-value}
use Rattle.shm_attach.proofs.changes.space_at.Goals as goal

pub returns-clause-flat : goal.returns-clause-flat
returns-clause-flat c = sym (pieces_at-stored c.args.processes.now.entries c.args.index _ (sym c.index.ensures))

pub returns-clause-stored : goal.returns-clause-stored
returns-clause-stored c = sym (stored_at-value c.args.processes.now.entries c.args.index _ (sym c.index.ensures))
