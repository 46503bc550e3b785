use Rattle.std.proofs.Common.{inl}
use Rattle.shm_machine.proofs.Readying.{made}
use Rattle.shm_machine.proofs.machine.Machine.access.Goals as goal

pub returns-in-Ok-clause-did : goal.returns-in-Ok-clause-did
returns-in-Ok-clause-did c =
    made _ _ _ _ _ c.args.pid c.args.addr _ _ (rw (c.size-len.ensures, c.writes.ensures) at c.in_default.ensures.ok) c.access.ensures.loans (rw c.in-Ok.is at c.access.ensures.replied)

pub returns-in-Err-access-clause-did : goal.returns-in-Err-access-clause-did
returns-in-Err-access-clause-did c =
    inl (made _ _ _ _ _ c.args.pid c.args.addr _ _ (rw (c.size-len.ensures, c.writes.ensures) at c.in_default.ensures.ok) c.access.ensures.loans (rw c.in-Err-access.is at c.access.ensures.replied))
