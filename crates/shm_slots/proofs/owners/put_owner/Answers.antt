use Rattle.std.proofs.Common.{◌≡◌, Some, None, length, arith}
use Rattle.shm_base.proofs.Stored.{push-padded, set-padded}
use Rattle.shm_slots.proofs.owners.put_owner.Goals as goal

pub returns-then-slot-len-clause-items : goal.returns-then-slot-len-clause-items
returns-then-slot-len-clause-items c = λ count within few.
    let last : c.args.slot ≡ length c.args.slots.now.items = omega arith in
    rw (c.push_reserved.ensures.items, last) (push-padded c.args.slots.now.items count (Some c.args.owner) None (omega (arith, within, last)))

pub returns-else-slot-len-clause-items : goal.returns-else-slot-len-clause-items
returns-else-slot-len-clause-items c = λ count within few. set-padded c.args.slots.now.items count c.args.slot (Some c.args.owner) None (omega (arith, c.requires.within))
