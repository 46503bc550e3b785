use Rattle.shm_program.proofs.Names.{◌≡◌, length, area_at, numbered, slot_line}
use Rattle.shm_program.proofs.Numbered.{numbered_padded}
use Rattle.shm_program.proofs.memory.push_owners.Goals as goal

pub returns : goal.returns
returns g c =
    let owners = (area_at c.args.swap.now c.args.area).owners in
    let lines : numbered (slot_line c.args.area) 0 owners ≡ numbered (slot_line c.args.area) 0 c.owners.result.now = numbered_padded c.args.area (length owners) c.owners.result.now owners c.owners.ensures.owners in
    rw lines c.push_slots.ensures
