use Rattle.shm_attach.proofs.Names.{refl, same_from_all_zip}
use Rattle.shm_attach.proofs.Copies.{same_slot}
use Rattle.shm_attach.proofs.tables.Tables.try_clone.Goals as goal

pub returns : goal.returns
returns c =
    record {
      keyed = λ id. rw c.in_ok-keys.ensures refl;
      slots = same_from_all_zip _ _ _ c.in_ok-slab.ensures.cases.slots same_slot;
    }
