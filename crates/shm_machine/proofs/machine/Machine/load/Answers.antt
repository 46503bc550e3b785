use Rattle.std.proofs.Common.{◌≡◌, ◌∙◌, length, refl, arith}
use Rattle.std.proofs.lemmas.Grind.{common_steps}
use Rattle.shm_base.proofs.Padded.{padded}
use Rattle.shm_machine.proofs.machine.Machine.load.Goals as goal

pub from_array-requires : goal.from_array-requires
from_array-requires c =
    let kept = c.load_into.auto.bytes in
    let read : c.args.len ≡ length c.load_into.new.bytes = grind (arith, common_steps) in
    let at : c.get.result ≡ length c.load_into.new.bytes = c.get.ensures.value ∙ read in
    record { zeros = rw at (padded c.load_into.new.bytes c.load_into.new.bytes c.args.len 64 read (rw c.get.ensures.value at c.get.ensures.range.1) refl).1 }
