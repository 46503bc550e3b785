use Rattle.std.proofs.Common.{arith}
use Rattle.std.proofs.lemmas.Grind.{common_steps}
use Rattle.std.proofs.lemmas.Result.{err_from_is_err_and}
use Rattle.shm_slots.proofs.Relocating.{has-same, relocates-read, used-read}
use Rattle.shm_slots.proofs.Rows.{owners-kept}
use Rattle.shm_slots.specs.View.{area_at}
use Rattle.shm_slots.proofs.swap.Swap.relocate.Goals as goal

pub returns-in_err-read_slot : goal.returns-in_err-read_slot
returns-in_err-read_slot g c =
    let same = owners-kept c.args.self.now c.read_slot.new.self c.read_slot.ensures.kept in
    rw (err_from_is_err_and c.from_residual.result c.from_residual.ensures.1).1 (grind (arith, common_steps, same, c.in_err-read_slot.ensures.failures))

pub write_outside-requires-clause-there : goal.write_outside-requires-clause-there
write_outside-requires-clause-there g c = has-same c.args.self.now c.read_slot.new.self c.read_slot.ensures.kept c.args.from c.requires.there

pub write_outside-requires-clause-room : goal.write_outside-requires-clause-room
write_outside-requires-clause-room g c =
    let s = c.args.self.now in
    let used = used-read s c.args.from.area (area_at c.read_slot.new.self c.args.from.area).calls c.requires.there.0 in
    grind (arith, common_steps, used, c.read_slot.ensures.sizes, c.in_ok-read_slot.ensures.ok, c.read_slot.ensures.kept.pages, c.read_slot.ensures.kept.owners, c.requires.room)

pub returns : goal.returns
returns g c =
    relocates-read c.args.page c.args.from c.args.self.now c.read_slot.new.self _ _ c.in_ok-read_slot.ensures.failures c.read_slot.ensures.kept c.read_slot.ensures.goes_on c.read_slot.ensures.sizes c.write_outside.ensures
