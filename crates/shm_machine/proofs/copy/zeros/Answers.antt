use Rattle.std.proofs.Common.{◌≤◌, arith}
use Rattle.shm_machine.proofs.Zeros.{longer, still-zeros}
use Rattle.shm_machine.proofs.copy.zeros.Goals as goal

pub loop-part-preserved : goal.loop-part-preserved
loop-part-preserved c =
    let old = c.loop-part.bytes.items in
    let new = c.extend_from_slice.new.self.items in
    let more = c.min-more.result in
    let few : more ≤ 1024 = omega (arith, c.min-more.ensures) in
    let items = c.in_ok-extend_from_slice.ensures.items in
    let long = longer old new _ 1024 more c.loop-part.invariant.0 c.loop-part.invariant.2 few items in (
      still-zeros old new _ 1024 more c.loop-part.invariant.0 c.loop-part.invariant.2 few items,
      omega (arith, long, c.min-more.ensures, c.len-in-loop-part.ensures, c.loop-part.invariant.1),
      c.loop-part.invariant.2,
    )
