use Rattle.std.proofs.Common.{arith, ◌≤◌, refl}
use Rattle.shm_base.proofs.Padded.{padded}
use Rattle.shm_base.proofs.access.AccessBytes.new.Goals as goal

pub invariant_of-result : goal.invariant_of-result
invariant_of-result g c =
    let e = c.in_ok-len.ensures in
    let size = e.which.0 refl in
    let few : c.in_ok-len.len ≤ 64 = omega (arith, e.value, size.1) in
    let fits : c.in_ok-len.len ≤ g.row.N = omega (arith, e.value, c.if-bytes.false) in
    let p = padded c.args.bytes.now _ c.in_ok-len.len _ e.value fits c.copy_from_slice.ensures.after in
    (omega (arith, e.value, size.0), few, fits, p.0, p.1)
