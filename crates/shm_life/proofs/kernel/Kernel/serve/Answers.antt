use Rattle.shm_life.proofs.Names.{rules, arith, eq-eqb, length, ne_eqb, refl, ◌≡◌, to_z, of_z, w32}
use Rattle.shm_life.proofs.kernel.Kernel.serve.Goals as goal

pub returns-in-Rmid-clause-served : goal.returns-in-Rmid-clause-served
returns-in-Rmid-clause-served g c =
    let signed : to_z w32 (of_z w32 c.in-Rmid.id) ≡ c.in-Rmid.id = search rules in
    rw c.in-Rmid.is (rw signed at (c.rmid-served.ensures c.args.time))

pub returns-in-Lock-clause-served : goal.returns-in-Lock-clause-served
returns-in-Lock-clause-served g c =
    let signed : to_z w32 (of_z w32 c.in-Lock.id) ≡ c.in-Lock.id = search rules in
    rw c.in-Lock.is (rw signed at (c.lock-served.ensures c.args.time))

pub returns-in-Unlock-clause-served : goal.returns-in-Unlock-clause-served
returns-in-Unlock-clause-served g c =
    let signed : to_z w32 (of_z w32 c.in-Unlock.id) ≡ c.in-Unlock.id = search rules in
    rw c.in-Unlock.is (rw signed at (c.unlock-served.ensures c.args.time))

pub returns-in-Fork-clause-served : goal.returns-in-Fork-clause-served
returns-in-Fork-clause-served g c = rw c.in-Fork.is c.fork-served.ensures

pub returns-in-Swapoff-clause-served : goal.returns-in-Swapoff-clause-served
returns-in-Swapoff-clause-served g c = rw c.in-Swapoff.is (c.swapoff-served.ensures c.args.time)

pub returns-in-Ok-stat-clause-served : goal.returns-in-Ok-stat-clause-served
returns-in-Ok-stat-clause-served g c =
    let signed : to_z w32 (of_z w32 c.in-Stat.id) ≡ c.in-Stat.id = search rules in
    rw c.in-Stat.is (rw (signed, c.in-Ok-stat.is) at (c.stat.ensures c.args.time))

pub returns-in-Err-stat-clause-served : goal.returns-in-Err-stat-clause-served
returns-in-Err-stat-clause-served g c =
    let signed : to_z w32 (of_z w32 c.in-Stat.id) ≡ c.in-Stat.id = search rules in
    rw c.in-Stat.is (rw (signed, c.in-Err-stat.is) at (c.stat.ensures c.args.time))

pub returns-in-Setuid-clause-served : goal.returns-in-Setuid-clause-served
returns-in-Setuid-clause-served g c = rw c.in-Setuid.is (c.setuid.ensures c.args.time)

pub returns-in-Load-clause-served : goal.returns-in-Load-clause-served
returns-in-Load-clause-served g c = rw c.in-Load.is (rw c.get.ensures.value at (c.serve_access-served.ensures c.args.time))

pub returns-in-Store-clause-served : goal.returns-in-Store-clause-served
returns-in-Store-clause-served g c =
    let some = ne_eqb (length c.as_slice.result.now) 0 (λ e. omega (arith, e, c.as_slice.ensures.range.0)) in
    rw c.in-Store.is (rw (some, c.as_slice.ensures.value) at (c.serve_access-served-in-Store.ensures c.args.time))

pub returns-in-Xadd-clause-served : goal.returns-in-Xadd-clause-served
returns-in-Xadd-clause-served g c = rw c.in-Xadd.is (c.serve_access-served-in-Xadd.ensures c.args.time)

pub returns-in-Exchange-clause-served : goal.returns-in-Exchange-clause-served
returns-in-Exchange-clause-served g c =
    let size = length c.as_slice-bytes.result.now in
    rw c.in-Exchange.is (rw (eq-eqb size size refl, c.as_slice-bytes.ensures.value) at (c.serve_access-served-in-Exchange.ensures c.args.time))

pub returns-in-CompareExchange-clause-served : goal.returns-in-CompareExchange-clause-served
returns-in-CompareExchange-clause-served g c =
    rw c.in-CompareExchange.is (rw (c.as_slice-expected.ensures.value, c.as_slice-bytes-in-CompareExchange.ensures.value) at (c.serve_access-served-in-CompareExchange.ensures c.args.time))
