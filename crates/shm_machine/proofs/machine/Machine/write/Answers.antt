use Rattle.std.proofs.Common.{arith, rules}
use Rattle.shm_machine.proofs.Stretching.{write_next, write_none, write_stopped}
use Rattle.shm_machine.proofs.machine.Machine.write.Goals as goal

pub loop-done-init : goal.loop-done-init
loop-done-init c = write_none c.args.self.now.system c.args.pid c.args.addr c.args.bytes.now

pub loop-done-preserved : goal.loop-done-preserved
loop-done-preserved c =
    let so = c.loop-done.invariant in
    write_next c.args.self.now.system c.loop-done.self.system c.write_on.new.self.system c.args.pid c.args.addr c.args.bytes.now _ c.loop-done.done c.next_len-len.result
    so (omega (arith, c.loop-done-test.true)) c.next_len-len.ensures (search rules) c.in_default.ensures

pub returns-in-Err : goal.returns-in-Err
returns-in-Err c =
    let so = c.loop-done.invariant in
    write_stopped c.args.self.now.system c.loop-done.self.system c.write_on.new.self.system c.args.pid c.args.addr c.args.bytes.now c.loop-done.done c.next_len-len.result c.in-Err.refusal so (omega (arith, c.loop-done-test.true)) c.next_len-len.ensures (search rules)
