use Rattle.std.proofs.Common.{◌≡◌, ◌+◌, ◌-◌, length, arith, ap, ◌∙◌, rules}
use Rattle.shm_machine.specs.Stretched.{next_len}
use Rattle.shm_machine.proofs.Stretching.{read_next, read_none, read_stopped, unread}
use borrow.Rule.Slice.PartMut.{put_mid}
use Rattle.shm_machine.proofs.machine.Machine.read.Goals as goal

pub loop-done-init : goal.loop-done-init
loop-done-init c = read_none c.args.self.now.system c.args.pid c.args.addr c.args.bytes.now

pub loop-done-preserved : goal.loop-done-preserved
loop-done-preserved c =
    let so = c.loop-done.invariant in
    let len : c.next_len-len.result ≡ next_len (c.args.addr + c.loop-done.done) (length c.args.bytes.now - c.loop-done.done) = c.next_len-len.ensures ∙ ap (λ n. next_len (c.args.addr + c.loop-done.done) (n - c.loop-done.done)) so.size in
    read_next c.args.self.now.system c.loop-done.self.system c.read_on.new.self.system c.args.pid c.args.addr c.args.bytes.now c.loop-done.bytes c.read_on.new.part c.loop-done.done c.next_len-len.result
    (c.loop-done.done + c.next_len-len.result - c.loop-done.done) so (omega (arith, c.loop-done-test.true, so.size)) len (omega arith) (search rules) (search rules)

pub returns-in-Err : goal.returns-in-Err
returns-in-Err c =
    let so = c.loop-done.invariant in
    let len : c.next_len-len.result ≡ next_len (c.args.addr + c.loop-done.done) (length c.args.bytes.now - c.loop-done.done) = c.next_len-len.ensures ∙ ap (λ n. next_len (c.args.addr + c.loop-done.done) (n - c.loop-done.done)) so.size in
    let same : put_mid c.loop-done.done (c.loop-done.done + c.next_len-len.result - c.loop-done.done) c.loop-done.bytes c.read_on.new.part ≡ c.loop-done.bytes = unread _ _ _ _ c.in-Err.ensures.kept in
    rw same (read_stopped c.args.self.now.system c.loop-done.self.system c.read_on.new.self.system c.args.pid c.args.addr c.args.bytes.now c.loop-done.bytes c.loop-done.done c.next_len-len.result c.in-Err.refusal so (omega (arith, c.loop-done-test.true, so.size)) len (search rules))
