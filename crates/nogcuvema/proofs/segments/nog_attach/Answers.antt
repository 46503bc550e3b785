use Rattle.nogcuvema.proofs.Names.{rules, subst, to_z, of_z, w32, nat_lt}
use Rattle.std.proofs.Common.{◌≡◌, ℤ, true, Some, arith}
use Rattle.std.proofs.lemmas.Bool.{lt-ltb}
use Rattle.nogcuvema.specs.Answers.{AnswersFor}
use Rattle.shm_base.specs.declared.call.Call.TheVariants as call
use Rattle.shm_base.specs.declared.call.Reply.TheVariants as reply
use Rattle.nogcuvema.proofs.segments.nog_attach.Goals as goal

pub returns-in-Some-clause-answers : goal.returns-in-Some-clause-answers
returns-in-Some-clause-answers c =
    let signed : to_z w32 (of_z w32 c.args.id) ≡ c.args.id = search rules in
    let fits : nat_lt c.args.flags 65536 ≡ true = lt-ltb c.args.flags 65536 (omega (arith, c.if-flags-from.false, c.from.ensures)) in
    let held : c.args.handle.now.kept.value ≡ Some c.deref_mut-machine.result.now = search rules in
    rw (fits, held, c.put.ensures)
    (subst (λ (i : ℤ). AnswersFor c.deref_mut-machine.result.now c.args.pid (call.Shmat i c.args.addr (record { 0 = c.args.flags })) (reply.Addr c.attach-code.new.at) c.attach-code.result c.attach-code.new.machine) signed c.attach-code.ensures.answers)
