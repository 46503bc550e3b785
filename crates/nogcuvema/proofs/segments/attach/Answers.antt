use Rattle.nogcuvema.proofs.Names.{rules, to_z, of_z, w32, AtFlags}
use Rattle.std.proofs.Common.{◌≡◌}
use Rattle.shm_base.specs.declared.call.Call.TheVariants as call
use Rattle.shm_base.specs.declared.call.Reply.TheVariants as reply
use Rattle.nogcuvema.proofs.Answering.{done_alike, refused_alike}
use Rattle.nogcuvema.proofs.segments.attach.Goals as goal

pub returns-in-Err-clause-answers : goal.returns-in-Err-clause-answers
returns-in-Err-clause-answers c =
    let signed : to_z w32 (of_z w32 c.args.id) ≡ c.args.id = search rules in
    let flags : AtFlags = record { 0 = c.args.flags } in
    let kept : c.from_bits_retain.result ≡ flags = search rules in
    refused_alike c.args.machine.now c.attach.new.self c.args.pid c.refusal_code.result _ _ (reply.Addr c.args.at.now) c.in-Err.refusal
    (λ i. call.Shmat (signed i) c.args.addr (kept i)) c.refusal_code.ensures.code c.in-Err.ensures

pub returns-in-Ok-clause-answers : goal.returns-in-Ok-clause-answers
returns-in-Ok-clause-answers c =
    let signed : to_z w32 (of_z w32 c.args.id) ≡ c.args.id = search rules in
    let flags : AtFlags = record { 0 = c.args.flags } in
    let kept : c.from_bits_retain.result ≡ flags = search rules in
    done_alike c.args.machine.now c.attach.new.self c.args.pid _ _ (reply.Addr c.in-Ok.found) (λ i. call.Shmat (signed i) c.args.addr (kept i)) c.in-Ok.ensures
