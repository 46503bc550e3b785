use Rattle.nogcuvema.proofs.Names.{rules, to_z, of_z, w32, GetFlags}
use Rattle.std.proofs.Common.{◌≡◌}
use Rattle.shm_base.specs.declared.call.Call.TheVariants as call
use Rattle.shm_base.specs.declared.call.Reply.TheVariants as reply
use Rattle.nogcuvema.proofs.Answering.{done_alike, refused_alike}
use Rattle.nogcuvema.proofs.segments.get.Goals as goal

pub returns-in-Err-clause-answers : goal.returns-in-Err-clause-answers
returns-in-Err-clause-answers c =
    let flags : GetFlags = record { 0 = c.args.flags } in
    let kept : c.from_bits_retain.result ≡ flags = search rules in
    refused_alike c.args.machine.now c.get.new.self c.args.pid c.refusal_code.result _ _ (reply.Id c.args.id.now) c.in-Err.refusal
    (λ i. call.Shmget c.args.key c.args.size c.args.mode (kept i)) c.refusal_code.ensures.code c.in-Err.ensures

pub returns-in-Ok-clause-answers : goal.returns-in-Ok-clause-answers
returns-in-Ok-clause-answers c =
    let flags : GetFlags = record { 0 = c.args.flags } in
    let kept : c.from_bits_retain.result ≡ flags = search rules in
    let signed : to_z w32 (of_z w32 c.in-Ok.found) ≡ c.in-Ok.found = search rules in
    rw signed
    (done_alike c.args.machine.now c.get.new.self c.args.pid _ _ (reply.Id c.in-Ok.found) (λ i. call.Shmget c.args.key c.args.size c.args.mode (kept i)) c.in-Ok.ensures)
