use Rattle.std.proofs.Common.{rules, ◌≡◌, ◌∙◌, ◌<◌, arith, length, Some}
use Rattle.shm_text.specs.Variables.{values_after}
use Rattle.shm_schedules.proofs.Own.{next-own}
use Rattle.shm_schedules.proofs.lines.next_call.Goals as goal

pub loop-line-preserved : goal.loop-line-preserved
loop-line-preserved c =
    let lt : c.next_own-place.result < length c.args.events.now = search rules in
    let mine : c.index-events-place.result.pid ≡ c.args.pid = c.next_own-place.ensures.own lt c.index-events-place.result c.index-events-place.is in
    let vars : c.took.new.self ≡ values_after c.loop-line.vars c.in-Command.command.var (Some c.index-events-place.result.reply) = search rules in
    let own : c.in-Command.command.pid ≡ c.args.pid = search rules in
    let more = next-own c.args.pid c.loop-line.vars c.args.lines.now c.loop-line.line-index c.line-item.result c.in-Command.command c.args.events.now c.loop-line.place c.next_own-place.result c.index-events-place.result c.loop-line-test.true c.line-item.is c.in-Command.is own c.next_own-place.ensures.same lt c.index-events-place.is mine in
    (omega (arith, lt), c.loop-line.invariant.1 ∙ rw vars more)
