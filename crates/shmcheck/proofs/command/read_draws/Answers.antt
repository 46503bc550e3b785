use Rattle.std.proofs.Common.{rules, arith, ◌≡◌, ◌-◌, length, take, drop, Some, string_bytes}
use Rattle.std.proofs.lemmas.Grind.{common_steps}
use Rattle.shmcheck.specs.Words.{draw_by}
use Rattle.shmcheck.proofs.Left.{draws_left}
use Rattle.shm_program.proofs.Words.{two_up}
use Rattle.shmcheck.proofs.command.read_draws.Goals as goal

pub loop-left-preserved : goal.loop-left-preserved
loop-left-preserved c =
    let left = c.loop-left.left.now in
    let name = c.name-item.result in
    let value = c.value-item.result in
    let split = two_up left name value c.in-len2-up.len_at_least (grind (arith, common_steps)) (grind (arith, common_steps)) in
    let read : draw_by (string_bytes name) (string_bytes value) c.loop-left.draws ≡ Some c.in_ok-draws.draws = search rules in
    draws_left string_bytes left (take (length left - 2) (drop 2 left)) name value c.loop-left.draws c.in_ok-draws.draws _ split read c.loop-left.invariant
