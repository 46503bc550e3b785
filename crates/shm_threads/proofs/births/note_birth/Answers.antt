use Rattle.shm_threads.proofs.Names.{◌<◌, ◌∙◌, length, true, false, arith, ProcessState}
use Rattle.shm_threads.proofs.Noting.{this_noted, other_noted}
use Rattle.shm_threads.proofs.births.note_birth.Goals as goal
use Rattle.shm_threads.proofs.births.note_birth.Goals.{then-process-pid, else-process-pid}

pub loop-process-preserved : goal.loop-process-preserved
loop-process-preserved c =
    let at = c.loop-process in
    let d : ProcessState = record { pid = 0; is_born = false; has_ended = false } in
    let change : ProcessState → ProcessState = λ p. record p { is_born = true } in
    let lt : at.process-index < length c.args.processes.now.items = omega (arith, c.loop-process-test.true, c.deref_mut-process-items.ensures.len) in
    elim c.if-process-pid.branch [
      | then-process-pid w ↦ w.process-items-is ∙ this_noted change c.args.pid _ at.process-items at.process-index d lt at.invariant w.if-process-pid.true
      | else-process-pid w ↦ w.process-items-is ∙ other_noted change c.args.pid _ at.process-items at.process-index d lt at.invariant w.if-process-pid.false
    ]
