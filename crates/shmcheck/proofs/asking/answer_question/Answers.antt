use Rattle.std.proofs.Common.{◌∙◌, ap, subst, sym, List}
use Rattle.shm_schedules.specs.Finding.{Finding}
use Rattle.shmcheck.specs.Questioned.{AreMet, answer_text, question_status}
use Rattle.shmcheck.specs.Runs.{one_area}
use Rattle.shmcheck.proofs.Questions.{witness}
use Rattle.shmcheck.proofs.Stops.{question_stop}
use Rattle.shmcheck.proofs.asking.answer_question.Goals as goal

pub returns-in-Err-outcomes-clause-cause : goal.returns-in-Err-outcomes-clause-cause
returns-in-Err-outcomes-clause-cause c =
    rw c.stopped.ensures
    (question_stop c.in-Err-outcomes.error c.args.wish c.args.options c.args.words.now one_area c.args.script.now
    c.in_ok-machine.machine.machine c.in_ok-machine.ensures.machine c.in-Err-outcomes.ensures.err)

pub returns-clause-ok : goal.returns-clause-ok
returns-clause-ok c =
    let condition = c.in-Ok.condition in
    let met = c.in_ok-met.met.items in
    let some = subst (λ (found : List Finding). AreMet condition found met) c.deref.ensures.value c.in_ok-met.ensures in (
      condition,
      sym c.in_ok-condition.ensures ∙ c.in-Ok.is,
      (
        met,
        witness c.args.script.now one_area condition c.in_ok-machine.machine.machine c.in-Ok-outcomes.found.items met
            c.in_ok-machine.ensures.machine c.in-Ok-outcomes.ensures.ok some,
        c.question_status-status.ensures ∙ ap (question_status c.args.wish) c.deref-3.ensures.value,
        c.in_ok-text.ensures ∙ ap (answer_text c.args.script.now) c.deref-2.ensures.value,
      ),
    )
