use Rattle.std.proofs.Common.{◌≡◌, ◌∙◌, ap}
use Rattle.shm_judge.specs.Reading.{log_of}
use Rattle.shmcheck.specs.Runs.{one_area}
use Rattle.shmcheck.proofs.Stops.{doubt_stop}
use Rattle.shmcheck.proofs.Texts.{judged-text}
use Rattle.shmcheck.proofs.judging.judge_script.Goals as goal

pub returns-in-Err-judge_log-clause-cause : goal.returns-in-Err-judge_log-clause-cause
returns-in-Err-judge_log-clause-cause c =
    let is : c.in_ok-answered.answered ≡ log_of c.args.script.now c.in-Ok.entries.items = c.in_ok-answered.ensures ∙ ap (log_of c.args.script.now) c.deref.ensures.value in
    rw c.doubted.ensures
    (doubt_stop c.in-Err-judge_log.error c.args.options c.args.log.now one_area c.args.script.now c.in-Ok.entries.items c.in_ok-answered.answered c.in_ok-machine.machine.machine c.in-Ok.ensures.ok is c.in_ok-machine.ensures.machine c.in-Err-judge_log.ensures.err)

pub returns-clause-ok : goal.returns-clause-ok
returns-clause-ok c =
    let is : c.in_ok-answered.answered ≡ log_of c.args.script.now c.in-Ok.entries.items = c.in_ok-answered.ensures ∙ ap (log_of c.args.script.now) c.deref.ensures.value in (
      c.is_legal.result,
      c.verdict_status-status.ensures,
      judged-text c.args.script.now c.args.log.now c.in-Ok.entries.items c.in_ok-answered.answered one_area c.in_ok-machine.machine.machine c.in-Ok-judge_log.verdict c.is_legal.result c.in_ok-text.text.items c.in-Ok.ensures.ok is c.in_ok-machine.ensures.machine
          c.in-Ok-judge_log.ensures.ok c.is_legal.ensures c.in_ok-text.ensures,
    )
