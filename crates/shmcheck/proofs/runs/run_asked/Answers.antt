use Rattle.std.proofs.Common.{rules}
use Rattle.shmcheck.specs.Answers.{IsRuledAnswer}
use Rattle.shmcheck.specs.Runs.{one_area}
use Rattle.shmcheck.proofs.runs.run_asked.Goals as goal

pub returns-clause-silent : goal.returns-clause-silent
returns-clause-silent g c =
    let answer = c.in_ok-answer.answer in
    let ruled : IsRuledAnswer c.args.asked c.args.given.now answer.status c.in-Ok.script one_area answer.text.items = search rules in
    (answer.text.items, (c.in-Ok.script, c.in-Ok.ensures.read, (answer.status, ruled)), rw c.deref.ensures.value at c.in-Err-write_output.ensures.err)
