use Rattle.shm_judge.proofs.Names.{◌≡◌, ◌++◌, drop, answers_text}
use Rattle.shm_judge.proofs.report.put_answers.Given as goal

abbrev pub invariant-loop-place : goal.invariant-loop-place
invariant-loop-place l =
    l.text.items ++ answers_text l.log l.events l.place (drop l.place l.script.processes) ≡ l.initial.text.items ++ answers_text l.log l.events 0 l.script.processes
