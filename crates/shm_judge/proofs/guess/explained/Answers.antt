use Rattle.shm_judge.proofs.Names.{rules, subst, sym, IsExplained, fresh, IsReached}
use Rattle.shm_judge.proofs.Verdicts.{explained}
use Rattle.shm_judge.proofs.guess.explained.Goals as goal

pub returns : goal.returns
returns g c =
    let reached : IsReached c.args.script.now (fresh (g.M.Engine.flat c.args.machine.now)) c.in-Some.run' = search rules in
    let whole = c.in_ok-is_whole_in.ensures.0 (search rules) in
    subst (IsExplained c.args.script.now c.args.log.now (fresh (g.M.Engine.flat c.args.machine.now))) (sym c.into_events.ensures)
    (explained c.args.script.now c.args.log.now (fresh (g.M.Engine.flat c.args.machine.now)) c.in-Some.run' reached whole.0 whole.1)
