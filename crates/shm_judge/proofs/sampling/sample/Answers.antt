use Rattle.shm_judge.proofs.Names.{rules, ◌≡◌, ◌<◌, [], subst, sym, IsDrawn, turns, Run, after, fresh}
use Rattle.shm_judge.proofs.Drawing.{drawn-next, fewer-left, lines_left, one-more, whole}
use Rattle.shm_judge.proofs.sampling.sample.Goals as goal

pub loop-run-smaller : goal.loop-run-smaller
loop-run-smaller g c =
    let drawn : IsDrawn (turns c.args.script.now c.loop-run.run) (g.R.Rng.stream c.loop-run.rng) c.in-Some.turn (g.R.Rng.stream c.draw.new.rng) = search rules in
    let is : c.in_ok-run.run' ≡ after c.loop-run.run c.in-Some.turn.pid c.in-Some.turn.call = search rules in
    subst (λ (r : Run). lines_left c.args.script.now c.args.script.now.processes r < lines_left c.args.script.now c.args.script.now.processes c.loop-run.run) (sym is)
    (fewer-left c.args.script.now c.loop-run.run c.in-Some.turn.pid c.in-Some.turn.call (drawn-next c.args.script.now c.loop-run.run _ _ c.in-Some.turn drawn))

pub loop-run-preserved : goal.loop-run-preserved
loop-run-preserved g c =
    let drawn : IsDrawn (turns c.args.script.now c.loop-run.run) (g.R.Rng.stream c.loop-run.rng) c.in-Some.turn (g.R.Rng.stream c.draw.new.rng) = search rules in
    let is : c.in_ok-run.run' ≡ after c.loop-run.run c.in-Some.turn.pid c.in-Some.turn.call = search rules in
    one-more c.args.script.now (fresh (g.M.Engine.flat c.args.machine)) c.loop-run.run c.in_ok-run.run' _ _ _ c.in-Some.turn c.loop-run.invariant drawn is

pub returns : goal.returns
returns g c =
    let none : turns c.args.script.now c.loop-run.run ≡ [] = search rules in
    let left : g.R.Rng.stream c.draw.new.rng ≡ g.R.Rng.stream c.loop-run.rng = search rules in
    whole c.args.script.now (fresh (g.M.Engine.flat c.args.machine)) c.loop-run.run c.into_events.result.items _ _ _ c.loop-run.invariant none left c.into_events.ensures
