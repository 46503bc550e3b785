use Rattle.std.proofs.Common.{rules, ◌≡◌, List, take, ap, subst, arith}
use Rattle.std.proofs.lemmas.List.{take_all}
use Rattle.shm_base.specs.declared.call.Step.{Step}
use Rattle.shm_history.specs.WorldState.{WorldState, RunTo, StopsIn}
use Rattle.shm_history.proofs.Steps.{run_more, run_calls, run_part, run_keeps, run_opening, stops_at, never_stops}
use Rattle.shm_history.proofs.world.World.run_steps.Goals as goal

-- the step that found no memory left the events and the opening
pub returns-in_err-run_step-clause-part : goal.returns-in_err-run_step-clause-part
returns-in_err-run_step-clause-part g c =
    rw (ap (λ (w : WorldState). w.events) c.in_err-run_step.ensures.stopped)
    (run_part c.loop-step.step-index c.args.steps.now c.args.self.now c.loop-step.self c.loop-step.invariant)

pub returns-in_err-run_step-clause-kept : goal.returns-in_err-run_step-clause-kept
returns-in_err-run_step-clause-kept g c =
    rw (ap (λ (w : WorldState). w.events) c.in_err-run_step.ensures.stopped)
    (run_keeps (take c.loop-step.step-index c.args.steps.now) c.args.self.now c.loop-step.self c.loop-step.invariant)

pub returns-in_err-run_step-clause-opening : goal.returns-in_err-run_step-clause-opening
returns-in_err-run_step-clause-opening g c =
    rw (ap (λ (w : WorldState). w.opening) c.in_err-run_step.ensures.stopped)
    (run_opening (take c.loop-step.step-index c.args.steps.now) c.args.self.now c.loop-step.self c.loop-step.invariant)

pub returns-in_err-run_step-clause-stopped : goal.returns-in_err-run_step-clause-stopped
returns-in_err-run_step-clause-stopped g c =
    let stops : StopsIn c.args.self.now c.args.steps.now c.run_step.new.self =
    stops_at c.args.steps.now c.loop-step.step-index c.step-item.result c.args.self.now c.loop-step.self c.run_step.new.self
    (omega (arith, c.loop-step-test.true)) c.step-item.is c.loop-step.invariant c.in_err-run_step.ensures.may_stop c.in_err-run_step.ensures.stopped c.in_err-run_step.ensures.room in
    search (rules, stops)

pub returns-in_err-run_step-clause-no_memory : goal.returns-in_err-run_step-clause-no_memory
returns-in_err-run_step-clause-no_memory g c =
    let stops : StopsIn c.args.self.now c.args.steps.now c.run_step.new.self =
    stops_at c.args.steps.now c.loop-step.step-index c.step-item.result c.args.self.now c.loop-step.self c.run_step.new.self
    (omega (arith, c.loop-step-test.true)) c.step-item.is c.loop-step.invariant c.in_err-run_step.ensures.may_stop c.in_err-run_step.ensures.stopped c.in_err-run_step.ensures.room in
    λ none enough. absurd (never_stops c.args.steps.now c.args.self.now c.run_step.new.self stops none enough)

pub loop-step-preserved : goal.loop-step-preserved
loop-step-preserved g c =
    run_more c.args.steps.now c.loop-step.step-index c.step-item.result c.args.self.now c.loop-step.self c.run_step.new.self
    (omega (arith, c.loop-step-test.true)) c.step-item.is c.loop-step.invariant c.in_ok-run_step.ensures.ran

pub returns-clause-ran : goal.returns-clause-ran
returns-clause-ran g c =
    let all : take c.loop-step.step-index c.args.steps.now ≡ c.args.steps.now = take_all c.loop-step.step-index c.args.steps.now (omega (arith, c.loop-step-test.false)) in
    run_calls c.args.steps.now c.args.self.now c.loop-step.self
    (subst (λ (done : List Step). RunTo c.args.self.now done c.loop-step.self) all c.loop-step.invariant)

pub returns-clause-part : goal.returns-clause-part
returns-clause-part g c = run_part c.loop-step.step-index c.args.steps.now c.args.self.now c.loop-step.self c.loop-step.invariant

pub returns-clause-kept : goal.returns-clause-kept
returns-clause-kept g c = run_keeps (take c.loop-step.step-index c.args.steps.now) c.args.self.now c.loop-step.self c.loop-step.invariant

pub returns-clause-opening : goal.returns-clause-opening
returns-clause-opening g c = run_opening (take c.loop-step.step-index c.args.steps.now) c.args.self.now c.loop-step.self c.loop-step.invariant
