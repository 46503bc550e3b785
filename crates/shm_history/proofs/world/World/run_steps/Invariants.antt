use Rattle.std.proofs.Common.{take}
use Rattle.shm_history.specs.WorldState.{RunTo}
use Rattle.shm_history.proofs.world.World.run_steps.Given as goal

-- the steps so far led here
abbrev pub invariant-loop-step : goal.invariant-loop-step
invariant-loop-step g l = RunTo l.fn.self (take l.step-index l.steps) l.self
