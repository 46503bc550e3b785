use Rattle.std.proofs.Common.{rules, sym}
use mathlib.Core.Bool.{true≢false}
use Rattle.shm_base.specs.declared.call.Step.TheVariants as steps
use Rattle.shm_history.specs.WorldState.{MayStop}
use Rattle.shm_history.proofs.world.World.run_step.Goals as goal

-- a call that found no memory takes some, and is not refused
pub returns-in_err-_reply-in-Call-clause-may_stop : goal.returns-in_err-_reply-in-Call-clause-may_stop
returns-in_err-_reply-in-Call-clause-may_stop g c =
    let may : MayStop c.args.self.now (steps.Call c.in-Call.pid c.in-Call.call) =
    λ left. ((λ none. true≢false (sym (c.in_err-_reply-in-Call.ensures.no_memory none left))), c.in_err-_reply-in-Call.ensures.memory left) in
    search (rules, may)
