use Rattle.std.proofs.Common.{arith, ◌∙◌, ◌++◌, ◌∷◌, [], List, ap, sym, take}
use Rattle.shm_base.specs.declared.call.Reply.{Reply}
use Rattle.shm_schedules.specs.Outcomes.{replies_after}
use Rattle.shm_schedules.proofs.Going.{replies-after-next}
use Rattle.shm_schedules.proofs.outcome.replies_after.Goals as goal

pub loop-index-preserved : goal.loop-index-preserved
loop-index-preserved c =
    let before : List (List Reply) = replies_after (take c.loop-index.index c.args.processes.now) c.args.event.now c.args.replies.now in
    c.in_ok-push.ensures.items
    ∙ ap (λ (all : List (List Reply)). all ++ c.in_ok-one.one ∷ []) c.loop-index.invariant
    ∙ ap (λ (one : List Reply). before ++ one ∷ []) c.in_ok-one.ensures
    ∙ sym (replies-after-next c.args.processes.now c.args.event.now c.args.replies.now c.loop-index.index _ (omega arith))
