use Rattle.shm_outcomes.proofs.Names.{arith, ◌∙◌, ◌++◌, ◌∷◌, [], List, ap, sym, take, Reply, relevant_all}
use Rattle.shm_outcomes.proofs.Relevance.{relevant-all-more}
use Rattle.shm_outcomes.proofs.relevant.relevant_all.Goals as goal

pub loop-index-preserved : goal.loop-index-preserved
loop-index-preserved c =
    let before : List (List Reply) = relevant_all c.args.lines.now (take c.loop-index.index c.args.processes.now) c.args.lists.now in
    c.in_ok-push.ensures.items
    ∙ ap (λ (all : List (List Reply)). all ++ c.in_ok-one.one ∷ []) c.loop-index.invariant
    ∙ ap (λ (one : List Reply). before ++ one ∷ []) c.in_ok-one.ensures
    ∙ sym (relevant-all-more c.args.lines.now c.args.processes.now c.args.lists.now c.loop-index.index _ (omega arith))
