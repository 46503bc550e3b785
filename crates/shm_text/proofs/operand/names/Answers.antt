use Rattle.shm_text.proofs.Names.{rules, ◌==◌, nat_tests, count_from_yields_List, YieldsList-from_slice_split}
use Rattle.shm_text.proofs.operand.names.Goals as goal

pub returns : goal.returns
returns c =
    count_from_yields_List c.split.result _ c.count.ensures.ran
    (YieldsList-from_slice_split _ (λ b. b == 44) {f = c.split.result.pred} c.args.word.now (cc) (cc) (cc) (λ x b q k. search (rules, nat_tests)))
