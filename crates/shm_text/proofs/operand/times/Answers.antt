use Rattle.shm_text.proofs.Names.{rules, ◌∙◌, ◌==◌, bytes_eq, nat_tests, length-filter, count_from_yields_List, YieldsList-from_filter, YieldsList-from_slice_split, names_of}
use Rattle.shm_text.proofs.operand.times.Goals as goal

pub returns : goal.returns
returns c =
    count_from_yields_List c.filter.result _ c.count.ensures.ran
    (YieldsList-from_filter _ (λ n. bytes_eq n c.args.name.now) {f = c.filter.result.p}
    (YieldsList-from_slice_split _ (λ b. b == 44) {f = c.split.result.pred} c.args.word.now (cc) (cc) (cc) (λ x b q k. search (rules, nat_tests)))
    (cc) (λ x b q k. search (rules, nat_tests)))
    ∙ length-filter (λ n. bytes_eq n c.args.name.now) (names_of c.args.word.now)
