use Rattle.shm_program.proofs.Names.{◌≡◌, ◌++◌, List, drop, map, option_map, SwapWord, each_swap}
use Rattle.shm_program.proofs.options.read_swaps.Given as goal

abbrev pub invariant-loop-word : goal.invariant-loop-word
invariant-loop-word g l = each_swap (map g.W.AsStr.text l.words) ≡ option_map (λ (rest : List SwapWord). l.swaps.items ++ rest) (each_swap (map g.W.AsStr.text (drop l.word-index l.words)))
