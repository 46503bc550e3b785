-- The printed counts of a machine.
use Rattle.std.specs.Prelude.{ℕ, List, ◌++◌, codes}
use Rattle.std.specs.Fmt.{decimal}
use Rattle.shm_base.specs.declared.paging.Tally.{Tally}

abbrev pub counts_line : Tally → List ℕ
counts_line t = codes "usage events " ++ (decimal t.events ++ (codes " segments " ++ (decimal t.segments ++ (codes " reserved " ++ (decimal t.reserved ++ (codes " locked " ++ (decimal t.locked ++ codes "\n")))))))

abbrev pub memory_line : Tally → List ℕ
memory_line t = codes "usage frames " ++ (decimal t.resident ++ (codes "/" ++ (decimal t.frames ++ (codes " dirty " ++ (decimal t.dirty ++ (codes " slots " ++ (decimal t.used ++ (codes "/" ++ (decimal t.slots ++ codes "\n")))))))))

abbrev pub moves_line : Tally → List ℕ
moves_line t = codes "usage in " ++ (decimal t.ins ++ (codes " out " ++ (decimal t.outs ++ (codes " failures " ++ (decimal t.failures ++ codes "\n")))))

abbrev pub usage_text : Tally → List ℕ
usage_text t = counts_line t ++ (memory_line t ++ moves_line t)
