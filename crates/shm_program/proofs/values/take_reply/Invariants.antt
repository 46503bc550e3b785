use Rattle.shm_program.proofs.Names.{◌≡◌, ◌++◌, ℕ, List, Option, take, drop, values_of, with_values}
use Rattle.shm_program.proofs.values.take_reply.Given as goal

-- the process is among the holders that are left, if anywhere
abbrev pub invariant-loop-index : goal.invariant-loop-index
invariant-loop-index l = record {
  same : l.holders.items ≡ l.fn.holders.items;
  found : values_of l.holders.items l.pid ≡ values_of (drop l.index l.holders.items) l.pid;
  set : (values : List (Option ℕ)) → with_values l.holders.items l.pid values ≡ take l.index l.holders.items ++ with_values (drop l.index l.holders.items) l.pid values;
}
