-- The final value of a table that lends one of its values as `&mut`.
use Rattle.std.specs.Prelude.{ℕ, List}
use Rattle.std.specs.Borrow.{Lends, Fml, RattleType, MutBor}
use Rattle.shm_ids.specs.declared.table.Entry.{Entry}
use Rattle.shm_ids.specs.Table.{with_value}
use Rattle.shm_ids.specs.contracts.table.IdTable.{the_row}

module _ (T : RattleType) (s : MutBor (List (Entry T.Denot))) where
  -- after the borrow r ends, the row at the index has the last value written through r
  abbrev pub lends_at : ℕ → MutBor T.Denot → Fml
  lends_at i r = Lends (the_row T) T s r (with_value s.now i)
