-- The final value of an entry whose value is lent as `&mut`.
use Rattle.std.specs.Borrow.{Lends, Fml, RattleType, MutBor}
use Rattle.shm_ids.specs.declared.table.Entry.{Entry}
use Rattle.shm_ids.specs.Table.{row_with_value}
use Rattle.shm_ids.specs.contracts.table.Entry.{the_row}

module _ (T : RattleType) where
  abbrev pub lends_entry : MutBor (Entry T.Denot) → MutBor T.Denot → Fml
  lends_entry s r = Lends (the_row T) T s r (λ w. record (s.now) { row = row_with_value w s.now.row })
