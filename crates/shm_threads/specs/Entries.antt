-- What contracts see of the entries of a transcript.
use Rattle.std.specs.Prelude.{ℕ, Bool, true, false, List}
use Rattle.shm_threads.specs.declared.transcript.Answer.{Answer}
use Rattle.shm_threads.specs.declared.transcript.Answer.TheVariants as answers
use Rattle.shm_threads.specs.declared.transcript.Entry.{Entry}

-- a call for which the host refused memory
abbrev pub is_marked : Answer → Bool
is_marked (answers.Reply r) = false
is_marked answers.HostMemory = true

-- the entries, how many there may be, and whether the program keeps them
pub record EntryListView : Type 0 where
  pub items : List Entry
  pub room : ℕ
  pub is_kept : Bool
