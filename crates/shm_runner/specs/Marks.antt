-- Calls of a run for which the host refused memory.
use Rattle.std.specs.Prelude.{Bool, List}
use Rattle.std.specs.List.{list_any}
pub use Rattle.shm_threads.specs.Entries.{is_marked}
use Rattle.shm_threads.specs.declared.transcript.Entry.{Entry}
use Rattle.shm_threads.specs.declared.transcript.Transcript.{Transcript}

abbrev pub has_mark : List Entry → Bool
has_mark entries = list_any (λ (e : Entry). is_marked e.answer) entries

abbrev pub have_mark : List Transcript → Bool
have_mark transcripts = list_any (λ (t : Transcript). has_mark t.entries.items) transcripts
