-- The memory that a run takes before its workers start.
use Rattle.std.specs.Prelude.{◌≡◌, ◌≤◌, List, [], length, Vec, vec_capacity}
use Rattle.std.specs.declared.alloc.Global.{Global}
use Rattle.shm_base.specs.declared.call.Process.{Process}
use Rattle.shm_threads.specs.declared.transcript.Transcript.{Transcript}

-- both lists are empty, and have room for each process
pub record HaveRoom {H : Type 0} (processes : List Process) (handles : Vec H Global) (transcripts : Vec Transcript Global) : Type 0 where
  pub no_handle : handles.items ≡ []
  pub no_transcript : transcripts.items ≡ []
  pub handles_fit : length processes ≤ vec_capacity handles
  pub transcripts_fit : length processes ≤ vec_capacity transcripts
