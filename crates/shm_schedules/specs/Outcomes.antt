-- An outcome: the replies to each process in a whole run, except for times.
use Rattle.std.specs.Prelude.{ℕ, ◌==◌, if◌then◌else◌, List, [], ◌∷◌, ◌++◌, map}
use Rattle.shm_base.specs.declared.call.Event.{Event}
use Rattle.shm_base.specs.declared.call.Process.{Process}
use Rattle.shm_base.specs.declared.call.Reply.{Reply}
use Rattle.shm_base.specs.declared.call.Reply.TheVariants.{Stat}
use Rattle.shm_base.specs.declared.call.ShmidDs.{ShmidDs}
use Rattle.shm_text.specs.Script.{ScriptView}
use Rattle.shm_schedules.specs.Schedules.{replies_to}

-- 0, which means never, stays 0; any other time becomes 1
abbrev pub masked_time : ℕ → ℕ
masked_time time = if time == 0 then 0 else 1

abbrev pub masked_ds : ShmidDs → ShmidDs
masked_ds ds = record ds { atime = masked_time ds.atime; dtime = masked_time ds.dtime; ctime = masked_time ds.ctime }

-- a reply with its times masked
abbrev pub masked : Reply → Reply
masked (Stat ds) = Stat (masked_ds ds)
masked reply = reply

-- the replies to one process
abbrev pub masked_replies : List Event → Process → List Reply
masked_replies events process = map masked (replies_to process.pid events)

-- the replies to each declared process, in the script's order of processes
abbrev pub outcome_of : ScriptView → List Event → List (List Reply)
outcome_of script events = map (masked_replies events) script.processes

-- the replies to each process after one more call
abbrev pub replies_after : List Process → Event → List (List Reply) → List (List Reply)
replies_after [] e all = []
replies_after (p ∷ processes) e [] = masked_replies (e ∷ []) p ∷ replies_after processes e []
replies_after (p ∷ processes) e (one ∷ all) = (one ++ masked_replies (e ∷ []) p) ∷ replies_after processes e all
