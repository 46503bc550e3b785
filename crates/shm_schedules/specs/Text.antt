-- The printed text of calls and schedules.
use Rattle.std.specs.Prelude.{ℕ, Bool, true, false, ◌==◌, if◌then◌else◌, List, ◌++◌, codes, flat_map}
use Rattle.std.specs.Fmt.{decimal}
use Rattle.shm_base.specs.declared.call.Event.{Event}
use Rattle.shm_base.specs.declared.call.Reply.{Reply}
use Rattle.shm_base.specs.declared.call.Reply.TheVariants as replies
use Rattle.shm_print.specs.Text.{asked_text, fields_text, reply_text, times_text}
use Rattle.shm_schedules.specs.Schedules.{schedule_of}

-- 0 for never, and `set` for any other time
abbrev pub time_text : ℕ → List ℕ
time_text time = if time == 0 then codes "0" else codes "set"

-- the words of a reply, with its times as 0 or `set`
abbrev pub reply_words : Reply → List ℕ
reply_words (replies.Stat ds) = fields_text ds ++ times_text time_text ds
reply_words reply = reply_text reply

-- the words of a reply. If masked, an identifier or an address is a question mark
abbrev pub words_as : Bool → Reply → List ℕ
words_as true (replies.Id id) = codes "?"
words_as true (replies.Addr addr) = codes "?"
words_as masks reply = reply_words reply

-- the line of a call, masked or not
abbrev pub line_as : Bool → Event → List ℕ
line_as masks e = asked_text e ++ (words_as masks e.reply ++ codes "\n")

abbrev pub line_text : Event → List ℕ
line_text e = line_as false e

abbrev pub pid_text : ℕ → List ℕ
pid_text pid = codes " " ++ decimal pid

-- a schedule: the pids in order
abbrev pub schedule_text : List Event → List ℕ
schedule_text events = codes "schedule" ++ (flat_map pid_text (schedule_of events) ++ codes "\n")
