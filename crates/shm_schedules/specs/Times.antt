-- Times affect nothing but the times that `stat` shows.
use Rattle.std.specs.Prelude.{◌≡◌, ◌≢◌, ℕ, map, option_map}
use Rattle.shm_base.specs.State.{Segment, Entry, Machine}
use Rattle.shm_base.specs.Callers.{Outcome}
use Rattle.shm_base.specs.Step.{step}
use Rattle.shm_base.specs.Calls.{ProcessCall}
use Rattle.shm_schedules.specs.Outcomes.{masked, masked_time}

-- a segment whose times are masked: 0 means never, and any other time becomes 1
abbrev pub timeless_segment : Segment → Segment
timeless_segment x = record x { atime = masked_time x.atime; dtime = masked_time x.dtime; ctime = masked_time x.ctime }

abbrev pub timeless_entry : Entry → Entry
timeless_entry e = record e { segment = option_map timeless_segment e.segment }

-- the machine with masked times
abbrev pub timeless : Machine → Machine
timeless s = record s { table = map timeless_entry s.table }

-- an outcome with masked times
abbrev pub timeless_outcome : Outcome → Outcome
timeless_outcome o = record { reply = masked o.reply; state = timeless o.state }

-- THE LAW. Except for times, a call at any place of the history does to a machine what it does, at place 1, to the machine with
-- masked times
abbrev pub TimesReachTimes : Type 0
TimesReachTimes = (s : Machine) (n pid : ℕ) (call : ProcessCall) → n ≢ 0 → step (timeless s) 1 pid call ≡ timeless_outcome (step s n pid call)
