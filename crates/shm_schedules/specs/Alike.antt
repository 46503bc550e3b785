-- Which calls change a machine.
use Rattle.std.specs.Prelude.{◌&&◌, Bool, true, false, not}
use Rattle.shm_base.specs.Access.{same_bytes}
use Rattle.shm_base.specs.History.{is_refusal}
use Rattle.shm_base.specs.Calls.{ProcessCall}
use Rattle.shm_base.specs.declared.call.Call.TheVariants.{CompareExchange, Load, Mprotect, Stat}
use Rattle.shm_base.specs.declared.call.Event.{Event}
use Rattle.shm_base.specs.declared.call.Reply.{Reply}
use Rattle.shm_base.specs.declared.call.Reply.TheVariants.{Bytes}

-- replies which say that their call changed nothing: refusals, except those of mprotect, which has changed the pages below the one
-- at which it was refused
abbrev pub is_void : ProcessCall → Reply → Bool
is_void (Mprotect addr len writable) reply = false
is_void call reply = is_refusal reply

-- calls that change nothing. A compare and exchange that found other bytes than it expects is one: its reply says so
abbrev pub looks : ProcessCall → Reply → Bool
looks (Load addr len) reply = true
looks (Stat id) reply = true
looks (CompareExchange expected desired addr) (Bytes old) = not (same_bytes old expected)
looks call reply = false

-- a call that may have changed the machine
abbrev pub is_change : Event → Bool
is_change e = not (is_void e.call e.reply) && not (looks e.call e.reply)
