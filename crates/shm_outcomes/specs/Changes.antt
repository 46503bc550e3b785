-- What changed a machine, as far as later calls can tell: of the bytes that were written since the last other change, each
-- place keeps the last, so the order of stores to different places does not matter. A fork counts as made before them.
use Rattle.std.specs.Prelude.{ℕ, ◌+◌, ◌%◌, ◌^◌, ◌==◌, ◌&&◌, ◌||◌, Bool, true, false, nat_lt, if◌then◌else◌, List, [], ◌∷◌, ◌++◌, filter, map, length, Option, Some, None}
use Rattle.std.specs.Int.{w64, to_le_bytes}
use Rattle.shm_base.specs.Access.{Place}
use Rattle.shm_base.specs.State.{Machine}
use Rattle.shm_base.specs.Step.{step}
use Rattle.shm_base.specs.declared.bounds.TheConstants.{INDEXES}
use Rattle.shm_base.specs.Calls.{ProcessCall}
use Rattle.shm_base.specs.declared.call.Call.TheVariants.{CompareExchange, Exchange, Fork, Store, Xadd}
use Rattle.shm_base.specs.declared.call.Event.{Event}
use Rattle.shm_base.specs.declared.call.Reply.{Reply}
use Rattle.shm_base.specs.declared.call.Reply.TheVariants.{Number}
use Rattle.shm_schedules.specs.Alike.{is_change}
use Rattle.shm_schedules.specs.Places.{place_of}
use Rattle.shm_outcomes.specs.declared.effects.CallBy.{CallBy}
use Rattle.shm_outcomes.specs.declared.effects.Change.{Change}
use Rattle.shm_outcomes.specs.declared.effects.Change.TheVariants.{Made, Wrote}
use Rattle.shm_outcomes.specs.declared.effects.Patch.{Patch}
use Rattle.shm_outcomes.specs.declared.effects.Write.{Write}

-- the changes up to the last one that wrote no bytes, and the bytes written since
pub record Effects : Type 0 where
  pub past : List Change
  pub writes : List Write

abbrev pub no_effects : Effects
no_effects = record { past = []; writes = [] }

-- WRITTEN BYTES

abbrev pub is_below : Write → Write → Bool
is_below w v = nat_lt v.index w.index || (v.index == w.index) && nat_lt v.at w.at

abbrev pub is_above : Write → Write → Bool
is_above w v = nat_lt w.index v.index || (v.index == w.index) && nat_lt w.at v.at

-- the bytes in order of their places, with one more, which replaces that at its place
abbrev pub put : Write → List Write → List Write
put w ws = filter (is_below w) ws ++ w ∷ filter (is_above w) ws

-- a byte is written at a place
abbrev pub write_at : Place → ℕ → Write
write_at p byte = record { index = p.seg % INDEXES; at = p.at; byte = byte }

abbrev pub put_at : Option Place → ℕ → List Write → List Write
put_at None byte ws = ws
put_at (Some p) byte ws = put (write_at p byte) ws

-- a process writes bytes, one for each address from this one on
abbrev pub puts : Machine → ℕ → ℕ → List ℕ → List Write → List Write
puts s pid addr [] ws = ws
puts s pid addr (byte ∷ bytes) ws = puts s pid (addr + 1) bytes (put_at (place_of s pid addr) byte ws)

-- CHANGES

abbrev pub fits : ℕ → List ℕ → Option Patch
fits addr bytes = if nat_lt (addr + length bytes) (2 ^ 64) then Some (record { addr = addr; bytes = bytes }) else None

-- the bytes that a call wrote, if it changed the machine, and no more than bytes
abbrev pub patch_by : ProcessCall → Reply → Option Patch
patch_by (Store bytes addr) reply = fits addr bytes
patch_by (Xadd addr add) (Number old) = fits addr (to_le_bytes w64 ((old + add) % 2 ^ 64))
patch_by (Exchange bytes addr) reply = fits addr bytes
patch_by (CompareExchange expected desired addr) reply = fits addr desired
patch_by call reply = None

abbrev pub wrote : Write → Change
wrote w = Wrote w

abbrev pub all_changes : Effects → List Change
all_changes t = t.past ++ map wrote t.writes

-- a call that does the same before bytes are written and after it
abbrev pub is_fork : ProcessCall → Bool
is_fork (Fork child) = true
is_fork call = false

-- the call of an event. Its reply follows from what changed the machine before
abbrev pub call_of : Event → CallBy
call_of e = record { pid = e.pid; call = e.call }

abbrev pub made : CallBy → Effects → Effects
made c t =
    if is_fork c.call
    then record { past = t.past ++ Made c ∷ []; writes = t.writes }
    else record { past = all_changes t ++ Made c ∷ []; writes = [] }

abbrev pub effects_by : Machine → Event → Option Patch → Effects → Effects
effects_by s e (Some p) t = record { past = t.past; writes = puts s e.pid p.addr p.bytes t.writes }
effects_by s e None t = made (call_of e) t

-- the effects after one more call, made of this machine
abbrev pub effects_after : Machine → Event → Effects → Effects
effects_after s e t = if is_change e then effects_by s e (patch_by e.call e.reply) t else t

-- the effects after these calls, of which the first is made of this machine at this place of the history
abbrev pub effects_from : Machine → ℕ → Effects → List Event → Effects
effects_from s n t [] = t
effects_from s n t (e ∷ events) = effects_from (step s n e.pid e.call).state (n + 1) (effects_after s e t) events

abbrev pub effects_of : Machine → List Event → Effects
effects_of s events = effects_from s 1 no_effects events
