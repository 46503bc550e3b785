-- The last writer: a byte has the value of the last event that wrote it, or 0 if none has since the segment was made.
use Rattle.std.specs.Prelude.{◌≡◌, ◌<◌, ◌⊎◌, ℕ, ◌+◌, ◌%◌, ◌^◌, pos, Bool, if◌then◌else◌, List, length, Option, Some, None, slice_get}
use Rattle.std.specs.Int.{w64, to_le_bytes, from_le_bytes}
use Rattle.shm_base.specs.Calls.{ProcessCall}
use Rattle.shm_base.specs.declared.call.Call.TheVariants.{Load, Store, Xadd, Exchange, CompareExchange}
use Rattle.shm_base.specs.declared.call.Reply.{Reply}
use Rattle.shm_base.specs.declared.call.Reply.TheVariants.{Id, Bytes, Number, Done}
use Rattle.shm_base.specs.declared.call.Event.{Event}
use Rattle.shm_base.specs.State.{Segment, Machine, Opening}
use Rattle.shm_base.specs.Access.{place, same_bytes}
use Rattle.shm_base.specs.Identifier.{Invalid, look}
use Rattle.shm_base.specs.Processes.{pieces_of_caller}
use Rattle.shm_base.specs.Callers.{caller_of}
use Rattle.shm_laws.specs.Standing.{Stands, Since, Always, EachTurn}

-- WHAT AN EVENT WRITES

-- bytes, and the address of the first
pub record Put : Type 0 where
  pub from : ℕ
  pub bytes : List ℕ

-- the bytes that a successful store, xadd, exchange, or compare and exchange of the expected bytes writes, and where. No other
-- event writes
abbrev pub put : ProcessCall → Reply → Option Put
put (Store bytes addr) Done = Some (record { from = addr; bytes = bytes })
put (Xadd addr add) (Number old) =
    Some (record { from = addr; bytes = to_le_bytes w64 ((old + add) % 2 ^ 64) })
put (Exchange bytes addr) (Bytes old) = Some (record { from = addr; bytes = bytes })
put (CompareExchange expected desired addr) (Bytes old) =
    if same_bytes old expected then Some (record { from = addr; bytes = desired }) else None
put _ _ = None

-- the address is, for the process, byte `at` of the segment
abbrev pub IsByte : Machine → ℕ → ℕ → ℕ → ℕ → Type 0
IsByte s pid addr id at =
    (w : Bool)
    × (place (pieces_of_caller (caller_of s pid)) addr ≡ Some (record { seg = id; at = at; writable = w }))

-- the event writes b to this byte, and writes no other value to it later
pub record Writes (s : Machine) (e : Event) (id at b : ℕ) : Type 0 where
  pub what : Put
  pub puts : put e.call e.reply ≡ Some what
  pub k : ℕ
  pub byte : slice_get what.bytes k ≡ Some b
  pub here : IsByte s e.pid (what.from + k) id at
  pub last : (j : ℕ) → k < j → j < length what.bytes → IsByte s e.pid (what.from + j) id at → ⊥

-- the event does not write this byte
abbrev pub Spares : Machine → Event → ℕ → ℕ → Type 0
Spares s e id at =
    (what : Put) → put e.call e.reply ≡ Some what → (k : ℕ) → k < length what.bytes
    → IsByte s e.pid (what.from + k) id at → ⊥

-- the event made the segment: its identifier was never issued before, and is the reply
abbrev pub Makes : Machine → Event → ℕ → Type 0
Makes s e id = (look s.table (pos id) ≡ Invalid) × (e.reply ≡ Id (pos id))

-- WHO WROTE IT LAST

-- after these events byte `at` of the segment is b: an event wrote b to it, and no later one wrote it; or b is 0, and no event
-- wrote it since the segment was made
abbrev pub IsLast : Opening → List Event → ℕ → ℕ → ℕ → Type 0
IsLast o before id at b =
    Since o (λ s e. Writes s e id at b) (λ s e. Spares s e id at) before
    ⊎ ((b ≡ 0) × Since o (λ s e. Makes s e id) (λ s e. Spares s e id at) before)

-- this holds for each byte of each segment that exists
abbrev pub Remembers : Opening → List Event → Machine → Type 0
Remembers o before s =
    (id at b : ℕ) (x : Segment) → Stands s id x → slice_get x.bytes at ≡ Some b → IsLast o before id at b

-- there are `len` bytes, and each is the last one written at its address
pub record AreLast
    (o : Opening) (before : List Event) (s : Machine) (pid addr len : ℕ) (bytes : List ℕ) : Type 0 where
  pub long : length bytes ≡ len
  pub each :
      (k b : ℕ) → slice_get bytes k ≡ Some b
      → (id : ℕ) × (at : ℕ) × IsByte s pid (addr + k) id at × IsLast o before id at b

-- a load and both exchanges return the bytes that were written last, and an xadd the number in them
pub record Recalls (o : Opening) (before : List Event) (s : Machine) (e : Event) (t : Machine) : Type 0 where
  pub load :
      (addr len : ℕ) (bytes : List ℕ) → e.call ≡ Load addr len → e.reply ≡ Bytes bytes
      → AreLast o before s e.pid addr len bytes
  pub xadd :
      (addr add old : ℕ) → e.call ≡ Xadd addr add → e.reply ≡ Number old
      → (bytes : List ℕ) × (old ≡ from_le_bytes w64 bytes) × AreLast o before s e.pid addr 8 bytes
  pub exchange :
      (addr : ℕ) (new bytes : List ℕ) → e.call ≡ Exchange new addr → e.reply ≡ Bytes bytes
      → AreLast o before s e.pid addr (length new) bytes
  pub compare_exchange :
      (addr : ℕ) (expected desired bytes : List ℕ) → e.call ≡ CompareExchange expected desired addr
      → e.reply ≡ Bytes bytes → AreLast o before s e.pid addr (length desired) bytes

-- THE LAW. At each moment each byte is its last writer's, and so is each byte that an event returns
pub record HasLastWriters (o : Opening) (events : List Event) (end : Machine) : Type 0 where
  pub bytes : Always (Remembers o) o events
  pub replies : EachTurn (Recalls o) o events
