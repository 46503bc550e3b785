-- Permission: nobody reaches a segment without it.
use Rattle.std.specs.Prelude.{◌≡◌, ◌≤◌, ◌<◌, ◌⊎◌, ℕ, ◌+◌, ◌*◌, ◌%◌, ℤ, pos, Bool, true, false, not, List, [], ◌∷◌, ◌++◌, length, Option, Some, None, slice_get}
use Rattle.shm_base.specs.declared.owner.Cred.{Cred}
use Rattle.shm_base.specs.declared.owner.Perm.{Perm}
use Rattle.shm_base.specs.declared.owner.Want.{Want}
use Rattle.shm_base.specs.declared.flags.GetFlags.{GetFlags}
use Rattle.shm_base.specs.declared.flags.AtFlags.{AtFlags}
use Rattle.shm_base.specs.Calls.{ProcessCall}
use Rattle.shm_base.specs.declared.call.Call.TheVariants.{Shmget, Shmat, Set, Rmid, Lock, Unlock, Load, Store, Xadd, Exchange, CompareExchange, Fork, Swapoff, Mprotect, Setuid}
use Rattle.shm_base.specs.declared.call.Call.TheVariants as calls
use Rattle.shm_base.specs.declared.call.ShmidDs.{ShmidDs}
use Rattle.shm_base.specs.declared.call.Reply.TheVariants.{Id, Addr, Done}
use Rattle.shm_base.specs.declared.call.Reply.TheVariants as replies
use Rattle.shm_base.specs.declared.call.Event.{Event}
use Rattle.shm_base.specs.State.{Segment, Piece, Unborn, Live, Runner, Machine, Opening, pages_in}
use Rattle.shm_base.specs.Permission.{grants, wish_of}
use Rattle.shm_base.specs.Access.{end_of, covers}
use Rattle.shm_base.specs.Callers.{Caller, caller_of}
use Rattle.shm_base.specs.Step.{at_wish, is_rdonly}
use Rattle.shm_base.specs.History.{is_refusal, IsHistory}
use Rattle.shm_laws.specs.Standing.{Stands, HasPiece, EachPiece, EachMove, Always}
use Rattle.shm_base.specs.declared.paging.TheConstants.{PAGE_SIZE}

-- p is a part of q: at each of its addresses it has the same page, and both allow the same writes and the same protections
pub record IsPart (p q : Piece) : Type 0 where
  pub seg : p.seg ≡ q.seg
  pub writable : p.writable ≡ q.writable
  pub may_write : p.may_write ≡ q.may_write
  pub pages : p.base + PAGE_SIZE * q.first_page ≡ q.base + PAGE_SIZE * p.first_page
  pub from : q.base ≤ p.base
  pub to : end_of p ≤ end_of q

-- the event is a successful shmat of the process; the piece is the whole segment at a page boundary; the
-- process had read permission, and write permission if the piece is writable
pub record IsGranted (s : Machine) (e : Event) (pid : ℕ) (p : Piece) : Type 0 where
  pub own : e.pid ≡ pid
  pub addr : ℕ
  pub flags : AtFlags
  pub call : e.call ≡ Shmat (pos p.seg) addr flags
  pub reply : e.reply ≡ Addr p.base
  pub asked : p.writable ≡ not (is_rdonly flags)
  pub may_write : p.may_write ≡ p.writable
  pub caller : Caller
  pub live : caller_of s pid ≡ Some caller
  pub segment : Segment
  pub stands : Stands s p.seg segment
  pub permitted :
      let execute = (at_wish s flags).execute in
      grants caller.cred segment.perm (record { read = true; write = p.writable; execute = execute }) ≡ true
  pub page : p.base % PAGE_SIZE ≡ 0
  pub whole : (p.first_page ≡ 0) × (p.pages ≡ pages_in segment)

-- both pieces have the same page of one segment at each address that is in both
pub record ShareTheirPages (p q : Piece) : Type 0 where
  pub seg : p.seg ≡ q.seg
  pub pages : p.base + PAGE_SIZE * q.first_page ≡ q.base + PAGE_SIZE * p.first_page

-- The event is an mprotect of the process, and the piece is of the attach of q: it may be writable under the same condition, and
-- it is writable only if it may be or q was. At each of its addresses the process had the same page before
pub record IsProtected (s : Machine) (e : Event) (pid : ℕ) (p q : Piece) : Type 0 where
  pub own : e.pid ≡ pid
  pub addr : ℕ
  pub len : ℕ
  pub writable : Bool
  pub call : e.call ≡ Mprotect addr len writable
  pub attach : ShareTheirPages p q
  pub may_write : p.may_write ≡ q.may_write
  pub limited : p.writable ≡ true → (p.may_write ≡ true) ⊎ (q.writable ≡ true)
  pub there :
      (address : ℕ) → covers p address ≡ true
      → (r : Piece) × HasPiece s pid r × (covers r address ≡ true) × ShareTheirPages p r

-- the event is a fork that created the process as a child, and its parent had the piece
pub record IsInherited (s : Machine) (e : Event) (pid : ℕ) (p : Piece) : Type 0 where
  pub call : e.call ≡ Fork pid
  pub reply : e.reply ≡ Done
  pub parent : HasPiece s e.pid p

-- Where a piece comes from, after these events: the last event granted it; or the process had it, or a piece that it is a part
-- of, before; or the last event protected a part of an attach of the process; or the process was born of one that had it. A
-- piece from before has an origin of the same kind
pub data GoesBack (o : Opening) : List Event → ℕ → Piece → Type 0 where
  Granted :
      (before : List Event) (s : Machine) (e : Event) (pid : ℕ) (p : Piece) → IsHistory o before s
      → IsGranted s e pid p → GoesBack o (before ++ e ∷ []) pid p
  Kept :
      (before : List Event) (s : Machine) (e : Event) (pid : ℕ) (p q : Piece) → IsHistory o before s
      → HasPiece s pid q → IsPart p q → GoesBack o before pid q → GoesBack o (before ++ e ∷ []) pid p
  Protected :
      (before : List Event) (s : Machine) (e : Event) (pid : ℕ) (p q : Piece) → IsHistory o before s
      → HasPiece s pid q → IsProtected s e pid p q → GoesBack o before pid q → GoesBack o (before ++ e ∷ []) pid p
  Inherited :
      (before : List Event) (s : Machine) (e : Event) (pid : ℕ) (p : Piece) → IsHistory o before s
      → IsInherited s e pid p → GoesBack o before e.pid p → GoesBack o (before ++ e ∷ []) pid p

-- the bytes that an access touches, from an address on
pub record Reach : Type 0 where
  pub from : ℕ
  pub len : ℕ
  pub writes : Bool

abbrev pub reach : ProcessCall → Option Reach
reach (Load addr len) = Some (record { from = addr; len = len; writes = false })
reach (Store bytes addr) = Some (record { from = addr; len = length bytes; writes = true })
reach (Xadd addr add) = Some (record { from = addr; len = 8; writes = true })
reach (Exchange bytes addr) = Some (record { from = addr; len = length bytes; writes = true })
reach (CompareExchange expected desired addr) = Some (record { from = addr; len = length desired; writes = true })
reach _ = None

-- an access that was not refused touches only bytes in pieces of the process; a write, only bytes in writable ones
abbrev pub StaysInside : Machine → Event → Type 0
StaysInside s e =
    is_refusal e.reply ≡ false → (r : Reach) → reach e.call ≡ Some r → (k : ℕ) → k < r.len
    → (p : Piece) × HasPiece s e.pid p × (covers p (r.from + k) ≡ true)
    × (r.writes ≡ true → p.writable ≡ true)

-- the segment that a call would change or remove
abbrev pub controlled : ProcessCall → Option ℤ
controlled (Set id uid gid mode) = Some id
controlled (Rmid id) = Some id
controlled (Lock id) = Some id
controlled (Unlock id) = Some id
controlled _ = None

-- the user is the owner, the creator, or user 0
abbrev pub IsOwner : Cred → Perm → Type 0
IsOwner cred perm = (cred.uid ≡ 0) ⊎ ((cred.uid ≡ perm.uid) ⊎ (cred.uid ≡ perm.cuid))

pub record OwnerAsks (s : Machine) (pid : ℕ) (id : ℤ) : Type 0 where
  pub caller : Caller
  pub live : caller_of s pid ≡ Some caller
  pub number : ℕ
  pub named : id ≡ pos number
  pub segment : Segment
  pub stands : Stands s number segment
  pub owner : IsOwner caller.cred segment.perm

-- the segment exists, and its mode permits the process the access
pub record MayAsk (s : Machine) (pid id : ℕ) (want : Want) : Type 0 where
  pub caller : Caller
  pub live : caller_of s pid ≡ Some caller
  pub segment : Segment
  pub stands : Stands s id segment
  pub permitted : grants caller.cred segment.perm want ≡ true

-- the process belongs to user 0
abbrev pub IsUserZero : Machine → ℕ → Type 0
IsUserZero s pid = (caller : Caller) × (caller_of s pid ≡ Some caller) × (caller.cred.uid ≡ 0)

-- an event touches no byte outside the pieces of its process; only owners succeed at set, rmid, lock and
-- unlock, and only user 0 at swapoff; only a process that may read succeeds at stat, and at a shmget of an
-- existing segment only one with the permissions that its mode asks for
pub record KeepsOut (s : Machine) (e : Event) (t : Machine) : Type 0 where
  pub inside : StaysInside s e
  pub owner : (id : ℤ) → controlled e.call ≡ Some id → e.reply ≡ Done → OwnerAsks s e.pid id
  pub stat :
      (id : ℤ) (d : ShmidDs) → e.call ≡ calls.Stat id → e.reply ≡ replies.Stat d
      → (n : ℕ) × (id ≡ pos n) × MayAsk s e.pid n (record { read = true; write = false; execute = false })
  pub get :
      (key size mode id : ℕ) (flags : GetFlags) (x : Segment) → e.call ≡ Shmget key size mode flags
      → e.reply ≡ Id (pos id)
      → Stands s id x → MayAsk s e.pid id (wish_of s.limits.rules mode)
  pub swapoff : (area : ℕ) → e.call ≡ Swapoff area → e.reply ≡ Done → IsUserZero s e.pid

-- the event is a fork that created the process, and its parent had these credentials
pub record IsBornWith (s : Machine) (e : Event) (unborn : Runner) (cred : Cred) : Type 0 where
  pub life : unborn.life ≡ Unborn
  pub call : e.call ≡ Fork unborn.pid
  pub reply : e.reply ≡ Done
  pub parent : Caller
  pub live : caller_of s e.pid ≡ Some parent
  pub inherits : cred ≡ parent.cred

-- the event is a setuid of the process, which asked for these credentials
pub record IsAskedFor (e : Event) (process : Runner) (cred : Cred) : Type 0 where
  pub own : e.pid ≡ process.pid
  pub call : e.call ≡ Setuid cred.uid cred.gid
  pub reply : e.reply ≡ Done

-- a process that is live after an event had the same credentials before it, or asked for them, or is born with them
abbrev pub KeepsCredentials : Machine → Event → Machine → Type 0
KeepsCredentials s e t =
    (k : ℕ) (now : Runner) (cred : Cred) → slice_get t.runners k ≡ Some now → now.life ≡ Live cred
    → (old : Runner) × (slice_get s.runners k ≡ Some old) × (old.pid ≡ now.pid)
    × ((old.life ≡ Live cred) ⊎ (IsAskedFor e old cred ⊎ IsBornWith s e old cred))

-- THE LAW. At each moment each piece descends from a shmat that had permission; each event keeps out those
-- without permission, and gives no process other credentials than it asked for
pub record NoWayIn (o : Opening) (events : List Event) (end : Machine) : Type 0 where
  pub pieces : Always (λ before s. EachPiece (GoesBack o before) s) o events
  pub moves : EachMove KeepsOut o events end
  pub credentials : EachMove KeepsCredentials o events end
