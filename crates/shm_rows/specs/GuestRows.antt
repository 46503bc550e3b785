-- Worked rows: changes that a host makes between calls, and the replies that calls give afterwards.
use Rattle.std.specs.Prelude.{pos, ◌≡◌, ℕ, ◌*◌, ◌-◌, ◌^◌, true, false, List, [], ◌∷◌, Option, Some, None, Result, Ok, Err}
use Rattle.shm_base.specs.declared.errno.Errno.TheVariants.{Esrch, Eacces, Eagain, Einval, Enomem, Eidrm, Sigsegv}
use Rattle.shm_base.specs.declared.call.Event.{Event}
use Rattle.shm_base.specs.declared.call.Process.{Process}
use Rattle.shm_base.specs.declared.call.Call.TheVariants.{Shmdt, Rmid, Fork, Exit, Load, Store, Munmap, Mprotect, Setuid}
use Rattle.shm_base.specs.declared.call.Reply.TheVariants.{Addr, Bytes, Done, Refused}
use Rattle.shm_base.specs.declared.guest.AdmitRefusal.{AdmitRefusal}
use Rattle.shm_base.specs.declared.guest.AdmitRefusal.TheVariants.{BadPid, PidTaken, TooManyProcesses}
use Rattle.shm_base.specs.declared.guest.DismissRefusal.{DismissRefusal}
use Rattle.shm_base.specs.declared.guest.DismissRefusal.TheVariants.{NoProcess, StillLive}
use Rattle.shm_base.specs.declared.guest.HostRange.{HostRange}
use Rattle.shm_base.specs.declared.guest.RangeRefusal.{RangeRefusal}
use Rattle.shm_base.specs.declared.guest.RangeRefusal.TheVariants.{BadRange, RangeTaken, NoRange}
use Rattle.shm_base.specs.Bounds.{profile}
use Rattle.shm_base.specs.State.{Machine, start_of}
use Rattle.shm_base.specs.Step.{step}
use Rattle.shm_base.specs.Guest.{admits, dismisses, releases, reserves}
use Rattle.shm_rows.specs.Rows.{does, id, mode, rdonly, shmget, shmat, stat, shows, process, child, of_processes}

-- a call at its time, or a change by the host, with its reply or its refusal
pub data Deed : Type 0 where
  At : (n : ℕ) → (event : Event) → Deed
  Admits : (process : Process) → (refusal : Option AdmitRefusal) → Deed
  Dismisses : (pid : ℕ) → (refusal : Option DismissRefusal) → Deed
  Reserves : (range : HostRange) → (refusal : Option RangeRefusal) → Deed
  Releases : (range : HostRange) → (refusal : Option RangeRefusal) → Deed

abbrev pub refusal_of : {E : Type 0} → Result Machine E → Option E
refusal_of (Ok s) = None
refusal_of (Err e) = Some e

abbrev pub state_of : {E : Type 0} → Machine → Result Machine E → Machine
state_of s (Ok t) = t
state_of s (Err e) = s

-- the deed with the machine's answer instead of its own
abbrev pub answered : Machine → Deed → Deed
answered s (At n e) = At n (record e { reply = (step s n e.pid e.call).reply })
answered s (Admits p refusal) = Admits p (refusal_of (admits s p))
answered s (Dismisses pid refusal) = Dismisses pid (refusal_of (dismisses s pid))
answered s (Reserves r refusal) = Reserves r (refusal_of (reserves s r))
answered s (Releases r refusal) = Releases r (refusal_of (releases s r))

abbrev pub after : Machine → Deed → Machine
after s (At n e) = (step s n e.pid e.call).state
after s (Admits p refusal) = state_of s (admits s p)
after s (Dismisses pid refusal) = state_of s (dismisses s pid)
after s (Reserves r refusal) = state_of s (reserves s r)
after s (Releases r refusal) = state_of s (releases s r)

abbrev pub all_answered : Machine → List Deed → List Deed
all_answered s [] = []
all_answered s (d ∷ ds) = answered s d ∷ all_answered (after s d) ds

-- the machine answers each deed as the row says
abbrev pub Go : Machine → List Deed → Type 0
Go s ds = all_answered s ds ≡ ds

-- a machine that has at most two processes
abbrev pub of_two : List Process → Machine
of_two processes =
    start_of
    (record {
      limits = record (profile 65536 16 64 4 1) { most_processes = 2 };
      areas = 64 ∷ [];
      processes = processes;
    })

-- another user's process uses a pid again; an ended process counts until it is dismissed
abbrev pub PidRow : Type 0
PidRow =
    Go (of_two (process 1 100 100 ∷ []))
    (Admits (process 0 200 200) (Some BadPid)
    ∷ Admits (process 2147483648 200 200) (Some BadPid)
    ∷ Admits (process 1 200 200) (Some PidTaken)
    ∷ Admits (process 2 200 200) None
    ∷ Admits (process 2 200 200) (Some PidTaken)
    ∷ Admits (process 3 200 200) (Some TooManyProcesses)
    ∷ At 1 (does 2 (shmget 0 4096 (mode 6 0 0) 0) (id 0))
    ∷ At 2 (does 2 (shmat 0 0 0) (Addr 0x40000000))
    ∷ Dismisses 2 (Some StillLive)
    ∷ At 3 (does 2 Exit Done)
    ∷ At 4 (does 2 (stat 0) (Refused Esrch))
    ∷ Admits (process 3 200 200) (Some TooManyProcesses)
    ∷ Admits (process 2 100 100) None
    ∷ At 5 (does 2 (stat 0) (Refused Eacces))
    ∷ At 6 (does 2 (Load 0x40000000 1) (Refused Sigsegv))
    ∷ At 7 (does 2 Exit Done)
    ∷ Dismisses 2 None
    ∷ Dismisses 2 (Some NoProcess)
    ∷ Admits (process 3 200 200) None
    ∷ At 8 (does 3 (shmat 0 0 0) (Addr 0x40000000))
    ∷ [])

-- a child that joins is forked, or dismissed before it is born
abbrev pub ChildRow : Type 0
ChildRow =
    Go (of_processes (process 1 100 100 ∷ []))
    (At 1 (does 1 (shmget 0 4096 (mode 6 0 0) 0) (id 0))
    ∷ At 2 (does 1 (shmat 0 0 0) (Addr 0x40000000))
    ∷ At 3 (does 1 (Fork 2) (Refused Eagain))
    ∷ Admits (child 2) None
    ∷ Admits (child 3) None
    ∷ Admits (child 3) (Some PidTaken)
    ∷ At 4 (does 2 (Load 0x40000000 1) (Refused Esrch))
    ∷ At 5 (does 1 (Fork 2) Done)
    ∷ At 6 (does 2 (Load 0x40000000 1) (Bytes (0 ∷ [])))
    ∷ Dismisses 3 None
    ∷ At 7 (does 1 (Fork 3) (Refused Eagain))
    ∷ At 8 (does 1 Exit Done)
    ∷ Dismisses 1 None
    ∷ At 9 (does 2 (Load 0x40000000 1) (Bytes (0 ∷ [])))
    ∷ [])

-- with other credentials a process may do what was refused before, and it keeps its pieces
abbrev pub UserRow : Type 0
UserRow =
    Go (of_processes (process 1 100 100 ∷ process 2 200 200 ∷ child 3 ∷ []))
    (At 1 (does 1 (shmget 0 4096 (mode 6 0 0) 0) (id 0))
    ∷ At 2 (does 2 (stat 0) (Refused Eacces))
    ∷ At 0 (does 2 (Setuid 100 100) Done)
    ∷ At 3 (does 2 (shmat 0 0 0) (Addr 0x40000000))
    ∷ At 4 (does 2 (stat 0) (shows 0 4096 2 1 3 0))
    ∷ At 0 (does 2 (Setuid 200 200) Done)
    ∷ At 5 (does 2 (Load 0x40000000 1) (Bytes (0 ∷ [])))
    ∷ At 6 (does 2 (shmat 0 0 0) (Refused Eacces))
    ∷ At 0 (does 3 (Setuid 0 0) (Refused Esrch))
    ∷ At 0 (does 4 (Setuid 0 0) (Refused Esrch))
    ∷ [])

-- times come from the host's clock, and several calls may have the same one
abbrev pub TimeRow : Type 0
TimeRow =
    Go (of_processes (process 1 100 100 ∷ []))
    (At 1 (does 1 (shmget 0 4096 (mode 6 0 0) 0) (id 0))
    ∷ At 1700000000 (does 1 (shmat 0 0 0) (Addr 0x40000000))
    ∷ At 1700000000 (does 1 (stat 0) (shows 0 4096 1 1 1700000000 0))
    ∷ At 1600000000 (does 1 (Shmdt 0x40000000) Done)
    ∷ At 1600000001 (does 1 (stat 0) (shows 0 4096 1 0 1700000000 1600000000))
    ∷ [])

-- PARTS OF AN ATTACH

-- the bytes of this many pages
abbrev pub bytes_in : ℕ → ℕ
bytes_in pages = 4096 * pages

-- a process, which may have at most `most` pieces, has attached a segment of eight pages
abbrev pub eight_pages : ℕ → Machine
eight_pages most =
    after
    (after (record (of_processes (process 1 100 100 ∷ [])) { limits = record (profile 65536 16 64 4 1) { most_pieces = most } })
    (At 1 (does 1 (shmget 0 32768 (mode 6 0 0) 0) (id 0))))
    (At 2 (does 1 (shmat 0 0x50000000 0) (Addr 0x50000000)))

-- A part with another protection is a piece of its own. A border moves if a part joins its neighbour; whole pieces never join
abbrev pub ProtectRow : Type 0
ProtectRow =
    Go (eight_pages 256)
    (At 1 (does 1 (Mprotect 0x50001000 (bytes_in 2) false) Done)
    ∷ At 3 (does 1 (stat 0) (shows 0 32768 1 3 2 0))
    ∷ At 4 (does 1 (Store (7 ∷ []) 0x50001000) (Refused Sigsegv))
    ∷ At 5 (does 1 (Load 0x50001000 1) (Bytes (0 ∷ [])))
    ∷ At 1 (does 1 (Mprotect 0x50001000 (bytes_in 1) true) Done)
    ∷ At 6 (does 1 (stat 0) (shows 0 32768 1 3 2 0))
    ∷ At 7 (does 1 (Store (7 ∷ []) 0x50001FFF) Done)
    ∷ At 8 (does 1 (Store (7 ∷ []) 0x50002000) (Refused Sigsegv))
    ∷ At 1 (does 1 (Mprotect 0x50001000 (bytes_in 2) true) Done)
    ∷ At 9 (does 1 (stat 0) (shows 0 32768 1 3 2 0))
    ∷ At 10 (does 1 (Store (7 ∷ []) 0x50002000) Done)
    ∷ At 1 (does 1 (Mprotect 0x50000000 (bytes_in 8) false) Done)
    ∷ At 11 (does 1 (stat 0) (shows 0 32768 1 3 2 0))
    ∷ At 1 (does 1 (Mprotect 0x50006000 1 true) Done)
    ∷ At 12 (does 1 (stat 0) (shows 0 32768 1 5 2 0))
    ∷ At 1 (does 1 (Mprotect 0x50005000 (bytes_in 1) true) Done)
    ∷ At 13 (does 1 (stat 0) (shows 0 32768 1 5 2 0))
    ∷ At 1 (does 1 (Mprotect 0x50007000 (bytes_in 1) false) Done)
    ∷ At 14 (does 1 (Shmdt 0x50000000) Done)
    ∷ At 15 (does 1 (stat 0) (shows 0 32768 1 0 2 14))
    ∷ [])

-- a protect that stops at a hole or at a piece that may not be written has changed everything below it
abbrev pub StoppedRow : Type 0
StoppedRow =
    Go (eight_pages 256)
    (At 1 (does 1 (Mprotect 0x50000800 0 false) (Refused Einval))
    ∷ At 1 (does 1 (Mprotect 0x50000000 0 false) Done)
    ∷ At 1 (does 1 (Mprotect 0x60000000 1 false) (Refused Enomem))
    ∷ At 1 (does 1 (Mprotect 0x50000000 (2 ^ 64 - 1) false) (Refused Enomem))
    ∷ At 1 (does 2 (Mprotect 0x50000000 1 false) (Refused Esrch))
    ∷ At 3 (does 1 (stat 0) (shows 0 32768 1 1 2 0))
    ∷ At 1 (does 1 (Mprotect 0x50000000 (bytes_in 9) false) (Refused Enomem))
    ∷ At 4 (does 1 (Store (7 ∷ []) 0x50007000) (Refused Sigsegv))
    ∷ At 1 (does 1 (Mprotect 0x50000000 (bytes_in 8) true) Done)
    ∷ At 1 (does 1 (Mprotect 0x50004000 (bytes_in 4) false) Done)
    ∷ At 5 (does 1 (shmat 0 0x50008000 rdonly) (Addr 0x50008000))
    ∷ At 6 (does 1 (stat 0) (shows 0 32768 1 3 5 0))
    ∷ At 1 (does 1 (Mprotect 0x50006000 (bytes_in 4) true) (Refused Eacces))
    ∷ At 7 (does 1 (stat 0) (shows 0 32768 1 4 5 0))
    ∷ At 8 (does 1 (Store (7 ∷ []) 0x50005FFF) (Refused Sigsegv))
    ∷ At 9 (does 1 (Store (7 ∷ []) 0x50006000) Done)
    ∷ At 10 (does 1 (Store (7 ∷ []) 0x50008000) (Refused Sigsegv))
    ∷ [])

-- an unmap takes a range out, and a marked segment is destroyed with its last piece
abbrev pub UnmapRow : Type 0
UnmapRow =
    Go (eight_pages 256)
    (At 3 (does 1 (Munmap 0x50000800 4096) (Refused Einval))
    ∷ At 4 (does 1 (Munmap 0x50000000 0) (Refused Einval))
    ∷ At 5 (does 1 (Munmap 0x7FFFFFFFE000 8192) (Refused Einval))
    ∷ At 6 (does 2 (Munmap 0x50000000 4096) (Refused Esrch))
    ∷ At 7 (does 1 (Munmap 0x60000000 4096) Done)
    ∷ At 8 (does 1 (stat 0) (shows 0 32768 1 1 2 0))
    ∷ At 9 (does 1 (Munmap 0x50001000 1) Done)
    ∷ At 10 (does 1 (stat 0) (shows 0 32768 1 2 2 9))
    ∷ At 11 (does 1 (Load 0x50001000 1) (Refused Sigsegv))
    ∷ At 12 (does 1 (Load 0x50002000 1) (Bytes (0 ∷ [])))
    ∷ At 13 (does 1 (Rmid (pos 0)) Done)
    ∷ At 14 (does 1 (Munmap 0x4FFFF000 (bytes_in 2)) Done)
    ∷ At 15 (does 1 (stat 0) (shows 512 32768 1 1 2 14))
    ∷ At 16 (does 1 (Munmap 0x50001001 4096) (Refused Einval))
    ∷ At 16 (does 1 (Munmap 0x50001000 (bytes_in 7)) Done)
    ∷ At 17 (does 1 (stat 0) (Refused Eidrm))
    ∷ [])

-- with at most two pieces, the middle of a piece can be neither unmapped nor protected
abbrev pub FewPiecesRow : Type 0
FewPiecesRow =
    Go (eight_pages 2)
    (At 1 (does 1 (Mprotect 0x50001000 (bytes_in 1) false) (Refused Enomem))
    ∷ At 3 (does 1 (stat 0) (shows 0 32768 1 1 2 0))
    ∷ At 4 (does 1 (Store (7 ∷ []) 0x50001000) Done)
    ∷ At 5 (does 1 (Munmap 0x50001000 (bytes_in 1)) Done)
    ∷ At 6 (does 1 (Munmap 0x50003000 (bytes_in 1)) (Refused Enomem))
    ∷ At 7 (does 1 (stat 0) (shows 0 32768 1 2 2 5))
    ∷ [])

-- RESERVED RANGES

-- the pages of a process from one address up to another
abbrev pub range : ℕ → ℕ → ℕ → HostRange
range pid from to = record { pid = pid; from = from; to = to }

-- two processes, of which the first has attached a segment of eight pages at 0x50000000
abbrev pub eight_of_two : Machine
eight_of_two =
    after
    (after (of_processes (process 1 100 100 ∷ process 2 100 100 ∷ [])) (At 1 (does 1 (shmget 0 32768 (mode 6 0 0) 0) (id 0))))
    (At 2 (does 1 (shmat 0 0x50000000 0) (Addr 0x50000000)))

-- an attach at an address in a reserved range is refused until the range is released; another process is not concerned
abbrev pub ReservedRow : Type 0
ReservedRow =
    Go eight_of_two
    (Reserves (range 1 0x60000000 0x60002000) None
    ∷ At 3 (does 1 (shmat 0 0x60001000 0) (Refused Einval))
    ∷ At 4 (does 1 (shmat 0 0x5FFF9000 0) (Refused Einval))
    ∷ At 5 (does 1 (shmat 0 0x5FFF8000 0) (Addr 0x5FFF8000))
    ∷ At 6 (does 2 (shmat 0 0x60001000 0) (Addr 0x60001000))
    ∷ At 7 (does 1 (Munmap 0x60000000 8192) Done)
    ∷ At 8 (does 1 (shmat 0 0x60001000 0) (Refused Einval))
    ∷ Releases (range 1 0x60000000 0x60002000) None
    ∷ At 9 (does 1 (shmat 0 0x60001000 0) (Addr 0x60001000))
    ∷ [])

-- a chosen address passes the reserved ranges, in whichever order they were reserved
abbrev pub BesideRow : Type 0
BesideRow =
    Go eight_of_two
    (Reserves (range 1 0x40010000 0x40012000) None
    ∷ Reserves (range 1 0x40000000 0x40001000) None
    ∷ At 3 (does 1 (shmat 0 0 0) (Addr 0x40001000))
    ∷ At 4 (does 1 (shmat 0 0 0) (Addr 0x40012000))
    ∷ Releases (range 1 0x40000000 0x40001000) None
    ∷ At 5 (does 1 (shmat 0 0 0) (Addr 0x4001A000))
    ∷ At 6 (does 2 (shmat 0 0 0) (Addr 0x40000000))
    ∷ Reserves (range 2 0x40008000 0x7FFFFFFFF000) None
    ∷ At 7 (does 2 (shmat 0 0 0) (Refused Enomem))
    ∷ [])

-- a remap covers a reserved range, and the range stays reserved
abbrev pub CoveredRow : Type 0
CoveredRow =
    Go eight_of_two
    (Reserves (range 1 0x60000000 0x60002000) None
    ∷ At 3 (does 1 (shmat 0 0x60000000 16384) (Addr 0x60000000))
    ∷ At 4 (does 1 (Shmdt 0x60000000) Done)
    ∷ At 5 (does 1 (shmat 0 0x60000000 0) (Refused Einval))
    ∷ [])

-- a range is whole pages that can be attached, and meets no piece and no other range of its process; it is released as it was
-- reserved, whether the process lives or not
abbrev pub RangeRow : Type 0
RangeRow =
    Go eight_of_two
    (Reserves (range 1 0x60000000 0x60000000) (Some BadRange)
    ∷ Reserves (range 1 0x60000800 0x60002000) (Some BadRange)
    ∷ Reserves (range 1 0x60000000 0x60000800) (Some BadRange)
    ∷ Reserves (range 1 0xF000 0x11000) (Some BadRange)
    ∷ Reserves (range 1 0x7FFFFFFFE000 0x800000000000) (Some BadRange)
    ∷ Reserves (range 1 0x50007000 0x50009000) (Some RangeTaken)
    ∷ Reserves (range 2 0x50007000 0x50009000) None
    ∷ Reserves (range 2 0x50008000 0x5000A000) (Some RangeTaken)
    ∷ Reserves (range 1 0x50008000 0x5000A000) None
    ∷ Releases (range 1 0x50008000 0x50009000) (Some NoRange)
    ∷ Releases (range 2 0x50008000 0x5000A000) (Some NoRange)
    ∷ At 3 (does 1 Exit Done)
    ∷ Releases (range 1 0x50008000 0x5000A000) None
    ∷ Reserves (range 3 0x60000000 0x60002000) None
    ∷ [])
