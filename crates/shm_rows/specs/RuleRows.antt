-- Worked rows: what each rule of Linux changes, next to the profile's replies.
use Rattle.std.specs.Prelude.{ℕ, ◌+◌, ◌-◌, ◌^◌, pos, true, false, List, [], ◌∷◌}
use Rattle.shm_base.specs.declared.errno.Errno.TheVariants.{Eperm, Enomem, Eacces, Einval, Emfile}
use Rattle.shm_base.specs.declared.call.Call.TheVariants.{Set, Rmid, Lock, Unlock, Fork, Munmap, Mprotect}
use Rattle.shm_base.specs.declared.call.Reply.TheVariants.{Addr, Done, Refused}
use Rattle.shm_base.specs.declared.call.Process.{Process}
use Rattle.shm_base.specs.State.{Machine, start_of}
use Rattle.shm_base.specs.Bounds.{profile}
use Rattle.shm_rows.specs.GuestRows.{Go, At}
use Rattle.shm_rows.specs.Rows.{Answers, does, id, mode, creat, rdonly, rnd, remap, shmget, shmat, stat, shows, process, child}

-- the machine of the other rows, with these rules, this memlock and this limit of pieces
abbrev pub ruled : ℕ → ℕ → ℕ → List Process → Machine
ruled rules memlock pieces processes =
    start_of
    (record {
      limits = record (profile 65536 16 64 4 memlock) { most_pieces = pieces; rules = record { 0 = rules } };
      areas = 64 ∷ [];
      processes = processes;
    })

abbrev pub with_rules : ℕ → List Process → Machine
with_rules rules processes = ruled rules 1 256 processes

-- REMOVED_IS_INVALID
abbrev pub RemovedRule : Type 0
RemovedRule =
    Answers (with_rules 1 (process 1 100 100 ∷ []))
    (does 1 (shmget 0 1 (mode 6 0 0) 0) (id 0)
    ∷ does 1 (Rmid (pos 0)) Done
    ∷ does 1 (stat 0) (Refused Einval)
    ∷ does 1 (shmat 0 0 0) (Refused Einval)
    ∷ does 1 (Lock (pos 0)) (Refused Einval)
    ∷ [])

-- EXECUTE_IS_ASKED: if the mode has an execute bit in any class, the caller's class needs one; user 0 passes
abbrev pub ExecuteRule : Type 0
ExecuteRule =
    Answers (with_rules 2 (process 1 100 100 ∷ process 2 200 100 ∷ process 3 0 0 ∷ []))
    (does 1 (shmget 42 4096 (mode 6 5 0) creat) (id 0)
    ∷ does 1 (shmget 42 4096 (mode 6 0 0) 0) (id 0)
    ∷ does 1 (shmget 42 4096 (mode 6 0 1) 0) (Refused Eacces)
    ∷ does 2 (shmget 42 4096 (mode 0 1 0) 0) (id 0)
    ∷ does 3 (shmget 42 4096 (mode 7 0 0) 0) (id 0)
    ∷ does 1 (shmget 42 4097 (mode 7 0 0) 0) (Refused Einval)
    ∷ [])

-- the same calls in the profile
abbrev pub NoExecuteRow : Type 0
NoExecuteRow =
    Answers (with_rules 0 (process 1 100 100 ∷ []))
    (does 1 (shmget 42 4096 (mode 6 5 0) creat) (id 0)
    ∷ does 1 (shmget 42 4096 (mode 6 0 1) 0) (id 0)
    ∷ does 1 (shmat 0 0 32768) (Addr 0x40000000)
    ∷ does 1 (shmget 0 4096 (mode 6 0 0) 2048) (id 1)
    ∷ [])

-- FORK_MARKS: a fork sets the attach time, and the parent is the last pid
abbrev pub ForkRule : Type 0
ForkRule =
    Answers (with_rules 4 (process 1 100 100 ∷ child 2 ∷ []))
    (does 1 (shmget 0 4096 (mode 6 0 0) 0) (id 0)
    ∷ does 1 (shmat 0 0 0) (Addr 0x40000000)
    ∷ does 1 (Fork 2) Done
    ∷ does 2 (stat 0) (shows 0 4096 1 2 3 0)
    ∷ [])

-- REST_IS_ATTACHED: a remap that takes a part of an attach, and one that takes the rest of it
abbrev pub RestRule : Type 0
RestRule =
    Answers (with_rules 8 (process 1 100 100 ∷ []))
    (does 1 (shmget 0 8192 (mode 6 0 0) 0) (id 0)
    ∷ does 1 (shmat 0 0x50000000 0) (Addr 0x50000000)
    ∷ does 1 (shmget 0 4096 (mode 6 0 0) 0) (id 1)
    ∷ does 1 (shmat 1 0x50001000 remap) (Addr 0x50001000)
    ∷ does 1 (stat 0) (shows 0 8192 1 1 4 4)
    ∷ does 1 (shmat 1 0x50000000 remap) (Addr 0x50000000)
    ∷ does 1 (stat 0) (shows 0 8192 1 0 4 6)
    ∷ [])

-- REST_IS_ATTACHED: an unmap, and a protect that splits a piece; a protect of a whole piece attaches nothing
abbrev pub RestOfMappingsRule : Type 0
RestOfMappingsRule =
    Go (with_rules 8 (process 1 100 100 ∷ []))
    (At 1 (does 1 (shmget 0 8192 (mode 6 0 0) 0) (id 0))
    ∷ At 2 (does 1 (shmat 0 0x50000000 0) (Addr 0x50000000))
    ∷ At 3 (does 1 (Mprotect 0x50000000 8192 false) Done)
    ∷ At 4 (does 1 (stat 0) (shows 0 8192 1 1 2 0))
    ∷ At 5 (does 1 (Mprotect 0x50000000 4096 true) Done)
    ∷ At 6 (does 1 (stat 0) (shows 0 8192 1 2 5 0))
    ∷ At 7 (does 1 (Mprotect 0x50001000 4096 true) Done)
    ∷ At 8 (does 1 (stat 0) (shows 0 8192 1 2 5 0))
    ∷ At 9 (does 1 (Munmap 0x50001000 4096) Done)
    ∷ At 10 (does 1 (stat 0) (shows 0 8192 1 1 5 9))
    ∷ [])

-- END_IS_ENOMEM: a range beyond the end; one whose bytes reach 2^64; one that also meets a piece
abbrev pub EndRule : Type 0
EndRule =
    Answers (with_rules 16 (process 1 100 100 ∷ []))
    (does 1 (shmget 0 4097 (mode 6 0 0) 0) (id 0)
    ∷ does 1 (shmat 0 0x7fffffffe000 0) (Refused Enomem)
    ∷ does 1 (shmat 0 (2 ^ 64 - 8192) 0) (Refused Enomem)
    ∷ does 1 (shmat 0 0x7fffffffe000 remap) (Refused Enomem)
    ∷ does 1 (shmat 0 (2 ^ 64 - 4096) 0) (Refused Einval)
    ∷ does 1 (shmat 0 (2 ^ 64 - 4096) remap) (Refused Enomem)
    ∷ does 1 (shmat 0 0x7fffffffd000 0) (Addr 0x7fffffffd000)
    ∷ does 1 (shmat 0 0x7fffffffe000 0) (Refused Einval)
    ∷ does 1 (shmat 0 0x1000 0) (Refused Einval)
    ∷ [])

-- LOW_IS_EPERM: a range below the lowest address, for user 100 and user 0; one that meets a piece; an address that rounds to 0;
-- and a caller without permission
abbrev pub LowRule : Type 0
LowRule =
    Answers (with_rules 32 (process 1 100 100 ∷ process 2 0 0 ∷ process 3 200 200 ∷ []))
    (does 1 (shmget 0 8192 (mode 6 0 0) 0) (id 0)
    ∷ does 1 (shmat 0 0xf000 0) (Refused Eperm)
    ∷ does 1 (shmat 0 0xf000 remap) (Refused Eperm)
    ∷ does 2 (shmat 0 0xf000 0) (Refused Einval)
    ∷ does 3 (shmat 0 0xf000 0) (Refused Eacces)
    ∷ does 1 (shmat 0 0x10000 0) (Addr 0x10000)
    ∷ does 1 (shmat 0 0xf000 0) (Refused Einval)
    ∷ does 1 (shmat 0 0xfff rnd) (Refused Eperm)
    ∷ does 3 (shmat 0 0xfff (rnd + remap)) (Refused Einval)
    ∷ does 1 (shmat 0 0x7fffffffe000 0) (Refused Einval)
    ∷ [])

-- NO_LAST_USER: the permission is tested first
abbrev pub LastUserRule : Type 0
LastUserRule =
    Answers (with_rules 64 (process 1 100 100 ∷ process 2 200 200 ∷ []))
    (does 1 (shmget 0 4096 (mode 6 0 0) 0) (id 0)
    ∷ does 1 (Set (pos 0) 4294967295 100 384) (Refused Einval)
    ∷ does 1 (Set (pos 0) 100 4294967295 384) (Refused Einval)
    ∷ does 2 (Set (pos 0) 4294967295 100 384) (Refused Eperm)
    ∷ does 1 (Set (pos 0) 4294967294 100 384) Done
    ∷ [])

-- PIECES_ARE_ENOMEM, also for a remap that would leave no more pieces; in the profile such a remap is allowed
abbrev pub PiecesRule : Type 0
PiecesRule =
    Answers (ruled 128 1 1 (process 1 100 100 ∷ []))
    (does 1 (shmget 0 4096 (mode 6 0 0) 0) (id 0)
    ∷ does 1 (shmat 0 0 0) (Addr 0x40000000)
    ∷ does 1 (shmat 0 0 0) (Refused Enomem)
    ∷ does 1 (shmat 0 0x40000000 0) (Refused Einval)
    ∷ does 1 (shmat 0 0x40000000 remap) (Refused Enomem)
    ∷ [])

abbrev pub RemappedRow : Type 0
RemappedRow =
    Answers (ruled 0 1 1 (process 1 100 100 ∷ []))
    (does 1 (shmget 0 4096 (mode 6 0 0) 0) (id 0)
    ∷ does 1 (shmat 0 0 0) (Addr 0x40000000)
    ∷ does 1 (shmat 0 0 0) (Refused Emfile)
    ∷ does 1 (shmat 0 0x40000000 remap) (Addr 0x40000000)
    ∷ [])

-- LOCKS_BY_USER: each user may lock memlock pages, whoever unlocks them; user 0 may lock as many as the frames allow
abbrev pub LockerRule : Type 0
LockerRule =
    Answers (ruled 256 1 256 (process 1 100 100 ∷ process 2 200 200 ∷ process 3 0 0 ∷ []))
    (does 1 (shmget 0 4096 (mode 6 0 0) 0) (id 0)
    ∷ does 1 (shmget 0 4096 (mode 6 0 0) 0) (id 1)
    ∷ does 2 (shmget 0 4096 (mode 6 0 0) 0) (id 2)
    ∷ does 1 (Lock (pos 0)) Done
    ∷ does 1 (Lock (pos 0)) Done
    ∷ does 1 (Lock (pos 1)) (Refused Enomem)
    ∷ does 2 (Lock (pos 2)) Done
    ∷ does 3 (Lock (pos 1)) (Refused Enomem)
    ∷ does 3 (Unlock (pos 0)) Done
    ∷ does 1 (Lock (pos 1)) Done
    ∷ [])

-- with memlock 0 a user may lock nothing, not even a locked segment; user 0 has no limit of its own
abbrev pub NoLocksRule : Type 0
NoLocksRule =
    Answers (ruled 256 0 256 (process 1 100 100 ∷ process 2 200 200 ∷ process 3 0 0 ∷ []))
    (does 1 (shmget 0 4096 (mode 6 0 0) 0) (id 0)
    ∷ does 2 (Lock (pos 0)) (Refused Eperm)
    ∷ does 1 (Lock (pos 0)) (Refused Eperm)
    ∷ does 3 (Lock (pos 0)) Done
    ∷ does 1 (Lock (pos 0)) (Refused Eperm)
    ∷ does 1 (Unlock (pos 0)) Done
    ∷ [])

-- EXEC_IS_ASKED: an attach that asks for execution
abbrev pub ExecRule : Type 0
ExecRule =
    Answers (with_rules 512 (process 1 100 100 ∷ process 2 0 0 ∷ []))
    (does 1 (shmget 0 4096 (mode 6 0 0) 0) (id 0)
    ∷ does 1 (shmat 0 0 32768) (Refused Eacces)
    ∷ does 1 (shmat 0 0 0) (Addr 0x40000000)
    ∷ does 2 (shmat 0 0 32768) (Addr 0x40000000)
    ∷ does 1 (Set (pos 0) 100 100 (mode 5 0 0)) Done
    ∷ does 1 (shmat 0 0 (32768 + rdonly)) (Addr 0x40001000)
    ∷ [])

-- HUGE_IS_REFUSED: a segment that would be made, after the test of its size; user 0 and group 0; and without a reserve
abbrev pub HugeRule : Type 0
HugeRule =
    Answers (with_rules 1024 (process 1 100 100 ∷ process 2 0 0 ∷ process 3 100 0 ∷ []))
    (does 1 (shmget 42 4096 (mode 6 0 0) creat) (id 0)
    ∷ does 1 (shmget 42 4096 (mode 6 0 0) 2048) (id 0)
    ∷ does 1 (shmget 0 4096 (mode 6 0 0) 2048) (Refused Eperm)
    ∷ does 1 (shmget 0 0 (mode 6 0 0) 2048) (Refused Einval)
    ∷ does 1 (shmget 0 4096 (mode 6 0 0) (2048 + 4096)) (Refused Eperm)
    ∷ does 2 (shmget 0 4096 (mode 6 0 0) 2048) (Refused Enomem)
    ∷ does 3 (shmget 0 4096 (mode 6 0 0) 2048) (Refused Enomem)
    ∷ does 3 (shmget 0 4096 (mode 6 0 0) (2048 + 4096)) (id 1)
    ∷ [])
