-- Worked histories in which the laws apply. They are checked by computation.
use Rattle.std.specs.Prelude.{◌≡◌, ℕ, ◌+◌, ◌*◌, ◌^◌, ◌==◌, pos, Bool, true, false, List, [], ◌∷◌, length, take, Option, None, Some, option_map, slice_get}
use Rattle.shm_base.specs.Space.{new_piece}
use Rattle.shm_base.specs.declared.errno.Errno.TheVariants.{Eperm, Enoent, Eacces, Einval, Eidrm, Sigbus, Sigsegv}
use Rattle.shm_base.specs.declared.call.Call.TheVariants.{Shmdt, Set, Rmid, Load, Store, Xadd, Exchange, CompareExchange, Fork, Exec}
use Rattle.shm_base.specs.declared.call.Reply.TheVariants.{Addr, Bytes, Number, Done, Refused}
use Rattle.shm_base.specs.declared.call.Event.{Event}
use Rattle.shm_base.specs.Bounds.{profile}
use Rattle.shm_base.specs.State.{Segment, Entry, Piece, Runner, Machine, Opening, start_of}
use Rattle.shm_base.specs.History.{IsHistory, own_part}
use Rattle.shm_rows.specs.Rows.{Answers, does, id, mode, creat, rdonly, remap, shmget, shmat, stat, process, child}
use Rattle.shm_base.specs.Identifier.{Look, Found, Removed, Invalid, look}
use Rattle.shm_base.specs.Access.{bytes_at}
use Rattle.shm_base.specs.Segments.{attach_count}
use Rattle.shm_base.specs.Step.{step}
use Rattle.shm_laws.specs.Standing.{IsGone}
use Rattle.shm_laws.specs.Replay.{without_failures}
use Rattle.shm_laws.specs.Pieces.{piece_count}
use Rattle.shm_laws.specs.Writing.{IsByte}
use Rattle.shm_laws.specs.Isolation.{DifferIn}

-- they are legal, and lead to a machine
abbrev pub IsLegal : Opening → List Event → Type 0
IsLegal o events = (end : Machine) × IsHistory o events end

abbrev pub is_found : Look → Bool
is_found (Found i x) = true
is_found Removed = false
is_found Invalid = false

-- two processes of one user
abbrev pub opening : Opening
opening =
    record {
      limits = profile 65536 16 64 4 1;
      areas = 64 ∷ [];
      processes = process 1 100 100 ∷ process 2 100 100 ∷ [];
    }

-- REPLAY: a pager fails a store, and a load shows that nothing was stored

abbrev pub a_store_fails : List Event
a_store_fails =
    does 1 (shmget 0 4096 (mode 6 0 0) 0) (id 0)
    ∷ does 1 (shmat 0 0 0) (Addr 0x40000000)
    ∷ does 1 (Store (7 ∷ []) 0x40000000) Done
    ∷ does 1 (Store (9 ∷ []) 0x40000000) (Refused Sigbus)
    ∷ does 1 (Load 0x40000000 1) (Bytes (7 ∷ []))
    ∷ []

abbrev pub ReplayWorked : Type 0
ReplayWorked = IsLegal opening a_store_fails × Answers (start_of opening) (without_failures a_store_fails)

-- REMOVAL AND IDENTITY: a marked segment exists while process 2 has a piece of it, and is destroyed with that
-- piece; one without pieces is destroyed at once; and their indexes are used again under new identifiers

abbrev pub two_go : List Event
two_go =
    does 1 (shmget 0 4096 (mode 6 0 0) 0) (id 0)
    ∷ does 1 (shmget 0 8192 (mode 6 0 0) 0) (id 1)
    ∷ does 2 (shmat 0 0 0) (Addr 0x40000000)
    ∷ does 1 (Rmid (pos 0)) Done
    ∷ does 1 (Rmid (pos 1)) Done
    ∷ does 1 (stat 1) (Refused Eidrm)
    ∷ does 2 (Load 0x40000000 1) (Bytes (0 ∷ []))
    ∷ does 2 Exec Done
    ∷ does 1 (stat 0) (Refused Eidrm)
    ∷ does 1 (shmget 0 4096 (mode 6 0 0) 0) (id 32768)
    ∷ []

-- the machine after the events
abbrev pub ends_from : ℕ → Machine → List Event → Machine
ends_from n s [] = s
ends_from n s (e ∷ es) = ends_from (n + 1) (step s n e.pid e.call).state es

abbrev pub after : Opening → List Event → ℕ → Machine
after o events n = ends_from 1 (start_of o) (take n events)

abbrev pub after_two_go : ℕ → Machine
after_two_go n = after opening two_go n

-- it is legal; segment 0 is marked and has a piece before the exec, and is destroyed after it; segment 1 is
-- destroyed by its rmid; and the old identifier of segment 0 names none when its index is used again
abbrev pub RemovalWorked : Type 0
RemovalWorked =
    IsLegal opening two_go
    × (option_map (λ (e : Entry). option_map (λ (x : Segment). x.dest) e.segment)
    (slice_get (after_two_go 7).table 0)
    ≡ Some (Some true))
    × (attach_count (after_two_go 7).runners 0 ≡ 1)
    × IsGone (after_two_go 5) 1 × IsGone (after_two_go 8) 0 × IsGone (after_two_go 10) 0
    × (is_found (look (after_two_go 10).table (pos 32768)) ≡ true)

-- PIECES: process 2 has one of segment 0, which exists, from its shmat to its exec, and none of segment 1,
-- which is destroyed
abbrev pub PiecesWorked : Type 0
PiecesWorked =
    (is_found (look (after_two_go 7).table (pos 0)) ≡ true)
    × (attach_count (after_two_go 7).runners 1 ≡ 0)
    × (attach_count (after_two_go 2).runners 0 ≡ 0)
    × (attach_count (after_two_go 3).runners 0 ≡ 1)
    × (piece_count (after_two_go 7) 2 0 ≡ 1)
    × (attach_count (after_two_go 8).runners 0 ≡ 0)

-- PERMISSION: another user may read; its process attaches for reading and has a child; the segment's owner
-- then takes the permission back, which matters only for the next shmat

abbrev pub three : Opening
three = record opening { processes = process 1 100 100 ∷ process 2 200 200 ∷ child 3 ∷ [] }

abbrev pub others_read : List Event
others_read =
    does 1 (shmget 0 4096 (mode 6 0 4) 0) (id 0)
    ∷ does 2 (shmat 0 0 0) (Refused Eacces)
    ∷ does 2 (shmat 0 0 rdonly) (Addr 0x40000000)
    ∷ does 2 (Fork 3) Done
    ∷ does 3 (Store (7 ∷ []) 0x40000000) (Refused Sigsegv)
    ∷ does 3 (Rmid (pos 0)) (Refused Eperm)
    ∷ does 1 (Set (pos 0) 100 100 (mode 6 0 0)) Done
    ∷ does 3 (Load 0x40000000 1) (Bytes (0 ∷ []))
    ∷ does 3 (shmat 0 0 rdonly) (Refused Eacces)
    ∷ []

abbrev pub pieces_now : Opening → List Event → ℕ → ℕ → Option (List Piece)
pieces_now o events n k = option_map (λ (r : Runner). r.pieces) (slice_get (after o events n).runners k)

abbrev pub read_only : Piece
read_only = new_piece 0 0x40000000 1 false

-- it is legal; nobody has a piece before the successful shmat; the child has the piece of its parent, as
-- read-only as that one, up to the end
abbrev pub PermissionWorked : Type 0
PermissionWorked =
    IsLegal three others_read
    × (pieces_now three others_read 2 1 ≡ Some [])
    × (pieces_now three others_read 3 1 ≡ Some (read_only ∷ []))
    × (pieces_now three others_read 3 2 ≡ Some [])
    × (pieces_now three others_read 4 2 ≡ Some (read_only ∷ []))
    × (pieces_now three others_read 9 2 ≡ Some (read_only ∷ []))

-- THE LAST WRITER: a store over the seam of two segments, one over its last byte by another process, an
-- xadd, an exchange, and two compares with exchange of which the first finds what it expects

abbrev pub two_write : List Event
two_write =
    does 1 (shmget 0 4096 (mode 6 0 0) 0) (id 0)
    ∷ does 1 (shmget 0 4096 (mode 6 0 0) 0) (id 1)
    ∷ does 1 (shmat 0 0 0) (Addr 0x40000000)
    ∷ does 1 (shmat 1 0 0) (Addr 0x40001000)
    ∷ does 2 (shmat 0 0 0) (Addr 0x40000000)
    ∷ does 1 (Store (1 ∷ 2 ∷ 3 ∷ []) 0x40000ffe) Done
    ∷ does 2 (Store (9 ∷ []) 0x40000fff) Done
    ∷ does 2 (Xadd 0x40000ff8 256) (Number (2 ^ 48 + 9 * 2 ^ 56))
    ∷ does 1 (Load 0x40000ff8 9) (Bytes (0 ∷ 1 ∷ 0 ∷ 0 ∷ 0 ∷ 0 ∷ 1 ∷ 9 ∷ 3 ∷ []))
    ∷ does 2 (Exchange (7 ∷ []) 0x40000ff9) (Bytes (1 ∷ []))
    ∷ does 1 (CompareExchange (7 ∷ []) (8 ∷ []) 0x40000ff9) (Bytes (7 ∷ []))
    ∷ does 1 (CompareExchange (7 ∷ []) (6 ∷ []) 0x40000ff9) (Bytes (8 ∷ []))
    ∷ does 2 (Load 0x40000ff9 1) (Bytes (8 ∷ []))
    ∷ []

-- it is legal; the third byte of the first store is byte 0 of segment 1, and the byte of the second store replaces the first
-- store's second byte; that byte is its last writer's, the load shows what the xadd wrote before it, and a byte that nobody wrote
-- is 0; the compare that does not find what it expects leaves the byte of the one before it
abbrev pub WritingWorked : Type 0
WritingWorked =
    IsLegal opening two_write
    × IsByte (after opening two_write 5) 1 0x40001000 1 0
    × IsByte (after opening two_write 5) 1 0x40000fff 0 4095
    × IsByte (after opening two_write 6) 2 0x40000fff 0 4095
    × (slice_get (bytes_at (after opening two_write 6).table 0) 4095 ≡ Some 2)
    × (slice_get (bytes_at (after opening two_write 7).table 0) 4095 ≡ Some 9)
    × (slice_get (bytes_at (after opening two_write 9).table 1) 0 ≡ Some 3)
    × (slice_get (bytes_at (after opening two_write 9).table 1) 1 ≡ Some 0)
    × (slice_get (bytes_at (after opening two_write 11).table 0) 4089 ≡ Some 8)
    × (slice_get (bytes_at (after opening two_write 12).table 0) 4089 ≡ Some 8)

-- ISOLATION: process 2 stores one of two bytes into its own segment and reads it back; process 1 has a piece of another segment

abbrev pub stores_own : ℕ → List Event
stores_own byte =
    does 1 (shmget 0 4096 (mode 6 0 0) 0) (id 0)
    ∷ does 2 (shmget 0 4096 (mode 6 0 0) 0) (id 1)
    ∷ does 1 (shmat 0 0 0) (Addr 0x40000000)
    ∷ does 2 (shmat 1 0 0) (Addr 0x40000000)
    ∷ does 2 (Store (byte ∷ []) 0x40000000) Done
    ∷ does 1 (Load 0x40000000 1) (Bytes (0 ∷ []))
    ∷ does 2 (Load 0x40000000 1) (Bytes (byte ∷ []))
    ∷ does 1 (Shmdt 0x40000000) Done
    ∷ []

-- both are legal; the ends differ in the stored byte, and only in bytes of segment 1; and process 1 had the
-- same replies
abbrev pub IsolationWorked : Type 0
IsolationWorked =
    IsLegal opening (stores_own 5) × IsLegal opening (stores_own 6)
    × (slice_get (bytes_at (after opening (stores_own 5) 8).table 1) 0 ≡ Some 5)
    × (slice_get (bytes_at (after opening (stores_own 6) 8).table 1) 0 ≡ Some 6)
    × DifferIn (λ id. id == 1) (after opening (stores_own 5) 8) (after opening (stores_own 6) 8)
    × (own_part 1 (stores_own 5) ≡ own_part 1 (stores_own 6))

-- KEYS AND SIZE: process 2 finds a segment by its key and attaches it; after the segment is marked the key finds nothing, and a
-- shmget that may create makes another

abbrev pub one_key : List Event
one_key =
    does 1 (shmget 5 4097 (mode 6 0 0) creat) (id 0)
    ∷ does 2 (shmget 5 0 (mode 6 0 0) 0) (id 0)
    ∷ does 2 (shmat 0 0 0) (Addr 0x40000000)
    ∷ does 1 (Rmid (pos 0)) Done
    ∷ does 1 (shmget 5 0 (mode 6 0 0) 0) (Refused Enoent)
    ∷ does 1 (shmget 5 4096 (mode 6 0 0) creat) (id 1)
    ∷ []

abbrev pub key_in : Look → Option ℕ
key_in (Found i x) = Some x.key
key_in Removed = None
key_in Invalid = None

abbrev pub after_one_key : ℕ → Machine
after_one_key n = after opening one_key n

-- it is legal; segment 0 has the key until it is marked, and then segment 1 has it
abbrev pub KeysWorked : Type 0
KeysWorked =
    IsLegal opening one_key
    × (key_in (look (after_one_key 3).table (pos 0)) ≡ Some 5)
    × (key_in (look (after_one_key 4).table (pos 0)) ≡ Some 0)
    × (key_in (look (after_one_key 6).table (pos 1)) ≡ Some 5)

-- 4097 bytes need two pages, from the shmget on, also while the segment is marked
abbrev pub SizeWorked : Type 0
SizeWorked =
    (length (bytes_at (after_one_key 1).table 0) ≡ 8192)
    × (length (bytes_at (after_one_key 6).table 0) ≡ 8192)
    × (length (bytes_at (after_one_key 6).table 1) ≡ 4096)

-- ADDRESS SPACES: a shmat into the second page of a piece is refused, and with SHM_REMAP it takes that page

abbrev pub one_remaps : List Event
one_remaps =
    does 1 (shmget 0 8192 (mode 6 0 0) 0) (id 0)
    ∷ does 1 (shmget 0 4096 (mode 6 0 0) 0) (id 1)
    ∷ does 1 (shmat 0 0 0) (Addr 0x40000000)
    ∷ does 1 (shmat 1 0x40001000 0) (Refused Einval)
    ∷ does 1 (shmat 1 0x40001000 remap) (Addr 0x40001000)
    ∷ []

abbrev pub page_of : ℕ → ℕ → Piece
page_of segment base = new_piece segment base 1 true

-- it is legal, and the process has the first page of segment 0, followed by the page of segment 1
abbrev pub SpacesWorked : Type 0
SpacesWorked =
    IsLegal opening one_remaps
    × (pieces_now opening one_remaps 5 0 ≡ Some (page_of 0 0x40000000 ∷ page_of 1 0x40001000 ∷ []))
