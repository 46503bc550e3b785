-- Pieces: a segment with a piece exists, and its pieces are counted.
use Rattle.std.specs.Prelude.{◌≡◌, ◌≢◌, ◌≤◌, ◌<◌, ◌⊎◌, ℕ, ◌+◌, ◌*◌, ◌==◌, ℤ, pos, Bool, true, false, if◌then◌else◌, List}
use Rattle.shm_base.specs.declared.flags.AtFlags.{AtFlags}
use Rattle.shm_base.specs.declared.call.ShmidDs.{ShmidDs}
use Rattle.shm_base.specs.Calls.{ProcessCall}
use Rattle.shm_base.specs.declared.call.Call.TheVariants.{Shmat, Shmdt, Fork, Exec, Exit, Munmap, Mprotect}
use Rattle.shm_base.specs.declared.call.Call.TheVariants as calls
use Rattle.shm_base.specs.declared.call.Reply.TheVariants.{Addr, Done}
use Rattle.shm_base.specs.declared.call.Reply.TheVariants as replies
use Rattle.shm_base.specs.declared.call.Event.{Event}
use Rattle.shm_base.specs.State.{Segment, Machine, Opening, pages_in}
use Rattle.shm_base.specs.Mapping.{rounded}
use Rattle.shm_base.specs.Space.{occupied, pieces_of}
use Rattle.shm_base.specs.Segments.{attach_count}
use Rattle.shm_base.specs.Processes.{pieces_of_caller}
use Rattle.shm_base.specs.Callers.{caller_of}
use Rattle.shm_base.specs.Step.{is_remap}
use Rattle.shm_base.specs.History.{is_refusal}
use Rattle.shm_base.specs.declared.paging.TheConstants.{PAGE_SIZE}
use Rattle.shm_laws.specs.Standing.{Stands, EachMove}

-- a segment of which a process has a piece exists
abbrev pub PiecesNameWhatStands : Machine → Type 0
PiecesNameWhatStands s = (id : ℕ) → 1 ≤ attach_count s.runners id → (x : Segment) × Stands s id x

-- only a segment that exists gets a process's first piece, and after the event a segment with pieces exists
pub record GivesPieces (s : Machine) (e : Event) (t : Machine) : Type 0 where
  pub first :
      (id : ℕ) → attach_count s.runners id ≡ 0
      → (attach_count t.runners id ≡ 0) ⊎ ((x : Segment) × Stands s id x)
  pub after : PiecesNameWhatStands t

-- how many pieces of the segment the process has
abbrev pub piece_count : Machine → ℕ → ℕ → ℕ
piece_count s pid id = pieces_of id (pieces_of_caller (caller_of s pid))

-- whether the call may change the pieces of a process
abbrev pub hands_pieces : ProcessCall → Bool
hands_pieces (Shmat id addr flags) = true
hands_pieces (Shmdt addr) = true
hands_pieces (Fork child) = true
hands_pieces Exec = true
hands_pieces Exit = true
hands_pieces (Munmap addr len) = true
hands_pieces (Mprotect addr len writable) = true
hands_pieces _ = false

-- the process has no piece where the segment's pages would lie
pub record IsFreeFor (s : Machine) (pid id base : ℕ) : Type 0 where
  pub segment : Segment
  pub stands : Stands s id segment
  pub free : occupied (pieces_of_caller (caller_of s pid)) base (base + PAGE_SIZE * pages_in segment) ≡ false

-- whether the call may change pieces although it is refused
abbrev pub stops_midway : ProcessCall → Bool
stops_midway (Mprotect addr len writable) = true
stops_midway _ = false

-- only the pieces of this process changed
abbrev pub ChangesItsOwn : Machine → ℕ → Machine → Type 0
ChangesItsOwn s pid t =
    (k : ℕ) → attach_count t.runners k + piece_count s pid k ≡ attach_count s.runners k + piece_count t pid k

-- the attach count of stat is the number of pieces; a shmat without SHM_REMAP, or one into a free range, adds one and changes
-- no other count; a fork adds as many as the parent has; exec and exit subtract those of the process; a shmdt
-- subtracts pieces of one segment; a munmap leaves the process no piece in its range, and changes only its pieces; so does an
-- mprotect, refused or not, after which each segment has a piece if it had one; and nothing else changes a count
pub record CountsPieces (s : Machine) (e : Event) (t : Machine) : Type 0 where
  pub shown :
      (id : ℤ) (d : ShmidDs) → e.call ≡ calls.Stat id → e.reply ≡ replies.Stat d
      → (n : ℕ) × (id ≡ pos n) × (d.nattch ≡ attach_count s.runners n)
  pub attached :
      (id addr base : ℕ) (flags : AtFlags) → e.call ≡ Shmat (pos id) addr flags → e.reply ≡ Addr base
      → (is_remap flags ≡ false) ⊎ IsFreeFor s e.pid id base
      → (k : ℕ) → attach_count t.runners k ≡ attach_count s.runners k + (if id == k then 1 else 0)
  pub forked :
      (child : ℕ) → e.call ≡ Fork child → e.reply ≡ Done → (k : ℕ)
      → attach_count t.runners k ≡ attach_count s.runners k + piece_count s e.pid k
  pub left :
      (e.call ≡ Exec) ⊎ (e.call ≡ Exit) → e.reply ≡ Done → (k : ℕ)
      → attach_count t.runners k + piece_count s e.pid k ≡ attach_count s.runners k
  pub detached :
      (addr : ℕ) → e.call ≡ Shmdt addr → e.reply ≡ Done
      → (id : ℕ) × (attach_count t.runners id < attach_count s.runners id)
      × ((k : ℕ) → k ≢ id → attach_count t.runners k ≡ attach_count s.runners k)
  pub unmapped :
      (addr len : ℕ) → e.call ≡ Munmap addr len → e.reply ≡ Done
      → ChangesItsOwn s e.pid t
      × (occupied (pieces_of_caller (caller_of t e.pid)) addr (addr + rounded len) ≡ false)
  pub protected :
      (addr len : ℕ) (w : Bool) → e.call ≡ Mprotect addr len w
      → ChangesItsOwn s e.pid t
      × ((k : ℕ) → 1 ≤ attach_count s.runners k → 1 ≤ attach_count t.runners k)
  pub quiet :
      (hands_pieces e.call ≡ false) ⊎ ((is_refusal e.reply ≡ true) × (stops_midway e.call ≡ false)) → (k : ℕ)
      → attach_count t.runners k ≡ attach_count s.runners k

-- THE LAW. Each event gives and counts pieces as above, and at the end every segment with a piece exists
pub record PiecesAreOfSegments (o : Opening) (events : List Event) (end : Machine) : Type 0 where
  pub moves : EachMove GivesPieces o events end
  pub pieces : PiecesNameWhatStands end
  pub counts : EachMove CountsPieces o events end
