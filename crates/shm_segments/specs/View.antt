-- What contracts see of the segments: the flat machine's table, and the store that holds its bytes.
use Rattle.std.specs.Prelude.{ℕ, ℤ, ◌≡◌, ◌≢◌, ◌≤◌, ◌+◌, true, false, List, option_map, length, Some}
use Rattle.shm_base.specs.Identifier.{Invalid, find_key}
use Rattle.shm_base.specs.Segments.{reserved}
use Rattle.shm_base.specs.State.{Segment, Entry, pages_of}
use Rattle.shm_base.specs.declared.bounds.TheConstants.{MOST_SHMALL, MOST_SHMMAX}
use Rattle.shm_fault.specs.Held.{Held, find_held, holds_locked, pages_in_store}
use Rattle.shm_slots.specs.Cause.{GoesOn}
use Rattle.shm_slots.specs.View.{swap_slots}
use Rattle.shm_fault.specs.Store.{StoreView, held}
use Rattle.shm_fault.specs.Steps.{LockedPagesStay}
use Rattle.shm_fault.specs.Sound.{IsStoreSound}
use Rattle.shm_segments.specs.Table.{live, next_id}
use Rattle.shm_segments.specs.declared.head.Head.{Head}

pub record SegmentsView : Type 0 where
  pub table : List Entry
  pub memory : StoreView

-- a live segment, as the store holds it
abbrev pub as_held : ℕ → Segment → Held
as_held id x = record { id = id; locked = x.locked; bytes = x.bytes }

-- the held segments are exactly the live ones, with their bytes and locks
abbrev pub ShowsTable : List Entry → StoreView → Type 0
ShowsTable table m = (id : ℕ) → find_held (held m) id ≡ option_map (as_held id) (live table id)

-- the store is sound, and shows the table, whose pages it has
pub record IsTableExact (table : List Entry) (m : StoreView) : Type 0 where
  pub sound : IsStoreSound m
  pub shows : ShowsTable table m
  pub pages : pages_in_store (held m) ≡ reserved table

-- what every step other than a lock keeps of the store
pub record KeepsMemory (before after : StoreView) : Type 0 where
  pub kept : LockedPagesStay before after
  pub locks : (id : ℕ) → holds_locked (held after) id ≡ true → holds_locked (held before) id ≡ true
  pub goes_on : GoesOn before.swap after.swap
  pub frames : length after.frames ≡ length before.frames

-- a segment may be created under this identifier: the next one; no other segment has its key, and the areas have its pages
pub record MayCreate (s : SegmentsView) (id : ℤ) (key : ℕ) (head : Head) : Type 0 where
  pub next : next_id s.table ≡ Some id
  pub absent : key ≢ 0 → find_key s.table key ≡ Invalid
  pub size : (1 ≤ head.size) × (head.size ≤ MOST_SHMMAX)
  pub loose : head.locked ≡ false
  pub few : reserved s.table ≤ MOST_SHMALL
  pub room : reserved s.table + pages_of head.size ≤ swap_slots s.memory.swap
