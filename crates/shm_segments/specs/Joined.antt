-- The flat machine's table, joined from rows without bytes and from bytes that are kept elsewhere.
use Rattle.std.specs.Prelude.{ℕ, ◌≡◌, ◌*◌, ◌%◌, ◌≤◌, Bool, true, false, ◌&&◌, ◌==◌, if◌then◌else◌, List, length, Option, Some, None, option_map, sum_by}
use Rattle.shm_base.specs.State.{Segment, Entry as FlatEntry, pages_of}
use Rattle.shm_ids.specs.declared.table.Entry.{Entry}
use Rattle.shm_ids.specs.declared.table.Row.{Row}
use Rattle.shm_ids.specs.Table.{identifier, entry_at}
use Rattle.shm_ids.specs.Flat.{flat_table}
use Rattle.shm_segments.specs.declared.head.Head.{Head}
use Rattle.shm_fault.specs.Held.{Held, find_held, bytes_of}
use Rattle.shm_base.specs.declared.bounds.TheConstants.{INDEXES}
use Rattle.shm_base.specs.declared.paging.TheConstants.{PAGE_SIZE}

-- the segment of a row that has these bytes
abbrev pub segment_of : Row Head → List ℕ → Segment
segment_of r bytes =
    record {
      key = r.key;
      perm = r.value.perm;
      size = r.value.size;
      cpid = r.value.cpid;
      lpid = r.value.lpid;
      dest = r.value.dest;
      locked = r.value.locked;
      locker = r.value.locker;
      atime = r.value.atime;
      dtime = r.value.dtime;
      ctime = r.value.ctime;
      bytes = bytes;
    }

-- the part of a segment that its head has: all but its key and its bytes
abbrev pub head_of : Segment → Head
head_of x =
    record {
      perm = x.perm;
      size = x.size;
      cpid = x.cpid;
      lpid = x.lpid;
      dest = x.dest;
      locked = x.locked;
      locker = x.locker;
      atime = x.atime;
      dtime = x.dtime;
      ctime = x.ctime;
    }

-- the head after a user locked the segment, or after it was unlocked
abbrev pub relocked_head : Option ℕ → Head → Head
relocked_head None h = record h { locked = false; locker = 0 }
relocked_head (Some uid) h = if h.locked then h else record h { locked = true; locker = uid }

-- the segment of a row, with the bytes that are held for its identifier
abbrev pub whole : List Held → ℕ → Row Head → Segment
whole hs id r = segment_of r (bytes_of hs id)

-- the flat machine's table
abbrev pub joined_table : List Held → List (Entry Head) → List FlatEntry
joined_table hs rows = flat_table (whole hs) rows

-- the row of the live segment with an identifier
abbrev pub live_row : List (Entry Head) → ℕ → Option (Row Head)
live_row rows id =
    if identifier (id % INDEXES) (entry_at rows (id % INDEXES)).destroyed == id
    then (entry_at rows (id % INDEXES)).row
    else None

abbrev pub pages_in_row : Option (Row Head) → ℕ
pages_in_row None = 0
pages_in_row (Some r) = pages_of r.value.size

abbrev pub locked_in_row : Option (Row Head) → ℕ
locked_in_row None = 0
locked_in_row (Some r) = if r.value.locked then pages_of r.value.size else 0

-- the pages of all segments, counted over the rows
abbrev pub pages_of_rows : List (Entry Head) → ℕ
pages_of_rows rows = sum_by (λ (e : Entry Head). pages_in_row e.row) rows

abbrev pub locked_of_rows : List (Entry Head) → ℕ
locked_of_rows rows = sum_by (λ (e : Entry Head). locked_in_row e.row) rows

abbrev pub locked_by_in_row : ℕ → Option (Row Head) → ℕ
locked_by_in_row uid None = 0
locked_by_in_row uid (Some r) = if r.value.locked && (r.value.locker == uid) then pages_of r.value.size else 0

-- the pages of the segments that this user locked
abbrev pub locked_by_of_rows : ℕ → List (Entry Head) → ℕ
locked_by_of_rows uid rows = sum_by (λ (e : Entry Head). locked_by_in_row uid e.row) rows

-- what both a row and a held segment know of a segment
pub record Shape : Type 0 where
  pub locked : Bool
  pub size : ℕ

abbrev pub shape_held : Held → Shape
shape_held g = record { locked = g.locked; size = length g.bytes }

abbrev pub shape_row : Row Head → Shape
shape_row r = record { locked = r.value.locked; size = PAGE_SIZE * pages_of r.value.size }

-- the held segments are exactly the live ones, and agree with their rows on the lock and the pages
pub record Agree (hs : List Held) (rows : List (Entry Head)) : Type 0 where
  pub few : length rows ≤ INDEXES
  pub same : (id : ℕ) → option_map shape_held (find_held hs id) ≡ option_map shape_row (live_row rows id)
