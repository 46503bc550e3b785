-- Definitions over the flat machine's table that contracts use.
use Rattle.std.specs.Prelude.{slice_get, slice_set, replicate, option_map, ℤ, ◌≡◌, ◌≤◌, ◌+◌, ◌*◌, ◌/◌, ◌%◌, ◌==◌, ℕ, pos, Bool, true, nat_lt, if◌then◌else◌, is_some, List, length, Option, Some, None}
use Rattle.shm_base.specs.declared.errno.Errno.{Errno}
use Rattle.shm_base.specs.declared.errno.Errno.TheVariants.{Eidrm, Einval}
use Rattle.shm_base.specs.declared.paging.Span.{Span}
use Rattle.shm_base.specs.State.{Segment, Entry, pages_of}
use Rattle.shm_base.specs.Identifier as flat
use Rattle.shm_base.specs.Access.{Place, bytes_at, stored}
use Rattle.shm_base.specs.Spans.{InPage, page_of}
use Rattle.shm_base.specs.Segments.{pages_held}
use Rattle.shm_base.specs.Locking.{locks_as, unlocked}
use Rattle.shm_segments.specs.Joined.{segment_of}
use Rattle.shm_segments.specs.declared.head.Head.{Head}
use Rattle.shm_segments.specs.declared.head.Found.{Found}
use Rattle.shm_base.specs.declared.bounds.TheConstants.{INDEXES, MOST_SHMMAX}
use Rattle.shm_base.specs.declared.paging.TheConstants.{PAGE_SIZE}

-- the segment that was found in a table
abbrev pub segment_seen : List Entry → Found → Segment
segment_seen table f = segment_of (record { key = f.key; value = f.head }) (bytes_at table f.seg)

-- that segment is live, under its identifier
pub record IsFound (table : List Entry) (f : Found) : Type 0 where
  pub entry :
      slice_get table (f.seg % INDEXES)
      ≡ Some (record { destroyed = f.seg / INDEXES; segment = Some (segment_seen table f) })
  pub id : f.id ≡ pos f.seg
  pub long : length (bytes_at table f.seg) ≡ PAGE_SIZE * pages_of f.head.size
  pub size : (1 ≤ f.head.size) × (f.head.size ≤ MOST_SHMMAX)

-- the flat machine's answer about an identifier or a key that was found
abbrev pub look_of : List Entry → Found → flat.Look
look_of table f = flat.Found (f.seg % INDEXES) (segment_seen table f)

-- the error of a lookup that finds nothing
abbrev pub refused_look : flat.Look → Option Errno
refused_look (flat.Found i x) = None
refused_look flat.Removed = Some Eidrm
refused_look flat.Invalid = Some Einval

abbrev pub live_in : ℕ → Option Entry → Option Segment
live_in id None = None
live_in id (Some e) = if e.destroyed == id / INDEXES then e.segment else None

-- the live segment with an identifier
abbrev pub live : List Entry → ℕ → Option Segment
live table id = live_in id (slice_get table (id % INDEXES))

abbrev pub IsLive : List Entry → ℕ → Type 0
IsLive table id = is_some (live table id) ≡ true

abbrev pub segment_in : Option Entry → Option Segment
segment_in None = None
segment_in (Some e) = e.segment

-- how many pages it has; none if it is not live
abbrev pub pages_at : List Entry → ℕ → ℕ
pages_at table id = pages_held (live table id)

-- it has this page
abbrev pub page_there : List Entry → ℕ → ℕ → Bool
page_there table id page = nat_lt page (pages_at table id)

-- a span lies in a page of a live segment
abbrev pub SpanFits : List Entry → Span → Type 0
SpanFits table p = InPage p × (page_there table p.seg (page_of p) ≡ true)

-- the identifier of the next segment; none if no index is free
abbrev pub next_id : List Entry → Option ℤ
next_id table = option_map (λ i. pos (flat.identifier i (flat.destroyed_at table i))) (flat.free_index table)

-- the table with a new segment at an index
abbrev pub created : List Entry → ℕ → ℕ → Head → List Entry
created table i key h =
    flat.with_segment table i
    (segment_of (record { key = key; value = h }) (replicate (PAGE_SIZE * pages_of h.size) 0))

-- the result of making a segment, and the table afterwards; none if no index is free
abbrev pub made : List Entry → ℕ → Head → Option (ℤ × List Entry)
made table key h =
    option_map (λ i. (pos (flat.identifier i (flat.destroyed_at table i)), created table i key h))
    (flat.free_index table)

-- the table after a segment was destroyed
abbrev pub destroyed : List Entry → ℕ → List Entry
destroyed table id = slice_set table (id % INDEXES) (record { destroyed = id / INDEXES + 1; segment = None })

-- a segment with other owners and another mode, as the step's `sets` makes it
abbrev pub reowned : ℕ → ℕ → ℕ → ℕ → Segment → Segment
reowned n uid gid mode y =
    record y { perm = record y.perm { uid = uid; gid = gid; mode = mode % 512 }; ctime = n }

-- a segment after a user locked it, or after it was unlocked
abbrev pub relocked : Option ℕ → Segment → Segment
relocked None y = unlocked y
relocked (Some uid) y = locks_as uid y

-- the table after bytes were put at these places, or none were
abbrev pub table_with : List Entry → List Place → Option (List ℕ) → List Entry
table_with table ps None = table
table_with table ps (Some bytes) = stored table ps bytes
