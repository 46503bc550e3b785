-- The segment at an index, as `stat` shows it, and the other things that ipcs(1) asks.
use Rattle.std.specs.Prelude.{ℕ, ℤ, pos, ◌≡◌, ◌<◌, ◌⊎◌, true, false, not, is_some, if◌then◌else◌, List, Option, Some, None, Result, Ok, Err, slice_get}
use Rattle.shm_base.specs.declared.call.ShmidDs.{ShmidDs}
use Rattle.shm_base.specs.declared.errno.Errno.{Errno}
use Rattle.shm_base.specs.declared.errno.Errno.TheVariants.{Esrch, Einval, Eacces, Eidrm}
use Rattle.shm_base.specs.State.{Segment, Entry, Machine}
use Rattle.shm_base.specs.Identifier.{Look, Found, Removed, Invalid, destroyed_at, identifier, look}
use Rattle.shm_base.specs.Permission.{grants}
use Rattle.shm_base.specs.Segments.{segment_count, reserved}
use Rattle.shm_base.specs.Callers.{Caller, caller_of}
use Rattle.shm_base.specs.Step.{shown}
use Rattle.shm_segments.specs.Table.{segment_in}
use Rattle.shm_fault.specs.Store.{StoreView}
use Rattle.shm_fault.specs.Store as store
use Rattle.shm_life.specs.declared.listing.ShmInfo.{ShmInfo}

abbrev pub listed_segment : Machine → ℕ → Option Segment → Option (ℤ × ShmidDs)
listed_segment s id None = None
listed_segment s id (Some x) = Some (pos id, shown s id x)

abbrev pub listed_entry : Machine → ℕ → Option Entry → Option (ℤ × ShmidDs)
listed_entry s i None = None
listed_entry s i (Some e) = listed_segment s (identifier i e.destroyed) e.segment

-- the segment's identifier, and what `stat` shows of it; none if the index has no segment
abbrev pub segment_at : Machine → ℕ → Option (ℤ × ShmidDs)
segment_at s i = listed_entry s i (slice_get s.table i)

-- what `stat` shows of a segment that was looked up; removed or invalid if there is none, under any rules
abbrev pub shown_look : Machine → Look → Result ShmidDs Errno
shown_look s (Found i x) = Ok (shown s (identifier i (destroyed_at s.table i)) x)
shown_look s Removed = Err Eidrm
shown_look s Invalid = Err Einval

-- the segment of an identifier, as `stat` shows it
abbrev pub segment_of : Machine → ℤ → Result ShmidDs Errno
segment_of s id = shown_look s (look s.table id)

-- the highest index that has a segment; 0 if there is none
pub record IsHighest (table : List Entry) (index : ℕ) : Type 0 where
  pub there : (index ≡ 0) ⊎ (is_some (segment_in (slice_get table index)) ≡ true)
  pub above : (i : ℕ) → index < i → segment_in (slice_get table i) ≡ None

-- sums over all segments; pages that were never touched are neither resident nor swapped
pub record Sums (m : Machine) (memory : StoreView) (info : ShmInfo) : Type 0 where
  pub used_ids : info.used_ids ≡ segment_count m.table
  pub pages : info.pages ≡ reserved m.table
  pub resident : info.resident ≡ store.resident memory
  pub swapped : info.swapped ≡ store.swapped memory

abbrev pub stat_segment : Machine → Caller → ℕ → Option Segment → Result (ℤ × ShmidDs) Errno
stat_segment s c id None = Err Einval
stat_segment s c id (Some x) =
    if not (grants c.cred x.perm (record { read = true; write = false; execute = false })) then Err Eacces else
    Ok (pos id, shown s id x)

abbrev pub stat_entry : Machine → Caller → ℕ → Option Entry → Result (ℤ × ShmidDs) Errno
stat_entry s c i None = Err Einval
stat_entry s c i (Some e) = stat_segment s c (identifier i e.destroyed) e.segment

abbrev pub stat_for : Machine → ℕ → Option Caller → Result (ℤ × ShmidDs) Errno
stat_for s i None = Err Esrch
stat_for s i (Some c) = stat_entry s c i (slice_get s.table i)

-- the segment at an index for a process that needs read permission
abbrev pub stat_at : Machine → ℕ → ℕ → Result (ℤ × ShmidDs) Errno
stat_at s pid i = stat_for s i (caller_of s pid)
