-- The invariant of heads, bytes and counts.
use Rattle.std.specs.Prelude.{◌≡◌, ◌≤◌, ℕ, List, Some}
use Rattle.shm_ids.specs.declared.table.Entry.{Entry}
use Rattle.shm_ids.specs.declared.table.Row.{Row}
use Rattle.shm_fault.specs.Apart.{AreHeldApart}
use Rattle.shm_fault.specs.Held.{Held, pages_in_store, locked_pages_in_store}
use Rattle.shm_fault.specs.Store.{StoreView, held}
use Rattle.shm_fault.specs.Sound.{IsStoreSound}
use Rattle.shm_segments.specs.declared.head.Head.{Head}
use Rattle.shm_segments.specs.Joined.{live_row, pages_of_rows, locked_of_rows, Agree}
use Rattle.shm_base.specs.declared.bounds.TheConstants.{MOST_SHMMAX}

-- every segment has at least 1 byte, and no more than the largest limit
abbrev pub SizesFit : List (Entry Head) → Type 0
SizesFit rows =
    (id : ℕ) (r : Row Head) → live_row rows id ≡ Some r → (1 ≤ r.value.size) × (r.value.size ≤ MOST_SHMMAX)

-- heads and bytes belong to the same segments, and the counts of their pages are right
pub record AreSegmentsSound (hs : List Held) (rows : List (Entry Head)) (pages locks : ℕ) : Type 0 where
  pub agree : Agree hs rows
  pub sizes : SizesFit rows
  pub reserved : pages ≡ pages_of_rows rows
  pub locked : locks ≡ locked_of_rows rows
  pub apart : AreHeldApart hs
  pub all_pages : pages_in_store hs ≡ pages
  pub few_locked : locked_pages_in_store hs ≤ locks

-- the same, with the bytes in a sound store
pub record IsWhole (m : StoreView) (rows : List (Entry Head)) (pages locks : ℕ) : Type 0 where
  pub kept : AreSegmentsSound (held m) rows pages locks
  pub sound : IsStoreSound m
