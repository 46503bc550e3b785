-- Segments by identifier, and where each of their pages is.
use Rattle.std.specs.Prelude.{ℕ, ◌≡◌, ◌==◌, ◌<◌, ◌≤◌, ◌%◌, Bool, false, if◌then◌else◌, List, [], ◌∷◌, Option, Some, None, map, length, get_or, set, replicate, filter, not, is_some, ◌||◌}
use Rattle.shm_base.specs.declared.paging.PageRef.{PageRef}
use Rattle.shm_base.specs.declared.bounds.TheConstants.{INDEXES}
use Rattle.shm_fault.specs.declared.page_tables.PageRec.{PageRec}
use Rattle.shm_fault.specs.Ordered.{inserted}

-- a segment: its identifier, whether it is locked, and where its pages are
pub record SegRec : Type 0 where
  pub id : ℕ
  pub locked : Bool
  pub pages : List PageRec

-- a page without frame and slot: all its bytes are zero
abbrev pub no_page : PageRec
no_page = record { frame = None; slot = None }

-- the page has a frame or a slot
abbrev pub is_placed : PageRec → Bool
is_placed p = is_some p.frame || is_some p.slot

abbrev pub rec_at : List PageRec → ℕ → PageRec
rec_at pages page = get_or pages page no_page

abbrev pub find_seg : List SegRec → ℕ → Option SegRec
find_seg [] id = None
find_seg (g ∷ gs) id = if g.id == id then Some g else find_seg gs id

-- all segments have different identifiers
abbrev pub AreApart : List SegRec → Type 0
AreApart [] = Unit {0}
AreApart (g ∷ gs) = (find_seg gs g.id ≡ None) × AreApart gs

abbrev pub rec_in : Option SegRec → ℕ → PageRec
rec_in None page = no_page
rec_in (Some g) page = rec_at g.pages page

-- where a page is; nowhere if the segment has no such page
abbrev pub rec_by : List SegRec → PageRef → PageRec
rec_by gs r = rec_in (find_seg gs r.seg) r.page

abbrev pub page_count_in : Option SegRec → ℕ
page_count_in None = 0
page_count_in (Some g) = length g.pages

-- how many pages a segment has
abbrev pub count_by_id : List SegRec → ℕ → ℕ
count_by_id gs id = page_count_in (find_seg gs id)

-- the segment has this page
abbrev pub HasPage : List SegRec → PageRef → Type 0
HasPage gs r = r.page < count_by_id gs r.seg

abbrev pub lock_in : Option SegRec → Bool
lock_in None = false
lock_in (Some g) = g.locked

abbrev pub locked_by : List SegRec → ℕ → Bool
locked_by gs id = lock_in (find_seg gs id)

-- the pages of a segment from `first` up to `last` have neither frame nor slot
abbrev pub NowhereUpTo : ℕ → ℕ → ℕ → List SegRec → Type 0
NowhereUpTo first last id gs = (page : ℕ) → first ≤ page → page < last → rec_by gs (record { seg = id; page = page }) ≡ no_page

-- the segment, with another place for one page
abbrev pub seg_with : PageRef → PageRec → SegRec → SegRec
seg_with r p g = if g.id == r.seg then record g { pages = set g.pages r.page p } else g

abbrev pub with_rec : List SegRec → PageRef → PageRec → List SegRec
with_rec gs r p = map (seg_with r p) gs

-- all segments except one
abbrev pub but : ℕ → List SegRec → List SegRec
but id gs = filter (λ (g : SegRec). not (g.id == id)) gs

-- the segment, with its lock set or cleared
abbrev pub with_seg_lock : ℕ → Bool → SegRec → SegRec
with_seg_lock id locked g = if g.id == id then record g { locked = locked } else g

-- a segment whose pages have neither frame nor slot
abbrev pub new_seg : ℕ → ℕ → SegRec
new_seg id pages = record { id = id; locked = false; pages = replicate pages no_page }

abbrev pub seg_id : SegRec → ℕ
seg_id g = g.id

-- the segments, with a new one
abbrev pub with_seg : List SegRec → ℕ → ℕ → List SegRec
with_seg gs id pages = inserted seg_id (new_seg id pages) gs

-- no segment has this segment's index
abbrev pub IsIndexFree : List SegRec → ℕ → Type 0
IsIndexFree gs id = (other : ℕ) → other % INDEXES ≡ id % INDEXES → find_seg gs other ≡ None

abbrev pub page_count : SegRec → ℕ
page_count g = length g.pages

abbrev pub locked_pages : SegRec → ℕ
locked_pages g = if g.locked then length g.pages else 0
