-- The entries of the table and the bytes of the frames, which contracts see as frames; and the table's invariant.
use Rattle.std.specs.Prelude.{◌≡◌, ℕ, ◌<◌, ◌≤◌, ◌^◌, Bool, false, Option, None, Some, is_none, is_some, List, [], ◌∷◌, length, get_or, count_by}
use Rattle.shm_frames.specs.declared.frames.FrameState.{FrameState}
use Rattle.shm_base.specs.Stored.{padded}
use Rattle.shm_base.specs.Page.{zero_page}
use Rattle.shm_frames.specs.Frame.{Frame}

abbrev pub frame_shown : FrameState → List ℕ → Frame
frame_shown e bytes = record { owner = e.owner; bytes = bytes; referenced = e.referenced; dirty = e.dirty; lent = e.lent }

-- the frames of a table, each with the bytes at its index
abbrev pub frames_of : List FrameState → List (List ℕ) → List Frame
frames_of [] pages = []
frames_of (e ∷ es) [] = []
frames_of (e ∷ es) (bytes ∷ pages) = frame_shown e bytes ∷ frames_of es pages

abbrev pub free_entry : FrameState
free_entry = record { owner = None; referenced = false; dirty = false; lent = false }

-- the frames that were ever used, and then the others, each free and zeros
abbrev pub all_frames : List FrameState → List (List ℕ) → ℕ → List Frame
all_frames table pages count = frames_of (padded table count free_entry) (padded pages count zero_page)

-- each frame that was ever used has an entry and bytes
pub record AreUsed (table : List FrameState) (pages : List (List ℕ)) (count : ℕ) : Type 0 where
  pub beside : length pages ≡ length table
  pub within : length table ≤ count
  pub few : count < 2 ^ 32

abbrev pub state_at : List FrameState → ℕ → FrameState
state_at table i = get_or table i free_entry

abbrev pub has_owner : FrameState → Bool
has_owner e = is_some e.owner

abbrev pub has_no_owner : FrameState → Bool
has_no_owner e = is_none e.owner

abbrev pub has_changed : FrameState → Bool
has_changed e = e.dirty

abbrev pub is_on_loan : FrameState → Bool
is_on_loan e = e.lent

-- no entry below n is free
abbrev pub UsedBelow : List FrameState → ℕ → Type 0
UsedBelow table n = (i : ℕ) → i < n → has_no_owner (state_at table i) ≡ false

-- the counts and the bound that the table keeps are right
pub record IsFrameTable (table : List FrameState) (first_free owned changed : ℕ) : Type 0 where
  pub bound : first_free ≤ length table
  pub used : UsedBelow table first_free
  pub resident : owned ≡ count_by has_owner table
  pub dirty : changed ≡ count_by has_changed table
  pub clear : (i : ℕ) → (state_at table i).owner ≡ None → state_at table i ≡ free_entry

-- the entries from `first` on are clean, up to the one that was found, or up to `last`
abbrev pub CleanFrom : List FrameState → ℕ → ℕ → Option ℕ → Type 0
CleanFrom table first last None = (i : ℕ) → first ≤ i → i < last → (state_at table i).dirty ≡ false
CleanFrom table first last (Some n) = (i : ℕ) → first ≤ i → i < n → (state_at table i).dirty ≡ false
