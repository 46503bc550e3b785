-- The clock's rule, twice: over the list of eligible frames, and frame by frame.
use Rattle.std.specs.Prelude.{◌≡◌, ℕ, ◌+◌, ◌-◌, ◌<◌, ◌≤◌, Bool, true, false, not, ◌&&◌, ◌||◌, if◌then◌else◌, nat_eq, nat_lt, Option, None, Some, unwrap_or, List, [], ◌∷◌, ◌++◌, length, set, filter, find, take_while, slice_index}
use Rattle.std.specs.List.{range_with_len}
use Rattle.shm_base.specs.declared.paging.PageRef.{PageRef}
use Rattle.shm_frames.specs.Frame.{Frame, frame_at}

-- the frame numbers in the order of the clock: from the hand on, and round
abbrev pub ring : ℕ → ℕ → List ℕ
ring hand n = range_with_len hand (n - hand) ++ range_with_len 0 hand

abbrev pub ring_at : ℕ → ℕ → ℕ → ℕ
ring_at hand n step = slice_index (ring hand n) step

abbrev pub owner_passes : (PageRef → Bool) → Option PageRef → Bool
owner_passes passes None = false
owner_passes passes (Some page) = passes page

abbrev pub is_pinned : Option ℕ → ℕ → Bool
is_pinned None i = false
is_pinned (Some p) i = nat_eq p i

-- the page of the frame may be evicted, and the frame is not pinned
abbrev pub may_go : (PageRef → Bool) → Option ℕ → List Frame → ℕ → Bool
may_go passes pinned frames i = owner_passes passes (frame_at frames i).owner && not (is_pinned pinned i)

-- the frames whose pages may be evicted, in the order of the clock
abbrev pub candidates : (PageRef → Bool) → Option ℕ → List Frame → ℕ → List ℕ
candidates passes pinned frames hand = filter (may_go passes pinned frames) (ring hand (length frames))

abbrev pub is_referenced : List Frame → ℕ → Bool
is_referenced frames i = (frame_at frames i).referenced

abbrev pub is_clear : List Frame → ℕ → Bool
is_clear frames i = not (is_referenced frames i)

-- the first frame in the list whose bit is clear; the first of all if there is none
abbrev pub victim_of : List Frame → List ℕ → ℕ
victim_of frames list = unwrap_or (find (is_clear frames) list) (slice_index list 0)

-- the frames before the first whose bit is clear; all of them if there is none
abbrev pub passed_by : List Frame → List ℕ → List ℕ
passed_by frames list = take_while (is_referenced frames) list

-- how many bits are read: those of the frames passed, and the victim's if it is clear
abbrev pub looked_at : List Frame → List ℕ → ℕ → ℕ
looked_at frames list victim = length (passed_by frames list) + (if is_referenced frames victim then 0 else 1)

-- the frames, with one referenced bit cleared
abbrev pub unset : List Frame → ℕ → List Frame
unset frames i = set frames i (record (frame_at frames i) { referenced = false })

abbrev pub unset_all : List Frame → List ℕ → List Frame
unset_all frames [] = frames
unset_all frames (i ∷ rest) = unset_all (unset frames i) rest

-- the next number of the ring
abbrev pub next : ℕ → ℕ → ℕ
next n i = if nat_lt (i + 1) n then i + 1 else 0

-- how far a frame is from the hand, round the ring
abbrev pub distance : ℕ → ℕ → ℕ → ℕ
distance hand n i = if nat_lt i hand then n - hand + i else i - hand

-- the hand passes the frame before it stops at the victim
abbrev pub is_passed : ℕ → List Frame → ℕ → ℕ → Bool
is_passed hand frames victim i =
    nat_lt (distance hand (length frames) i) (distance hand (length frames) victim)
    || is_referenced frames victim

-- the rule for the victim and for each frame; `may` tests whether a frame's page may be evicted
pub record IsClockVictim
    (may : ℕ → Bool) (hand : ℕ) (before : List Frame) (victim : ℕ) (after : List Frame) : Type 0 where
  pub there : victim < length before
  pub eligible : may victim ≡ true
  -- each eligible frame before it had its bit set
  pub passed :
      (i : ℕ) → i < length before → may i ≡ true
      → distance hand (length before) i < distance hand (length before) victim
      → is_referenced before i ≡ true
  -- if its own bit was set, so was every eligible frame's, and it is the first eligible frame
  pub last_resort :
      is_referenced before victim ≡ true → (i : ℕ) → i < length before → may i ≡ true
      → (is_referenced before i ≡ true)
      × (distance hand (length before) victim ≤ distance hand (length before) i)
  -- the bits of eligible frames that were passed are cleared, and nothing else changes
  pub bits :
      (i : ℕ) → i < length before
      → frame_at after i
      ≡ record (frame_at before i) {
        referenced = is_referenced before i && not (may i && is_passed hand before victim i);
      }
  pub size : length after ≡ length before

-- the code may be called, and its answer for a page is whether the page passes
pub record Decides (Callable : Type 0) (answers : PageRef → Bool → Type 0) (passes : PageRef → Bool) : Type 0 where
  pub callable : Callable
  pub each : (page : PageRef) (answer : Bool) → answers page answer → answer ≡ passes page
