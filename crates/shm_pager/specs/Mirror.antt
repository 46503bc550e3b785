-- What contracts see of a mirror.
use Rattle.std.specs.Prelude.{ℕ, ◌≡◌, Bool, true, false, not, ◌&&◌, ◌||◌, if◌then◌else◌, List, [], ◌∷◌, ◌++◌, length, get_or, set, drop, replicate, Result, is_ok, IfOk}
use Rattle.shm_base.specs.Page.{zero_page}
use Rattle.shm_pager_core.specs.Pages.{PagerView, SideCalls, pager_seen, served, SlotUnknown, CountsErr, TriesRead, TriesWrite}
use Rattle.shm_pager.specs.declared.mirror.Good.{Good}

pub record MirrorView (L R : Type 0) : Type 0 where
  pub left : L
  pub right : R
  -- which sides are good for each slot
  pub good : List Good
  -- how many calls of the mirror failed
  pub failed : ℕ

-- a mirror of two sides
abbrev pub mirror_of : {L R : Type 0} → L → R → List Good → ℕ → MirrorView L R
mirror_of left right good failed = record { left = left; right = right; good = good; failed = failed }

-- a mirror of which the pages and counts of each side are seen
abbrev pub MirrorSeen : Type 0
MirrorSeen = MirrorView PagerView PagerView

-- a mirror, by the ghost members of its sides
module _ {L R : Type 0} (content : L → List (List ℕ)) (failed most : L → ℕ) (calls : L → List SideCalls) (content' : R → List (List ℕ)) (failed' most' : R → ℕ) (calls' : R → List SideCalls) where
  abbrev pub mirror_seen : MirrorView L R → MirrorSeen
  mirror_seen m = mirror_of (pager_seen content failed most calls m.left) (pager_seen content' failed' most' calls' m.right) m.good m.failed

abbrev pub left_alone : Good
left_alone = record { left = true; right = false }

abbrev pub both_sides : Good
both_sides = record { left = true; right = true }

abbrev pub no_side : Good
no_side = record { left = false; right = false }

-- the pages of a mirror: for each slot the left side's if that is good, else the right side's
abbrev pub merged : List Good → List (List ℕ) → List (List ℕ) → List (List ℕ)
merged [] ls rs = []
merged (g ∷ gs) ls rs = (if g.left then get_or ls 0 [] else get_or rs 0 []) ∷ merged gs (drop 1 ls) (drop 1 rs)

abbrev pub pages_shown : MirrorSeen → List (List ℕ)
pages_shown m = merged m.good m.left.pages m.right.pages

-- the calls of both sides
abbrev pub mirror_calls : MirrorSeen → List SideCalls
mirror_calls m = m.left.calls ++ m.right.calls

-- the sides that are good for a slot
abbrev pub good_at : MirrorSeen → ℕ → Good
good_at m slot = get_or m.good slot no_side

-- a read of a slot called the left side, and that succeeded
abbrev pub left_asked : ℕ → MirrorSeen → Bool
left_asked slot before = (good_at before slot).left

abbrev pub left_serves : ℕ → MirrorSeen → MirrorSeen → Bool
left_serves slot before after = left_asked slot before && served before.left after.left

-- it called the right side, and that succeeded
abbrev pub right_asked : ℕ → MirrorSeen → MirrorSeen → Bool
right_asked slot before after = (good_at before slot).right && not (left_serves slot before after)

abbrev pub right_serves : ℕ → MirrorSeen → MirrorSeen → Bool
right_serves slot before after = right_asked slot before after && served before.right after.right

-- the two sides of a mirror have one size, and hold the same page if both are good
pub record IsMirror (m : MirrorSeen) : Type 0 where
  pub left : length m.left.pages ≡ length m.good
  pub right : length m.right.pages ≡ length m.good
  pub same : (slot : ℕ) → (good_at m slot).left ≡ true → (good_at m slot).right ≡ true
      → get_or m.left.pages slot [] ≡ get_or m.right.pages slot []

-- a write asked both sides, and those that took it are good for the slot
pub record WritesMirror
    {A E : Type 0} (slot : ℕ) (bytes : List ℕ) (m n : MirrorSeen) (result : Result A E) : Type 0 where
  pub others : SlotUnknown slot (pages_shown m) (pages_shown n)
  pub page : IfOk result (λ _. pages_shown n ≡ set (pages_shown m) slot bytes)
  pub failed : CountsErr result m.failed n.failed
  pub cause : is_ok result ≡ (served m.left n.left || served m.right n.right)
  pub left : TriesWrite slot bytes m.left n.left
  pub right : TriesWrite slot bytes m.right n.right
  pub good : n.good ≡ set m.good slot (record { left = served m.left n.left; right = served m.right n.right })

-- a read asked the good sides, left first, until one succeeded; a side that was not asked is unchanged
pub record ReadsMirror
    {A E : Type 0} (slot : ℕ) (bytes : List ℕ) (m n : MirrorSeen) (result : Result A E) : Type 0 where
  pub content : pages_shown n ≡ pages_shown m
  pub page : IfOk result (λ _. get_or (pages_shown m) slot [] ≡ bytes)
  pub failed : CountsErr result m.failed n.failed
  pub cause : is_ok result ≡ (left_serves slot m n || right_serves slot m n)
  pub left : left_asked slot m ≡ true → TriesRead m.left n.left
  pub left_unasked : left_asked slot m ≡ false → n.left ≡ m.left
  pub right : right_asked slot m n ≡ true → TriesRead m.right n.right
  pub right_unasked : right_asked slot m n ≡ false → n.right ≡ m.right
  pub good : n.good ≡ m.good

-- a discard discarded the slot of both sides, and no side is good for it
pub record DiscardsMirror (slot : ℕ) (m n : MirrorSeen) : Type 0 where
  pub content : SlotUnknown slot (pages_shown m) (pages_shown n)
  pub left : SlotUnknown slot m.left.pages n.left.pages
  pub right : SlotUnknown slot m.right.pages n.right.pages
  pub rest : n ≡ record m { left = record m.left { pages = n.left.pages }; right = record m.right { pages = n.right.pages }; good = set m.good slot no_side }

-- a wipe wiped both sides, and both are good for each slot
pub record WipesMirror (m n : MirrorSeen) : Type 0 where
  pub content : pages_shown n ≡ replicate (length (pages_shown m)) zero_page
  pub left : n.left ≡ record m.left { pages = replicate (length m.left.pages) zero_page }
  pub right : n.right ≡ record m.right { pages = replicate (length m.right.pages) zero_page }
  pub good : n.good ≡ replicate (length m.good) both_sides
  pub failed : n.failed ≡ m.failed
