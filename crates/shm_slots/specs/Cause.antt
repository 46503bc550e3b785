-- Failures: their sum, which never falls, and the possible causes of a refusal.
use Rattle.std.specs.Prelude.{ℕ, ◌≡◌, ◌≤◌, ◌+◌, Bool, true, false, ◌||◌, nat_lt, length, sum_by}
use Rattle.std.specs.List.{list_any}
use Rattle.shm_slots.specs.View.{SwapView, area_at, rise, most_rise, is_spent_here, sizes}

-- some active area has its count at the last value
unfoldable pub some_spent : SwapView → Bool
some_spent s = list_any is_spent_here s.areas

-- the sum of the rises of all counts
unfoldable pub total : SwapView → ℕ
total s = sum_by rise s.areas

-- the most that this sum can become
unfoldable pub most_total : SwapView → ℕ
most_total s = sum_by most_rise s.areas

-- a refusal has a cause: a count rose in the call, or the count of an active area was at its last value before
abbrev pub had_cause : SwapView → SwapView → Bool
had_cause before after = nat_lt (total before) (total after) || some_spent before

-- a step that succeeds counts no failure, and one that fails counts one, unless an area has counted its last
abbrev pub Counts : Bool → SwapView → SwapView → Type 0
Counts true before after = total after ≡ total before
Counts false before after = some_spent after ≡ false → total after ≡ total before + 1

-- counts never fall, the bounds on them never rise, an area that is gone stays gone, and a spent area is never forgotten
pub record GoesOn (before after : SwapView) : Type 0 where
  pub areas : length after.areas ≡ length before.areas
  pub starts : (area : ℕ) → (area_at after area).start ≡ (area_at before area).start
  pub counts : (area : ℕ) → (area_at before area).failed ≤ (area_at after area).failed
  pub mosts : (area : ℕ) → (area_at after area).most ≤ (area_at before area).most
  pub here : (area : ℕ) → (area_at after area).here ≡ true → (area_at before area).here ≡ true
  pub flag : after.never_spent ≡ true → before.never_spent ≡ true

-- no area comes or goes, and no size or count changes
pub record IsSteady (before after : SwapView) : Type 0 where
  pub goes_on : GoesOn before after
  pub failures : total after ≡ total before
  pub same_sizes : sizes after ≡ sizes before
