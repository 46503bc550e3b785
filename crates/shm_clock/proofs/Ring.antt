-- The position of a frame on the ring, and its distance from the hand.
use Rattle.std.proofs.Common.{◌≡◌, ℕ, ◌+◌, ◌-◌, ◌<◌, ◌≤◌, length, arith, zero-add, length-append}
use Rattle.std.proofs.lemmas.Grind.{common_steps}
use Rattle.std.proofs.lemmas.List.{get_or_append_left, get_or-append_right}
use Rattle.std.proofs.lemmas.List.FromFn.{length-range_with_len, get_or-range_with_len}
use Rattle.shm_clock.specs.Clock.{ring, ring_at, distance}

pub ring_at-low : (hand n j : ℕ) → hand < n → j < n - hand → ring_at hand n j ≡ hand + j
ring_at-low hand n j on lt = grind (arith, common_steps, length-range_with_len, get_or_append_left, get_or-range_with_len)

pub ring_at-high : (hand n j : ℕ) → hand < n → n - hand ≤ j → j < n → ring_at hand n j ≡ j - (n - hand)
ring_at-high hand n j on le lt = grind (arith, common_steps, get_or-append_right, length-range_with_len, get_or-range_with_len, zero-add)

pub length-ring : (hand n : ℕ) → hand < n → length (ring hand n) ≡ n
length-ring hand n on = grind (arith, common_steps, length-append, length-range_with_len)

pub distance-lt : (hand n i : ℕ) → hand < n → i < n → distance hand n i < n
distance-lt hand n i on lt = grind arith

-- the frame that is n steps away is at distance n
pub distance-ring_at : (hand n j : ℕ) → hand < n → j < n → distance hand n (ring_at hand n j) ≡ j
distance-ring_at hand n j on lt = grind (arith, ring_at-low, ring_at-high)

-- each frame is as many steps away as its distance
pub ring_at-distance : (hand n i : ℕ) → hand < n → i < n → ring_at hand n (distance hand n i) ≡ i
ring_at-distance hand n i on lt = grind (arith, ring_at-high, ring_at-low)

pub ring_at-lt : (hand n j : ℕ) → hand < n → j < n → ring_at hand n j < n
ring_at-lt hand n j on lt = grind (arith, ring_at-low, ring_at-high)
