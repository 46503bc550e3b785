-- The removal of a swap area, as the flat machine defines it.
use Rattle.shm_life.proofs.Names.{◌≡◌, ℕ, zero, suc, ◌+◌, ◌<◌, ◌≤◌, List, [], ◌∷◌, get_or, Some, None, ap, arith, none-some, sum_by-cons, Machine, swapoff, refuses, gives, reserved, Done, Enomem, SwapView, AreaView, no_area, area_at, size_of, sizes, Option, Caller, slice_get, slice_set, map}
use Rattle.shm_base.specs.Segments as flat

-- what the flat machine has of an area, and of the slots without it
pub record IsThere (areas : List (Option ℕ)) (a n : ℕ) : Type 0 where
  pub listed : slice_get areas a ≡ Some (Some n)
  pub less : flat.slots (slice_set areas a None) + n ≡ flat.slots areas

there-at : (xs : List AreaView) (a n : ℕ) → size_of (get_or xs a no_area) ≡ Some n → IsThere (map size_of xs) a n
there-at [] a n is = absurd (none-some n is)
there-at (x ∷ xs) zero n is =
    let size : flat.slots_in (size_of x) ≡ n = ap flat.slots_in is in
    record {
      listed = ap (λ (o : Option ℕ). Some o) is;
      less = omega (arith, size, sum_by-cons flat.slots_in (size_of x) (map size_of xs), sum_by-cons flat.slots_in None (map size_of xs));
    }
there-at (x ∷ xs) (suc a) n is =
    let rest = there-at xs a n is in
    record {
      listed = rest.listed;
      less = omega (arith, rest.less, sum_by-cons flat.slots_in (size_of x) (map size_of xs), sum_by-cons flat.slots_in (size_of x) (slice_set (map size_of xs) a None));
    }

pub is_there : (s : SwapView) (a n : ℕ) → size_of (area_at s a) ≡ Some n → IsThere (sizes s) a n
is_there s a n is = there-at s.areas a n is

pub off-few : (m : Machine) (c : Caller) (a n : ℕ) → c.cred.uid ≡ 0 → IsThere m.areas a n → flat.slots m.areas < reserved m.table + n → swapoff m c a ≡ refuses m Enomem
off-few m c a n uid there few = grind arith

pub off-done : (m : Machine) (c : Caller) (a n : ℕ) → c.cred.uid ≡ 0 → IsThere m.areas a n → reserved m.table + n ≤ flat.slots m.areas → swapoff m c a ≡ gives (record m { areas = slice_set m.areas a None }) Done
off-done m c a n uid there room = grind arith
