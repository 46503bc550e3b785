-- The ranges that the host reserved.
use Rattle.shm_life.proofs.Names.{◌≡◌, ℕ, ◌≤◌, true, List, [], ◌∷◌, refl, arith, common_steps, ◌⊎◌, inl, inr, All-head, All-tail, end_address, is_reserved, ranges_of, is_range, HostRange}
use Rattle.shm_areas.specs.FreeGap.{AreRanges}

-- a range that ends above the last address meets the same ranges as one that ends there
pub capped : (rs : List HostRange) (pid from a b : ℕ) → AreRanges rs → (a ≡ b) ⊎ ((end_address ≤ a) × (end_address ≤ b))
    → is_reserved (ranges_of pid rs) from a ≡ is_reserved (ranges_of pid rs) from b
capped [] pid from a b all same = refl
capped (r ∷ rs) pid from a b all (inl same) = rw same refl
capped (r ∷ rs) pid from a b all (inr (h, k)) =
    let own : is_range r ≡ true = All-head (λ (r : HostRange). is_range r ≡ true) r rs all in
    let rest = capped rs pid from a b (All-tail (λ (r : HostRange). is_range r ≡ true) r rs all) (inr (h, k)) in
    grind (arith, common_steps, own, rest, h, k)
