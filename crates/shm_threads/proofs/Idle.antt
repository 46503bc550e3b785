-- No strand can continue if none is the first that can.
use Rattle.shm_threads.proofs.Names.{◌≡◌, ◌≤◌, Bool, false, List, length, None, All, arith, nat_tests, common_steps, position_or_len, position, fails_before_first}

pub no-first : {X : Type 0} (p : X → Bool) (xs : List X) → position p xs ≡ None → All (λ x. p x ≡ false) xs
no-first p xs none =
    let past : length xs ≤ position_or_len p xs = grind (arith, nat_tests, common_steps, none) in
    λ k d lt. fails_before_first p xs k d (omega (arith, past, lt))
