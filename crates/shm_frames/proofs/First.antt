-- The first place of a list at which a test passes.
use Rattle.std.proofs.Common.{◌≡◌, ℕ, ◌<◌, ◌≤◌, Bool, true, false, List, length, get_or, Option, Some, None, unwrap_or, arith}
use Rattle.std.proofs.lemmas.Grind.{common_steps}
use Rattle.std.specs.List.{position, position_or_len}
use Rattle.std.proofs.lemmas.List.Sums.{position_or_len_is, fails_before_first}
use Rattle.std.proofs.lemmas.List.Quantifiers.{position-Some}
use Rattle.std.specs.Prelude.{MatchOption}
use Rattle.shm_frames.specs.Frame.{Frame, no_frame, is_free, OwnedBelow, IsLeastFree}
use Rattle.std.proofs.lemmas.Bool.Decides.{nat_tests}

module _ {X : Type 0} (p : X → Bool) (xs : List X) (d : X) where
  -- it passes at this place, and at none before
  pub position_is : (i : ℕ) → i < length xs → p (get_or xs i d) ≡ true → ((k : ℕ) → k < i → p (get_or xs k d) ≡ false) → position p xs ≡ Some i
  position_is i there here before = grind (arith, common_steps, position_or_len_is, nat_tests)

  -- it passes at no place
  pub position-none : ((k : ℕ) → k < length xs → p (get_or xs k d) ≡ false) → position p xs ≡ None
  position-none fails =
      let e : position_or_len p xs ≡ length xs = position_or_len_is p xs (length xs) d (omega arith) fails (λ l. absurd (omega arith)) in
      rw e (grind (arith, nat_tests))

  -- it fails before the first place; everywhere, if there is none
  pub before-position : (o : Option ℕ) → position p xs ≡ o → (k : ℕ) → k < unwrap_or o (length xs) → p (get_or xs k d) ≡ false
  before-position None e k l = grind (arith, fails_before_first)
  before-position (Some i) e k l = (position-Some p xs i d e).2 k l

-- the first free frame is the least
pub least_is : (frames : List Frame) (o : Option ℕ) → position is_free frames ≡ o → MatchOption o (OwnedBelow frames (length frames)) (IsLeastFree frames)
least_is frames None e = before-position is_free frames no_frame None e
least_is frames (Some i) e = grind (arith, position-Some is_free frames i no_frame e)
