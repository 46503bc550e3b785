-- Numbers that are taken and returned.
use Rattle.std.specs.Prelude.{◌≡◌, ℕ, ◌<◌, ◌≤◌, ◌&&◌, if◌then◌else◌, Bool, true, false, not, nat_eq, nat_lt, List}
use Rattle.std.specs.List.{list_any, IsDistinct}

-- each number from `fresh` on is free, and so is each in `returned`; there is room for the numbers below `room`
pub record NumbersView : Type 0 where
  pub fresh : ℕ
  pub returned : List ℕ
  pub room : ℕ

abbrev pub is_among : ℕ → List ℕ → Bool
is_among n xs = list_any (nat_eq n) xs

abbrev pub is_taken : NumbersView → ℕ → Bool
is_taken v n = nat_lt n v.fresh && not (is_among n v.returned)

-- each number below n is taken
abbrev pub TakenBelow : NumbersView → ℕ → Type 0
TakenBelow v n = (i : ℕ) → i < n → is_taken v i ≡ true

-- the number is free, and none below it is
pub record IsLeastNumber (v : NumbersView) (n : ℕ) : Type 0 where
  pub free : is_taken v n ≡ false
  pub below : TakenBelow v n

-- the number was taken, and no other changed
abbrev pub WithTaken : NumbersView → NumbersView → ℕ → Type 0
WithTaken before after n = (i : ℕ) → is_taken after i ≡ (if nat_eq i n then true else is_taken before i)

-- the number was returned, and no other changed
abbrev pub WithReturned : NumbersView → NumbersView → ℕ → Type 0
WithReturned before after n = (i : ℕ) → is_taken after i ≡ (if nat_eq i n then false else is_taken before i)

-- the invariant: each returned number was taken, none is returned twice, and there is room to return all that are taken
pub record AreNumbersSound (v : NumbersView) : Type 0 where
  pub once : IsDistinct nat_eq v.returned
  pub within : (n : ℕ) → is_among n v.returned ≡ true → n < v.fresh
  pub room : v.fresh ≤ v.room
