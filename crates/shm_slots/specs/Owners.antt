-- Numbers that are free or owned.
use Rattle.std.specs.Prelude.{◌≡◌, ℕ, ◌<◌, ◌≤◌, true, is_some, List, length, Option, None, get_or, count_by, MatchOption}
use Rattle.shm_base.specs.Numbers.{NumbersView, is_taken}

module _ {X : Type 0} where
  -- no number below `first` is free
  abbrev pub UsedBelow : ℕ → List (Option X) → Type 0
  UsedBelow first owners = (i : ℕ) → i < first → is_some (get_or owners i None) ≡ true

  -- the number is free, and none below it is
  pub record IsLeastFree (owners : List (Option X)) (number : ℕ) : Type 0 where
    pub within : number < length owners
    pub free : get_or owners number None ≡ None
    pub least : UsedBelow number owners

  -- the result of a search for the least free number
  abbrev pub FoundLeast : List (Option X) → Option ℕ → Type 0
  FoundLeast owners found = MatchOption found (UsedBelow (length owners) owners) (IsLeastFree owners)

  -- how many numbers are owned
  abbrev pub used_count : List (Option X) → ℕ
  used_count owners = count_by is_some owners

  -- the owned numbers are taken, there is room to return each, and `used` counts them
  pub record AreOwnersSound (owners : List (Option X)) (numbers : NumbersView) (used : ℕ) : Type 0 where
    pub taken : (i : ℕ) → is_taken numbers i ≡ is_some (get_or owners i None)
    pub room : length owners ≤ numbers.room
    pub counted : used ≡ used_count owners
