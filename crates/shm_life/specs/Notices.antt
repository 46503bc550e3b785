-- Reports of destroyed segments to a host. The table counts how many were destroyed at each index, and no identifier is used
-- twice, so the table itself says which identifiers are gone. The host counts the reports for each index.
use Rattle.std.specs.Prelude.{ℕ, ◌≡◌, ◌≤◌, ◌<◌, ◌+◌, ◌/◌, ◌%◌, ◌^◌, pos, Bool, false, ◌&&◌, nat_lt, List, length, get_or, set}
use Rattle.shm_base.specs.Identifier.{Removed, destroyed_at, identifier, look}
use Rattle.shm_base.specs.State.{Entry}
use Rattle.shm_base.specs.declared.bounds.TheConstants.{INDEXES, SEQUENCES}
use Rattle.shm_life.specs.declared.notices.Notice.{Notice}
use Rattle.shm_life.specs.declared.notices.Notice.TheVariants as notice

-- how many destroyed segments at an index were reported
abbrev pub told_at : List ℕ → ℕ → ℕ
told_at told index = get_or told index 0

-- more segments were destroyed at the index than were reported
abbrev pub is_untold : List Entry → List ℕ → ℕ → Bool
is_untold table told index =
    let n = told_at told index in
    nat_lt n SEQUENCES && nat_lt n (destroyed_at table index)

-- The segment was destroyed. It is the first at its index that was not reported, lower indexes have none, and the host's count of
-- the index rises by 1.
pub record IsNamed (table : List Entry) (told : List ℕ) (seg : ℕ) (after : List ℕ) : Type 0 where
  pub removed : look table (pos seg) ≡ Removed
  pub small : seg < 2 ^ 31
  pub first : seg ≡ identifier (seg % INDEXES) (told_at told (seg % INDEXES))
  pub least : (i : ℕ) → i < seg % INDEXES → is_untold table told i ≡ false
  pub counted : after ≡ set told (seg % INDEXES) (told_at told (seg % INDEXES) + 1)

-- every destroyed segment was reported
pub record IsAllTold (table : List Entry) (told : List ℕ) : Type 0 where
  pub none : (i : ℕ) → is_untold table told i ≡ false
  pub all : (seg : ℕ) → seg < 2 ^ 31 → look table (pos seg) ≡ Removed → seg / INDEXES < told_at told (seg % INDEXES)

-- a report, and the host's counts afterwards
abbrev pub Notices : List Entry → List ℕ → Notice → List ℕ → Type 0
Notices table told notice.Short after = (length told < length table) × (after ≡ told)
Notices table told notice.Nothing after = (length table ≤ length told) × IsAllTold table told × (after ≡ told)
Notices table told (notice.Gone seg) after = (length table ≤ length told) × IsNamed table told seg after
