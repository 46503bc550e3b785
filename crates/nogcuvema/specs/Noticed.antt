-- Notices of destroyed segments, through a handle.
use Rattle.std.specs.Prelude.{ℕ, ℤ, ◌≡◌, ◌⊎◌, pos, List}
use Rattle.shm_life.specs.Notices.{Notices}
use Rattle.shm_life.specs.SystemState.{SystemState}
use Rattle.shm_life.specs.declared.notices.Notice.TheVariants as notice
use Rattle.nogcuvema.specs.Answers.{out_of_range, too_few_counts}

-- a destroyed segment is named; or all were, or there are too few counts
abbrev pub NamesGone : List ℕ → List ℕ → ℤ → ℕ → SystemState → Type 0
NamesGone told after id code s =
    ((code ≡ 0) × ((seg : ℕ) × (id ≡ pos seg) × Notices s.machine.table told (notice.Gone seg) after))
    ⊎ ((code ≡ out_of_range) × Notices s.machine.table told notice.Nothing after)
    ⊎ ((code ≡ too_few_counts) × Notices s.machine.table told notice.Short after)
