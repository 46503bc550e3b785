-- Lists of segments in order of their indexes.
use Rattle.std.specs.Prelude.{ℕ, ◌%◌, nat_lt, if◌then◌else◌, List, [], ◌∷◌}
use Rattle.shm_base.specs.declared.bounds.TheConstants.{INDEXES}

-- the list with one more segment, whose identifier is given by `id`
abbrev pub inserted : {T : Type 0} → (T → ℕ) → T → List T → List T
inserted id x [] = x ∷ []
inserted id x (y ∷ ys) = if nat_lt (id x % INDEXES) (id y % INDEXES) then x ∷ y ∷ ys else y ∷ inserted id x ys
