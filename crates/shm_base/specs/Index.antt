-- The index of an identifier.
use Rattle.std.specs.Prelude.{ℕ, ◌%◌, ℤ, pos, negsuc}
use Rattle.shm_base.specs.declared.bounds.TheConstants.{INDEXES}

-- the index in an identifier; 0 for a negative one, which no segment has
abbrev pub index_of : ℤ → ℕ
index_of (pos n) = n % INDEXES
index_of (negsuc n) = 0
