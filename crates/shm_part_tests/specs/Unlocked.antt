-- Pages of segments that are not locked.
use Rattle.std.specs.Prelude.{ℕ, Bool, not, nat_eq}
use Rattle.shm_base.specs.declared.paging.PageRef.{PageRef}

abbrev pub is_unlocked : ℕ → PageRef → Bool
is_unlocked locked page = not (nat_eq page.seg locked)
