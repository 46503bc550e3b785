-- The store of a trial.
use Rattle.std.specs.Prelude.{◌≡◌, [], ◌∷◌, map}
use Rattle.shm_fault.specs.Held.{held_id, pages_in_store}
use Rattle.shm_fault.specs.Store.{StoreView, held}

-- the store has only segment 0, of three pages
abbrev pub HasThree : StoreView → Type 0
HasThree s = (map held_id (held s) ≡ 0 ∷ []) × (pages_in_store (held s) ≡ 3)
