-- A machine with one more swap area.
use Rattle.shm_life.proofs.Names.{same-refl, ◌≡◌, ℕ, List, refl, Bounds, Entry, Runner, StoreView, Translation, IsWell, SwapView}
use Rattle.shm_fault.specs.Store.{frame_of}
use Rattle.shm_life.proofs.Running.{true_still}
use Rattle.shm_life.proofs.Settled.{still-well}

same-frames : (m : StoreView) (u : SwapView) (seg page : ℕ) → frame_of (record m { swap = u }) seg page ≡ frame_of m seg page
unfolding frame_of
same-frames m u seg page = refl

-- pages stay where they are, so what was well is well
pub enlarged_well : (limits : Bounds) (table now : List Entry) (rs : List Runner) (ts : List Translation) (m n : StoreView) (u : SwapView) → n ≡ record m { swap = u } → now ≡ table → IsWell limits table rs ts m → IsWell limits now rs ts n
enlarged_well limits table now rs ts m n u is same well =
    rw (is, same) (still-well limits table table rs ts ts m (record m { swap = u }) well (same-refl table) refl (true_still ts m (record m { swap = u }) (same-frames m u) well.translated))
