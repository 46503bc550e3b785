use Rattle.shm_life.proofs.Names.{◌≡◌, ◌<◌, ℕ, false, is_untold}
use Rattle.shm_life.proofs.kernel.Kernel.next_gone.Given as goal

-- every segment that was destroyed at the indexes so far was reported
abbrev pub invariant-loop-index : goal.invariant-loop-index
invariant-loop-index g l =
    (l.told ≡ l.fn.told) × ((i : ℕ) → i < l.index → is_untold l.fn.self.flat.table l.fn.told i ≡ false)
