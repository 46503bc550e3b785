use Rattle.shm_attach.proofs.Names.{◌≡◌, ℕ, Option, bare_all, first_absent, AllTrue}
use Rattle.shm_attach.proofs.failing.absent_in.Given as goal

-- the first address without a frame is among the remaining ones
abbrev pub invariant-loop-left : goal.invariant-loop-left
invariant-loop-left l =
    (frame : ℕ → ℕ → Option ℕ) → AllTrue frame l.tables.slab → first_absent frame (bare_all l.space.pieces) l.at l.left ≡ first_absent frame (bare_all l.space.pieces) l.addr l.len

abbrev pub decreases-loop-left : goal.decreases-loop-left
decreases-loop-left l = l.left
