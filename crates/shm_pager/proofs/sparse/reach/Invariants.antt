use Rattle.std.proofs.Common.{◌≡◌, ◌≤◌, ◌+◌, ◌⊎◌, length, None, vec_capacity}
use Rattle.shm_base.specs.Stored.{padded}
use Rattle.shm_pager.proofs.sparse.reach.Given as goal

abbrev pub invariant-loop-i : goal.invariant-loop-i
invariant-loop-i l = (l.pages.items ≡ padded l.initial.pages.items l._i None)
    × (length l.initial.pages.items ≤ l._i)
    × (vec_capacity l.pages ≡ vec_capacity l.initial.pages)
    × ((l._i ≤ l.slot + 1) ⊎ (l._i ≡ length l.initial.pages.items))
