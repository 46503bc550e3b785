use Rattle.shm_life.proofs.Names.{◌≡◌, ◌+◌, ◌*◌, ◌≤◌, arith, ◌⊎◌, inl, inr, cases_lt, end_address}
use Rattle.shm_life.proofs.Ranges.{capped}
use Rattle.shm_life.proofs.kernel.Kernel.is_reserved.Goals as goal

pub returns : goal.returns
returns g c =
    let to = c.saturating_add-to.result in
    let end = c.args.base + 4096 * c.args.pages in
    let both : (to ≡ end) ⊎ ((end_address ≤ to) × (end_address ≤ end)) = elim (cases_lt end end_address) [
      | inl low ↦ inl (omega (arith, low, c.saturating_add-to.ensures))
      | inr high ↦ inr (omega (arith, high, c.saturating_add-to.ensures), high)
    ] in
    rw (← c.self.view_is, c.is_reserved.ensures, c.deref.ensures.value) (capped c.self.inside.host_ranges.items c.args.pid c.args.base to end c.self.invariant.2 both)
