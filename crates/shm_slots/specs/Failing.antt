-- Failures of calls to come, which are added to an area while it is in use.
use Rattle.std.specs.Prelude.{ℕ, ◌≡◌, ◌<◌, ◌≤◌, ◌⊎◌, Bool, true, false, ◌&&◌, nat_le, Result, IfErr}
use Rattle.shm_pager_core.specs.Pages.{last_count}
use Rattle.shm_pager_core.specs.Failing.{calls_failing, calls_with_bad, is_left}
use Rattle.shm_pager_core.specs.declared.failing.ComingFailure.{ComingFailure}
use Rattle.shm_pager_core.specs.declared.failing.FailRefused.{FailRefused}
use Rattle.shm_pager_core.specs.declared.failing.FailRefused.TheVariants.{NotThere, HostMemory}
use Rattle.shm_slots.specs.View.{AreaView, SwapView, area_at, with_area}

-- the area is active, and calls count from 1
abbrev pub is_of : AreaView → ComingFailure → Bool
is_of a c = a.here && nat_le 1 c.call

-- and the call is one of its left side; only a mirror has another
abbrev pub is_left_of : AreaView → ComingFailure → Bool
is_left_of a c = is_of a c && is_left c.side

-- A call of an area to come fails, and those that were to fail before: its slots, pages, owners and count stay. The bound on the
-- count rises to what it has to be.
pub record FailsInArea (c : ComingFailure) (before after : AreaView) : Type 0 where
  pub there : is_of before c ≡ true
  pub rest : after ≡ record before { most = after.most; calls = calls_failing c before.calls }
  pub most : before.most ≤ after.most
  pub comes : before.failed < last_count → before.failed < after.most
  pub lasting : c.is_lasting ≡ true → after.most ≡ last_count

-- why it was refused: there is no such call, or the host refused memory for one that there is
abbrev pub IsRefusedIn : {A : Type 0} → AreaView → ComingFailure → Result A FailRefused → Type 0
IsRefusedIn a c result =
    IfErr result (λ e. ((e ≡ NotThere) × (is_left_of a c ≡ false)) ⊎ ((e ≡ HostMemory) × (is_of a c ≡ true)))

-- reads of a slot of the area fail, so no number bounds its failures any more
abbrev pub with_bad : ℕ → AreaView → AreaView
with_bad slot a = record a { most = last_count; calls = calls_with_bad slot a.calls }

-- the same in one area of a swap; the others are unchanged
pub record FailsInSwap (c : ComingFailure) (area : ℕ) (before after : SwapView) : Type 0 where
  pub fails : FailsInArea c (area_at before area) (area_at after area)
  pub rest : after ≡ with_area before area (area_at after area)
