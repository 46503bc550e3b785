-- The counts of pages read in and written out.
use Rattle.std.specs.Prelude.{ℕ, zero, suc, ◌≡◌, Bool, if◌then◌else◌}
use Rattle.shm_pager_core.specs.Pages.{next_count}
use Rattle.shm_fault.specs.declared.touched.Touched.{Touched}
use Rattle.shm_fault.specs.Store.{StoreView}

-- a count, raised k times
abbrev pub raised : ℕ → ℕ → ℕ
raised n zero = n
raised n (suc k) = raised (next_count n) k

abbrev pub one_if : Bool → ℕ
one_if b = if b then 1 else 0

-- how many pages were read from slots, and written to slots
pub record Transfers : Type 0 where
  pub reads : ℕ
  pub writes : ℕ

abbrev pub no_transfers : Transfers
no_transfers = record { reads = 0; writes = 0 }

-- those that an access counted
abbrev pub counted : Touched → Transfers
counted u = record { reads = u.ins; writes = u.outs }

-- no page is counted as read in or written out
pub record IsUncounted (s t : StoreView) : Type 0 where
  pub ins : t.ins ≡ s.ins
  pub outs : t.outs ≡ s.outs

-- the store's counts rose as the access's counts did
pub record CountsOn (u v : Touched) (s t : StoreView) : Type 0 where
  pub ins : (n : ℕ) → s.ins ≡ raised n u.ins → t.ins ≡ raised n v.ins
  pub outs : (n : ℕ) → s.outs ≡ raised n u.outs → t.outs ≡ raised n v.outs
