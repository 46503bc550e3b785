-- The spans that an access may have.
use Rattle.std.specs.Prelude.{ℕ, ◌≡◌, ◌≤◌, List, length, sum_by, All}
use Rattle.shm_base.specs.declared.paging.Span.{Span}

-- at most two spans, each of which fits, with `size` bytes together
pub record IsAccess (Fits : Span → Type 0) (ps : List Span) (size : ℕ) : Type 0 where
  pub few : length ps ≤ 2
  pub fit : All Fits ps
  pub sum : sum_by (λ (p : Span). p.len) ps ≡ size
