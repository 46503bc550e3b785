use Rattle.std.proofs.Common.{◌≡◌, ℕ, map, not, ◌++◌, get_or}
use Rattle.std.specs.List.{list_any}
use Rattle.shm_pager_core.specs.Pages.{pager_seen}
use Rattle.shm_slots.specs.View.{fresh, is_spent, no_area, IsArea}
use Rattle.shm_slots.proofs.swap.Swap.new.Given as goal

abbrev pub invariant-loop-pager : goal.invariant-loop-pager
invariant-loop-pager g l = record {
  made : l.areas.items ≡ map (λ p. fresh (pager_seen g.P.Pager.content g.P.Pager.failed g.P.Pager.most g.P.Pager.calls p)) l.yielded;
  flag : l.never_spent ≡ not (list_any is_spent l.areas.items);
  each : (k : ℕ) → IsArea (get_or l.areas.items k no_area);
  all : l.yielded ++ l.pager-iterator.rest.items ≡ l.fn.pagers.items;
}
