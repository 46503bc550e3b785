-- What a pager shows, as the crate of its trait says it.
pub use Rattle.shm_pager_core.specs.Pages.{Counts, CountsErr, KeepsMost, PagerView, SideCalls, SlotUnknown, TriesRead, TriesWrite, blank, last_count, new_side, next_count, pager_seen, served}
