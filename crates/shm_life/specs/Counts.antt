-- The counts of a machine.
use Rattle.std.specs.Prelude.{ℕ, ◌≡◌, ◌-◌, ◌^◌, min}
use Rattle.shm_base.specs.State.{Machine}
use Rattle.shm_base.specs.Segments.{segment_count}
use Rattle.shm_base.specs.Segments as flat
use Rattle.shm_base.specs.declared.paging.Tally.{Tally}
use Rattle.shm_slots.specs.View as view
use Rattle.shm_slots.specs.Cause.{total}
use Rattle.shm_fault.specs.Store.{StoreView}
use Rattle.shm_fault.specs.Store as store

-- the counts of the calls, of the flat machine and of its memory
pub record Counts (calls : ℕ) (m : Machine) (memory : StoreView) (t : Tally) : Type 0 where
  pub events : t.events ≡ calls
  pub segments : t.segments ≡ segment_count m.table
  pub reserved : t.reserved ≡ flat.reserved m.table
  pub locked : t.locked ≡ flat.locked m.table
  pub frames : t.frames ≡ m.limits.frames
  pub resident : t.resident ≡ store.resident memory
  pub dirty : t.dirty ≡ store.dirty memory
  pub slots : t.slots ≡ view.swap_slots memory.swap
  pub used : t.used ≡ store.used memory
  pub ins : t.ins ≡ memory.ins
  pub outs : t.outs ≡ memory.outs
  pub failures : t.failures ≡ min (total memory.swap) (2 ^ 64 - 1)
