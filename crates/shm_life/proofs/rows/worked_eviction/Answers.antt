use Rattle.std.proofs.Common.{refl}
use Rattle.shm_fault.specs.Placing.{access_counted, after_access, after_clean, after_eviction, after_page_out, after_room, after_turn, after_visit, frame_for, free_slot, room_counted, settled, vacated, visit_counted}
use Rattle.shm_life.specs.PagingRows.{EvictionRow}
use Rattle.shm_life.proofs.rows.worked_eviction.Goals as goal

row : EvictionRow
unfolding access_counted after_access after_clean after_eviction after_page_out after_room after_turn after_visit frame_for free_slot room_counted settled vacated visit_counted
row = record { pages = refl; counts = refl; places = refl }

pub returns : goal.returns
returns c = row
