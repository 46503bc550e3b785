-- A world may cross threads if its pagers may, and a gauge's keeper may.
use denote.RattleType.{RattleType}
use denote.Param.Send.{IsSend, sendable}
use Rattle.std.proofs.Crossing.{crosses}
use Rattle.atomic_table.proofs.shared.Shared.TheSendSync as cell
use Rattle.atomic_table.proofs.shared.Seat.TheSendSync as seat
use Rattle.atomic_table.proofs.send_lease.SendLease.TheSendSync as lease
use Rattle.shm_history.specs.contracts.gauges.Keeper as keeper
use Rattle.shm_history.specs.contracts.world.World as world
use Rattle.shm_life.proofs.Sent.{system_send}
use Rattle.shm_pager_core.specs.declared.pager.Pager.{Ghosts}

pub keeper_send : IsSend keeper.the_row
keeper_send = search (sendable, crosses, cell.the_send, cell.the_sync, seat.the_send, lease.the_send, lease.the_sync) depth 200 fits 100000

pub world_send : {P : RattleType} (g : Ghosts P.Denot) → IsSend P → IsSend (world.the_row P g)
world_send g s = let part = system_send g s in search (sendable, crosses) depth 200 fits 100000
