-- What the threads of a run share may cross threads. A search through all of it at once would take too many steps.
use Rattle.shm_threads.proofs.Names.{RattleType, IsSend, IsSync, sendable, crosses, keeper_send, world_send, Ghosts}
use Rattle.shm_base.specs.contracts.call.Call as call
use Rattle.shm_text.specs.contracts.script.Command as command
use Rattle.shm_text.specs.contracts.script.Line as line
use Rattle.shm_text.specs.contracts.script.LineAddr as addr
use Rattle.shm_text.specs.contracts.script.LineId as id
use Rattle.shm_threads.specs.contracts.shared.RunState as state
use Rattle.shm_threads.specs.contracts.shared.Shared as shared
use Rattle.shm_threads.specs.contracts.strand.Strand as strand
use Rattle.shm_threads.specs.declared.origin.Origin as origin

strand_send : IsSend strand.the_row
strand_send = search (sendable, crosses) depth 100 fits 100000

id_sync : IsSync id.the_row
id_sync = search sendable depth 40

addr_sync : IsSync addr.the_row
addr_sync = search sendable depth 40

call_sync : IsSync (call.the_field id.the_row addr.the_row).row
call_sync = search (sendable, crosses, id_sync, addr_sync) depth 200 fits 100000

command_sync : IsSync command.the_row
command_sync = search (sendable, crosses, call_sync) depth 100 fits 30000

pub line_sync : IsSync line.the_row
line_sync = search (sendable, crosses, command_sync) depth 100 fits 30000

module _ {P O : RattleType} (g : Ghosts P.Denot) (h : origin.Ghosts O.Denot) where
  state_send : IsSend P → IsSend O → IsSend (state.the_row P O g h)
  state_send p o = let part = world_send g p in search (sendable, crosses, strand_send, keeper_send) depth 40 fits 30000

  pub shared_sync : IsSend P → IsSend O → IsSync (shared.the_row P O g h)
  shared_sync p o = let part = state_send p o in search (sendable, crosses) depth 40 fits 30000
