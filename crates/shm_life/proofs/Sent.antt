-- A system may cross threads if its pagers may. A search through all of it at once would take too many steps.
use denote.RattleType.{RattleType}
use denote.Param.Send.{IsSend, sendable}
use Rattle.std.proofs.Crossing.{crosses}
use Rattle.shm_attach.specs.contracts.spaces.Spaces as spaces
use Rattle.shm_fault.specs.contracts.store.PageStore as store
use Rattle.shm_life.specs.contracts.system.System as system
use Rattle.shm_pager_core.specs.declared.pager.Pager.{Ghosts}

spaces_send : IsSend spaces.the_row
spaces_send = search (sendable, crosses) depth 200 fits 100000

module _ {P : RattleType} (g : Ghosts P.Denot) (s : IsSend P) where
  store_send : IsSend (store.the_row P g)
  store_send = search (sendable, crosses) depth 200 fits 100000

  pub system_send : IsSend (system.the_row P g)
  system_send = let part = store_send in search (sendable, crosses, spaces_send) depth 200 fits 100000
