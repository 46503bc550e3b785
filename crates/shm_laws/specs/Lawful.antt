-- All laws of a history in one record.
use Rattle.std.specs.Prelude.{List}
use Rattle.shm_base.specs.declared.call.Event.{Event}
use Rattle.shm_base.specs.State.{Machine, Opening}
use Rattle.shm_laws.specs.Writing.{HasLastWriters}
use Rattle.shm_laws.specs.Identity.{NamesOneSegment}
use Rattle.shm_laws.specs.Removal.{GoesWhenItMust}
use Rattle.shm_laws.specs.Permission.{NoWayIn}
use Rattle.shm_laws.specs.Isolation.{IsIsolated}
use Rattle.shm_laws.specs.Pieces.{PiecesAreOfSegments}
use Rattle.shm_laws.specs.Replay.{IsReplayed}
use Rattle.shm_laws.specs.Keys.{KeysLeadToOne}
use Rattle.shm_laws.specs.Size.{HaveTheirPages}
use Rattle.shm_laws.specs.Spaces.{SpacesAreLaidOut}

pub record IsLawful (o : Opening) (events : List Event) (end : Machine) : Type 0 where
  pub writers : HasLastWriters o events end
  pub identity : NamesOneSegment o events end
  pub removal : GoesWhenItMust o events end
  pub permission : NoWayIn o events end
  pub isolation : IsIsolated o events end
  pub keys : KeysLeadToOne o events end
  pub size : HaveTheirPages o events end
  pub spaces : SpacesAreLaidOut o events end
  pub pieces : PiecesAreOfSegments o events end
  pub replay : IsReplayed o events end
