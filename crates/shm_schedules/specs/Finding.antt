-- An outcome with a run that has it.
use Rattle.std.specs.Prelude.{List}
use Rattle.shm_base.specs.declared.call.Event.{Event}
use Rattle.shm_base.specs.declared.call.Reply.{Reply}

pub record Finding : Type 0 where
  pub events : List Event
  pub outcome : List (List Reply)
