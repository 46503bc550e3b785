-- A run, and the calls by which it can continue, each with the reply that it would get.
use Rattle.std.specs.Prelude.{List}
use Rattle.shm_base.specs.declared.call.Event.{Event}

pub record Stuck : Type 0 where
  pub events : List Event
  pub next : List Event
