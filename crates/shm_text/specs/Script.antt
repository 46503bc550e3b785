-- What contracts see of a script.
use Rattle.std.specs.Prelude.{List}
use Rattle.shm_base.specs.Bounds.{Bounds}
use Rattle.shm_base.specs.declared.call.Process.{Process}
use Rattle.shm_text.specs.declared.script.Line.{Line}

pub record ScriptView : Type 0 where
  pub limits : Bounds
  pub processes : List Process
  pub lines : List Line
