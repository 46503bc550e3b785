-- The calls of processes. A line of a script has a call of the same shape, whose identifiers and addresses may be variables.
use Rattle.std.specs.Prelude.{ℕ, ℤ}
use Rattle.shm_base.specs.declared.call.Call.{Call}

-- a process's call: its identifiers and addresses are numbers
abbrev pub ProcessCall : Type 0
ProcessCall = Call ℤ ℕ
