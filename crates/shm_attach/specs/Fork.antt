-- The processes after a fork.
use Rattle.std.specs.Prelude.{List, slice_set}
use Rattle.shm_base.specs.State.{Runner, Live}
use Rattle.shm_base.specs.Callers.{Caller}
use Rattle.shm_attach.specs.declared.process.Child.{Child}

-- the child is live with the caller's credentials and pieces
abbrev pub born_child : List Runner → Caller → Child → List Runner
born_child rs c child = slice_set rs child.index (record { pid = child.pid; life = Live c.cred; pieces = c.pieces })
