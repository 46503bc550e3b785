-- A process in any state, as the flat machine has it.
use Rattle.std.specs.Prelude.{ℕ, List}
use Rattle.shm_base.specs.State as flat
use Rattle.shm_base.specs.State.{Runner}
use Rattle.shm_base.specs.Guest.{Standing}
use Rattle.shm_attach.specs.declared.guest.Found.{Found}
use Rattle.shm_attach.specs.declared.process.Listed.{Listed}
use Rattle.shm_attach.specs.Spaces.{pieces_at}
use Rattle.shm_attach.specs.Views.{life_view}

-- the process that was found at an index under this pid
abbrev pub found_as : ℕ → Found → List Runner → Standing
found_as pid f rs = record { index = f.index; runner = record { pid = pid; life = life_view f.life; pieces = pieces_at rs f.index } }

-- a process's pid and state
abbrev pub listed : Runner → ℕ × flat.Life
listed r = (r.pid, r.life)

abbrev pub listed_view : Listed → ℕ × flat.Life
listed_view p = (p.pid, life_view p.life)
