-- What a handle owns: the block of its machine if it is open, and nothing otherwise.
use Rattle.std.specs.Prelude.{ℕ, Option, Some, None, ◌≡◌, ◌≢◌, IsSome, IsNone}
use base.Fml.{Fml, ftrue}
use mir.Syntax.{Ty}
use denote.RawPtr.{Ptr}
use Rattle.std.specs.Box.Ownership.{box_owns}
use Rattle.shm_machine.specs.declared.machine.Machine.{Machine}
use Rattle.shm_machine.specs.contracts.machine.Machine.{the_row}

abbrev pub owned : (Ty → Ptr → Fml) → Ptr → Option Machine → Fml
owned frees p None = ftrue
owned frees p (Some m) = box_owns frees the_row p m

-- the flag says whether the handle has a machine
abbrev pub IsOpenAs : ℕ → Option Machine → Type 0
IsOpenAs flag machine = (flag ≡ 0 → IsNone machine) × (flag ≢ 0 → IsSome machine)
