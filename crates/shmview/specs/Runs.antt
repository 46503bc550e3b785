-- What the program reads and writes for its words.
use Rattle.std.specs.Prelude.{◌≡◌, ◌⊎◌, ℕ, List, map, Option, Some, None, Result, Err, OnOk, IfErr}
use Rattle.std.specs.Io.KnownBytes.{IsAtEnd, Keeps}
use Rattle.shm_slots.specs.View.{SwapView}
use Rattle.shm_program.specs.Areas.{areas_named, size_of}
use Rattle.shm_program.specs.Runs.{IsTextFor, Prints}
use Rattle.shm_program.specs.declared.fault.RunFault.TheVariants.{HostMemory}
use Rattle.shmview.specs.Record.{IsRecord}
use Rattle.shmview.specs.Stop.{IsStopOf, WritesNothing}
use Rattle.shmview.specs.Words.{Request}
use Rattle.shmview.specs.declared.steps.Steps.{Steps}
use Rattle.shmview.specs.declared.stop.Stop.{Stop}
use Rattle.shmview.specs.declared.stop.Stop.TheVariants.{Usage, Fault}

-- a view of the chosen steps over swap areas of these sizes: the input before it and the rest after it, and the output
pub record IsView (swap : SwapView) (asked : Option Steps) (result : Result (Unit {0}) Stop) (input rest old new : Option (List ℕ)) (areas : List ℕ) : Type 0 where
  pub ok : OnOk result (Prints (IsRecord swap asked) old new areas input)
  pub whole : OnOk result (IsAtEnd rest)
  pub cause : IfErr result (λ s. IsStopOf s asked areas input)
  pub silent : IfErr result (λ s. WritesNothing (IsTextFor (IsRecord swap asked) areas input) s old new)

-- the program ran out of memory before it wrote anything
abbrev pub IsOut : Result (Unit {0}) Stop → Option (List ℕ) → Option (List ℕ) → Type 0
IsOut result old new = (result ≡ Err (Fault HostMemory)) × Keeps old new

-- what the program does if its words ask for this; if they ask for nothing, it is a usage error, and nothing is written
abbrev pub IsAsked : Option Request → Result (Unit {0}) Stop → Option (List ℕ) → Option (List ℕ) → Option (List ℕ) → Option (List ℕ) → Type 0
IsAsked None result input rest old new = IsOut result old new ⊎ ((result ≡ Err Usage) × Keeps old new)
IsAsked (Some request) result input rest old new =
    IsOut result old new ⊎ IsView (areas_named request.swaps) request.steps result input rest old new (map size_of request.swaps)
