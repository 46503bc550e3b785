-- What a run in either mode reads and writes.
use Rattle.std.specs.Prelude.{◌≡◌, ◌⊎◌, ℕ, true, List, map, Option, Some, None, Result, Ok, Err, OnOk, IfErr}
use Rattle.std.specs.Io.KnownBytes.{IsAtEnd, Keeps}
use Rattle.shm_pager.specs.Areas.{failed_in}
use Rattle.shm_slots.specs.View.{SwapView}
use Rattle.shm_program.specs.Runs.{IsCause, IsSilent, IsTextFor, Prints, is_serial}
use Rattle.shm_program.specs.Areas.{areas_named, size_of}
use Rattle.shm_program.specs.declared.fault.RunFault.{RunFault}
use Rattle.shm_program.specs.declared.fault.RunFault.TheVariants.{HostMemory}
use Rattle.shm_program.specs.declared.options.SwapWord.{SwapWord}
use Rattle.shm_runner.specs.Output.{IsOutput}
use Rattle.shm_runner.specs.Threaded.{IsThreadedRun}
use Rattle.shmsim.specs.declared.command.Mode.{Mode}
use Rattle.shmsim.specs.declared.command.Mode.TheVariants.{Serial, Threads}
use Rattle.shmsim.specs.declared.command.Stop.{Stop}
use Rattle.shmsim.specs.declared.command.Stop.TheVariants.{Usage, Fault}
use Rattle.shmsim.specs.Words.{Request}

-- a serial run: the input before it and the rest after it, and the output
pub record IsSerialRun {P : Type 0} (failed : P → ℕ) (swap : SwapView) (result : Result (Unit {0}) RunFault) (input rest old new : Option (List ℕ)) (areas : List ℕ) : Type 0 where
  pub ok : OnOk result (Prints (IsOutput failed swap) old new areas input)
  pub whole : OnOk result (IsAtEnd rest)
  pub cause : IfErr result (λ f. IsCause f areas input)
  pub serial : IfErr result (λ f. is_serial f ≡ true)
  pub silent : IfErr result (λ f. IsSilent (IsTextFor (IsOutput failed swap) areas input) f old new)

-- a run in this mode
abbrev pub IsRun : Mode → {P : Type 0} → (P → ℕ) → SwapView → Result (Unit {0}) RunFault → Option (List ℕ) → Option (List ℕ) → Option (List ℕ) → Option (List ℕ) → List ℕ → Type 0
IsRun Serial failed swap result input rest old new areas = IsSerialRun failed swap result input rest old new areas
IsRun Threads failed swap result input rest old new areas = IsThreadedRun failed swap result input rest old new areas

-- how the program stops after a run
abbrev pub stopped_by : Result (Unit {0}) RunFault → Result (Unit {0}) Stop
stopped_by (Ok done) = Ok done
stopped_by (Err fault) = Err (Fault fault)

-- the program ran out of memory before it wrote anything
abbrev pub IsOut : Result (Unit {0}) Stop → Option (List ℕ) → Option (List ℕ) → Type 0
IsOut result old new = (result ≡ Err (Fault HostMemory)) × Keeps old new

-- a run in this mode over the swap areas that these words name, unless there was no memory for the areas
abbrev pub IsRunOf : Mode → List SwapWord → Result (Unit {0}) Stop → Option (List ℕ) → Option (List ℕ) → Option (List ℕ) → Option (List ℕ) → Type 0
IsRunOf mode swaps result input rest old new =
    IsOut result old new ⊎ ((ran : Result (Unit {0}) RunFault) × (result ≡ stopped_by ran) × IsRun mode failed_in (areas_named swaps) ran input rest old new (map size_of swaps))

-- what the program does if its words ask for this; if they ask for nothing, it is a usage error, and nothing is written
abbrev pub IsAsked : Option Request → Result (Unit {0}) Stop → Option (List ℕ) → Option (List ℕ) → Option (List ℕ) → Option (List ℕ) → Type 0
IsAsked None result input rest old new = IsOut result old new ⊎ ((result ≡ Err Usage) × Keeps old new)
IsAsked (Some request) result input rest old new = IsRunOf request.mode request.swaps result input rest old new
