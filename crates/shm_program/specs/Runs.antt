-- The world that a script opens, what a run writes, and what its faults say about its input.
use Rattle.std.specs.Prelude.{◌≡◌, ◌<◌, ℕ, Bool, true, false, List, length, map, take, Option, Some, None, Result, Ok, Err}
use Rattle.std.specs.Io.KnownBytes.{Appends, Keeps}
use Rattle.shm_base.specs.State.{Opening}
use Rattle.shm_pager_core.specs.Pages.{SideCalls, pager_seen}
use Rattle.shm_slots.specs.View.{SwapView, fresh, new_swap}
use Rattle.shm_fault.specs.Store.{StoreView, fresh_store}
use Rattle.shm_life.specs.declared.start.StartError.{StartError}
use Rattle.shm_life.specs.Start.{start_error, error_number}
use Rattle.shm_history.specs.WorldState.{WorldState}
use Rattle.shm_text.specs.Script.{ScriptView}
use Rattle.shm_text.specs.declared.fault.ScriptFault.{ScriptFault}
use Rattle.shm_text.specs.Reading.{script_of}
use Rattle.shm_program.specs.declared.fault.RunFault.{RunFault}
use Rattle.shm_program.specs.declared.fault.RunFault.TheVariants.{Script, StartRefused, WriteFailed, Gate, Mismatch, ThreadRefused, HostMemory}

abbrev pub opening_of : ScriptView → List ℕ → Opening
opening_of script areas = record { limits = script.limits; areas = areas; processes = script.processes }

-- a world's opening as a script opens it: no start error applied
pub record IsOpening (script : ScriptView) (opening : Opening) : Type 0 where
  pub started : start_error script.limits opening.areas script.processes ≡ None
  pub is : opening ≡ opening_of script opening.areas

-- the swap areas when these pagers are passed in
abbrev pub handed_in : {P : Type 0} → (P → List (List ℕ)) → (P → ℕ) → (P → ℕ) → (P → List SideCalls) → List P → SwapView
handed_in content failed most calls pagers = new_swap (map (λ p. fresh (pager_seen content failed most calls p)) pagers)

-- the memory when a world opens over swap areas: no segments, and the areas as they were passed in
abbrev pub IsFresh : SwapView → StoreView → Type 0
IsFresh swap memory = memory ≡ fresh_store memory.frames swap

-- a world that the script opened over areas of these sizes, and that has this property
pub record IsWorldOf (Holds : WorldState → Type 0) (script : ScriptView) (areas : List ℕ) (w : WorldState) : Type 0 where
  pub opened : IsOpening script w.opening
  pub over : w.opening.areas ≡ areas
  pub sound : Holds w

-- exactly one text with this property was written
abbrev pub IsWritten : (List ℕ → Type 0) → Option (List ℕ) → Option (List ℕ) → Type 0
IsWritten IsText old new = (text : List ℕ) × IsText text × Appends old new text

-- these bytes may be the input: no others, if it is known
abbrev pub MayBe : Option (List ℕ) → List ℕ → Type 0
MayBe None bytes = Unit {0}
MayBe (Some input) bytes = bytes ≡ input

-- The input was read as this script, or has this first fault. Of input that is not known, as standard input, some bytes were read
pub record IsReadAs (input : Option (List ℕ)) (read : Result ScriptView ScriptFault) : Type 0 where
  pub bytes : List ℕ
  pub given : MayBe input bytes
  pub reads : script_of bytes ≡ read

-- the input is a script, and exactly the text of its run was written
abbrev pub Prints : (ScriptView → List ℕ → List ℕ → Type 0) → Option (List ℕ) → Option (List ℕ) → List ℕ → Option (List ℕ) → Type 0
Prints IsText old new areas input =
    (script : ScriptView) × IsReadAs input (Ok script) × IsWritten (IsText script areas) old new

-- the input is a script, and this text has the property for it
abbrev pub IsTextFor : (ScriptView → List ℕ → List ℕ → Type 0) → List ℕ → Option (List ℕ) → List ℕ → Type 0
IsTextFor IsText areas input text = (script : ScriptView) × IsReadAs input (Ok script) × IsText script areas text

-- a script fault is that of the input, and a refused start is the first start error
abbrev pub IsCause : RunFault → List ℕ → Option (List ℕ) → Type 0
IsCause (Script fault) areas input = IsReadAs input (Err fault)
IsCause (StartRefused n) areas input =
    (script : ScriptView) × IsReadAs input (Ok script) × ((e : StartError) × (start_error script.limits areas script.processes ≡ Some e) × (error_number e ≡ n))
IsCause _ areas input = Unit {0}

-- the cause of a fault after the input was read as this script
abbrev pub IsCauseIn : RunFault → List ℕ → ScriptView → Type 0
IsCauseIn fault areas script = (input : Option (List ℕ)) → IsReadAs input (Ok script) → IsCause fault areas input

-- a run without threads can have this fault
abbrev pub is_serial : RunFault → Bool
is_serial (Gate pid) = false
is_serial (Mismatch pid) = false
is_serial ThreadRefused = false
is_serial _ = true

-- a beginning of a text was written, and not all of it
abbrev pub IsPart : List ℕ → Option (List ℕ) → Option (List ℕ) → Type 0
IsPart text old new = (n : ℕ) × (n < length text) × Appends old new (take n text)

-- nothing is written; or if the writer failed, a beginning of a text with this property, and not all of it
abbrev pub IsSilent : (List ℕ → Type 0) → RunFault → Option (List ℕ) → Option (List ℕ) → Type 0
IsSilent IsText WriteFailed old new = (text : List ℕ) × IsText text × IsPart text old new
IsSilent IsText _ old new = Keeps old new

-- a world is not opened because of the first start error, or out of memory if there is none
abbrev pub IsStop : RunFault → Option StartError → Type 0
IsStop (StartRefused n) first = (e : StartError) × (first ≡ Some e) × (error_number e ≡ n)
IsStop HostMemory first = first ≡ None
IsStop _ first = ⊥
