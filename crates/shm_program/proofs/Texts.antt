-- What was written, as that of the input.
use Rattle.shm_program.proofs.Names.{ℕ, List, Option, Ok, OnOk, Result, Err, Appends, ScriptView, IsReadAs, IsWritten, Prints}

-- of the input that was read as a script
pub shown : (IsText : ScriptView → List ℕ → List ℕ → Type 0) (input old new : Option (List ℕ)) (areas : List ℕ) (script : ScriptView) → IsReadAs input (Ok script) → IsWritten (IsText script areas) old new → Prints IsText old new areas input
shown IsText input old new areas script read written = (script, read, written)

pub shows : {E : Type 0} → (IsText : ScriptView → List ℕ → List ℕ → Type 0) (result : Result (Unit {0}) E) (input old new : Option (List ℕ)) (areas : List ℕ) (script : ScriptView) → IsReadAs input (Ok script) → OnOk result (IsWritten (IsText script areas) old new) → OnOk result (Prints IsText old new areas input)
shows IsText (Ok done) input old new areas script read written = shown IsText input old new areas script read written
shows IsText (Err fault) input old new areas script read written = tt

-- a text with this property was written
pub written_as : {E : Type 0} → (IsText : List ℕ → Type 0) (result : Result (Unit {0}) E) (old new : Option (List ℕ)) (text : List ℕ) → IsText text → OnOk result (Appends old new text) → OnOk result (IsWritten IsText old new)
written_as IsText (Ok done) old new text is written = (text, is, written)
written_as IsText (Err fault) old new text is written = tt
