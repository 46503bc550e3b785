-- What faults say of the input, and from what was read to the whole of it.
use Rattle.shm_program.proofs.Names.{◌≡◌, ◌≤◌, ◌⊎◌, ◌∙◌, ap, subst, sym, refl, inl, inr, ℕ, true, List, ◌++◌, length, Option, Some, None, Ok, append-nil, OnOk, IfErr, Result, Err, Consumes, IsAtEnd, Keeps-refl, start_error, ScriptView, script_of, IsFaultOf, ReadRefused, same_fault, StartError, is_reading, refused_as, IsCause, IsCauseIn, IsReadAs, IsSilent, IsStop, IsTextFor, MayBe, is_serial, RunFault, StartRefused, WriteFailed, HostMemory}
use Rattle.shm_text.specs.declared.fault.ReadRefused.TheVariants as refused

-- a fault of what was read is the fault of the input
pub refusals : (refusal : ReadRefused) (old new : Option (List ℕ)) (read : List ℕ) → Consumes old new read → (length read ≤ 1048576 → IsAtEnd new) → IsFaultOf refusal (script_of read) → (areas : List ℕ) → IsCause (refused_as refusal) areas old
refusals refused.HostMemory old new read taken whole e areas = tt
refusals (refused.Fault fault) None new read taken whole e areas = record { bytes = read; given = tt; reads = e }
refusals (refused.Fault fault) (Some input) None read taken whole e areas = absurd taken
refusals (refused.Fault fault) (Some input) (Some rest) read taken whole e areas = record { bytes = input; given = refl; reads = same_fault input read rest fault taken whole e }

-- what was read to its end is the input
may_be : (old new : Option (List ℕ)) (read : List ℕ) → Consumes old new read → IsAtEnd new → MayBe old read
may_be None new read taken end = tt
may_be (Some input) None read taken end = absurd taken
may_be (Some input) (Some rest) read taken end = sym (taken ∙ ap (λ l. read ++ l) end ∙ append-nil read)

pub whole_input : (old new : Option (List ℕ)) (read : List ℕ) (script : ScriptView) → Consumes old new read → IsAtEnd new → script_of read ≡ Ok script → IsReadAs old (Ok script)
whole_input old new read script taken end reads = record { bytes = read; given = may_be old new read taken end; reads = reads }

-- where nothing is written, a fault is silent, unless the writer failed
pub unwritten : (IsText : List ℕ → Type 0) (fault : RunFault) (kept : Option (List ℕ)) → (fault ≡ WriteFailed → ⊥) → IsSilent IsText fault kept kept
unwritten IsText WriteFailed kept h = absurd (h refl)
unwritten IsText fault kept h = Keeps-refl kept

-- reading writes nothing
pub read_silent : (IsText : List ℕ → Type 0) (fault : RunFault) (kept : Option (List ℕ)) → is_reading fault ≡ true → IsSilent IsText fault kept kept
read_silent IsText fault kept reading = unwritten IsText fault kept (λ e. let no : is_reading WriteFailed ≡ true = subst (λ f. is_reading f ≡ true) e reading in absurd (cc))

-- nor does a start
pub stop_silent : (IsText : List ℕ → Type 0) (fault : RunFault) (first : Option StartError) (kept : Option (List ℕ)) → IsStop fault first → IsSilent IsText fault kept kept
stop_silent IsText fault first kept stop = unwritten IsText fault kept (λ e. subst (λ f. IsStop f first) e stop)

-- a text of one kind is of another
pub silent_as : (IsText IsOther : List ℕ → Type 0) (fault : RunFault) (old new : Option (List ℕ)) → ((text : List ℕ) → IsText text → IsOther text) → IsSilent IsText fault old new → IsSilent IsOther fault old new
silent_as IsText IsOther WriteFailed old new to (text, is, part) = (text, to text is, part)
silent_as IsText IsOther fault old new to silent = silent

-- the text of the script that was read is one for the input
pub text_for : (IsText : ScriptView → List ℕ → List ℕ → Type 0) (areas : List ℕ) (input : Option (List ℕ)) (script : ScriptView) → IsReadAs input (Ok script) → (text : List ℕ) → IsText script areas text → IsTextFor IsText areas input text
text_for IsText areas input script read text is = (script, read, is)

pub silents_as : (IsText IsOther : List ℕ → Type 0) (result : Result (Unit {0}) RunFault) (old new : Option (List ℕ)) → ((text : List ℕ) → IsText text → IsOther text) → IfErr result (λ f. IsSilent IsText f old new) → IfErr result (λ f. IsSilent IsOther f old new)
silents_as IsText IsOther (Ok done) old new to silent = tt
silents_as IsText IsOther (Err fault) old new to silent = silent_as IsText IsOther fault old new to silent

pub silent_for : (IsText : ScriptView → List ℕ → List ℕ → Type 0) (result : Result (Unit {0}) RunFault) (areas : List ℕ) (input old new : Option (List ℕ)) (script : ScriptView) → IsReadAs input (Ok script) → IfErr result (λ f. IsSilent (IsText script areas) f old new) → IfErr result (λ f. IsSilent (IsTextFor IsText areas input) f old new)
silent_for IsText result areas input old new script read silent = silents_as (IsText script areas) (IsTextFor IsText areas input) result old new (text_for IsText areas input script read) silent

-- why a world was not opened
pub stop_cause : (fault : RunFault) (areas : List ℕ) (script : ScriptView) → IsStop fault (start_error script.limits areas script.processes) → IsCauseIn fault areas script
stop_cause (StartRefused n) areas script stop = λ input read. (script, read, stop)
stop_cause HostMemory areas script stop = λ input read. tt
stop_cause fault areas script stop = absurd stop

-- out of memory and a writer that fails say nothing of the input
no_cause : (fault : RunFault) (areas : List ℕ) (script : ScriptView) → (fault ≡ HostMemory) ⊎ (fault ≡ WriteFailed) → IsCauseIn fault areas script
no_cause fault areas script (inl e) = λ input read. subst (λ f. IsCause f areas input) (sym e) tt
no_cause fault areas script (inr e) = λ input read. subst (λ f. IsCause f areas input) (sym e) tt

-- reading ends in three ways without a script
pub refused_reading : (refusal : ReadRefused) → is_reading (refused_as refusal) ≡ true
refused_reading refused.HostMemory = refl
refused_reading (refused.Fault fault) = refl

-- without threads no fault is one of theirs
pub refused_serial : (refusal : ReadRefused) → is_serial (refused_as refusal) ≡ true
refused_serial refused.HostMemory = refl
refused_serial (refused.Fault fault) = refl

pub stop_serial : (fault : RunFault) (first : Option StartError) → IsStop fault first → is_serial fault ≡ true
stop_serial (StartRefused n) first stop = refl
stop_serial HostMemory first stop = refl
stop_serial fault first stop = absurd stop

world_serial : (fault : RunFault) → (fault ≡ HostMemory) ⊎ (fault ≡ WriteFailed) → is_serial fault ≡ true
world_serial fault (inl e) = ap is_serial e
world_serial fault (inr e) = ap is_serial e

-- a fault of the run says of the input what it says of the script
pub causes : (result : Result (Unit {0}) RunFault) (input : Option (List ℕ)) (areas : List ℕ) (script : ScriptView) → IsReadAs input (Ok script) → IfErr result (λ f. IsCauseIn f areas script) → IfErr result (λ f. IsCause f areas input)
causes (Ok done) input areas script read cause = tt
causes (Err fault) input areas script read cause = cause input read

pub world_causes : (result : Result (Unit {0}) RunFault) (areas : List ℕ) (script : ScriptView) → IfErr result (λ f. (f ≡ HostMemory) ⊎ (f ≡ WriteFailed)) → IfErr result (λ f. IsCauseIn f areas script)
world_causes (Ok done) areas script e = tt
world_causes (Err fault) areas script e = no_cause fault areas script e

pub world_serials : (result : Result (Unit {0}) RunFault) → IfErr result (λ f. (f ≡ HostMemory) ⊎ (f ≡ WriteFailed)) → IfErr result (λ f. is_serial f ≡ true)
world_serials (Ok done) e = tt
world_serials (Err fault) e = world_serial fault e

-- if a result is not an error, a fact that holds anyway
pub anyway : {E : Type 0} → (result : Result (Unit {0}) E) (P : Type 0) → P → OnOk result P
anyway (Ok done) P p = p
anyway (Err fault) P p = tt
