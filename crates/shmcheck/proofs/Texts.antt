-- The answers about a machine as a script opens it.
use Rattle.std.specs.Prelude.{◌≡◌, ℕ, Bool, true, false, List, Ok}
use Rattle.std.proofs.Common.{subst, sym}
use Rattle.rand_core.specs.Stream.{Stream}
use Rattle.shm_base.specs.State.{Machine}
use Rattle.shm_text.specs.Script.{ScriptView}
use Rattle.shm_judge.specs.Judge.{IsRight}
use Rattle.shm_judge.specs.Logs.{Answer, Entry}
use Rattle.shm_judge.specs.Reading.{entries_of, log_of}
use Rattle.shm_judge.specs.Report.{verdict_text}
use Rattle.shm_judge.specs.Sampling.{AreSamples}
use Rattle.shm_judge.specs.declared.verdict.Verdict.{Verdict}
use Rattle.shm_outcomes.specs.Masking.{AreMaskedOutcomes}
use Rattle.shm_outcomes.specs.Search.{AreOutcomes}
use Rattle.shm_outcomes.specs.Text.{outcomes_text}
use Rattle.shm_schedules.specs.Finding.{Finding}
use Rattle.shm_schedules.specs.Schedules.{Run, fresh, start}
use Rattle.shmcheck.specs.Judged.{IsJudgedText, is_legal}
use Rattle.shmcheck.specs.Printed.{IsTextOf}
use Rattle.shmcheck.specs.Sampled.{IsSamplesText, answers_from}

-- the text of runs
pub sampled :
    (script : ScriptView) (areas : List ℕ) (machine : Machine) (seed runs : ℕ) (rest : Stream) (text : List ℕ)
    → machine ≡ (start script areas).machine → AreSamples script (fresh machine) runs (answers_from seed) rest text → IsSamplesText seed runs script areas text
sampled script areas machine seed runs rest text at are =
    (rest, subst (λ (m : Machine). AreSamples script (fresh m) runs (answers_from seed) rest text) at are)

-- what is listed if identifiers and addresses are masked
pub masked-text :
    (masked : Bool) (script : ScriptView) (first : Run) (others : List Finding) (text : List ℕ)
    → masked ≡ true → AreMaskedOutcomes script first others → text ≡ outcomes_text true script others → IsTextOf masked script first text
masked-text true script first others text on are is = (others, are, is)
masked-text false script first others text on are is = absurd (cc)

-- the text of the outcomes that a search found
pub listed :
    (masked : Bool) (script : ScriptView) (areas : List ℕ) (machine : Machine) (found shown : List Finding) (text : List ℕ)
    → machine ≡ (start script areas).machine → shown ≡ found → AreOutcomes script (fresh machine) found
    → ((first : Run) → AreOutcomes script first shown → IsTextOf masked script first text) → IsTextOf masked script (start script areas) text
listed masked script areas machine found shown text at same are to =
    to (start script areas)
    (subst (λ (l : List Finding). AreOutcomes script (start script areas) l) (sym same) (subst (λ (m : Machine). AreOutcomes script (fresh m) found) at are))

-- the text of a verdict
pub judged-text :
    (script : ScriptView) (log : List ℕ) (entries : List Entry) (answered : List (List Answer)) (areas : List ℕ) (machine : Machine) (verdict : Verdict) (legal : Bool) (text : List ℕ)
    → entries_of script log ≡ Ok entries → answered ≡ log_of script entries → machine ≡ (start script areas).machine
    → IsRight script answered (fresh machine) verdict → legal ≡ is_legal verdict → text ≡ verdict_text script answered verdict → IsJudgedText log legal script areas text
judged-text script log entries answered areas machine verdict legal text read is at right same written = (
  entries,
  read,
  (
    verdict,
    subst (λ (l : List (List Answer)). IsRight script l (start script areas) verdict) is (subst (λ (m : Machine). IsRight script answered (fresh m) verdict) at right),
    sym same,
    subst (λ (l : List (List Answer)). text ≡ verdict_text script l verdict) is written,
  ),
)
