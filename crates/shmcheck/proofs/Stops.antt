-- Why there is no answer, and why it is not written.
use Rattle.std.proofs.Common.{◌≡◌, refl, subst, ℕ, List, Ok}
use Rattle.shm_base.specs.State.{Machine}
use Rattle.shm_text.specs.Script.{ScriptView}
use Rattle.shm_schedules.specs.Schedules.{fresh, start}
use Rattle.shm_schedules.specs.declared.search_error.SearchError.{SearchError}
use Rattle.shm_schedules.specs.declared.search_error.SearchError.TheVariants as searches
use Rattle.shm_outcomes.specs.Search.{IsCause as IsSearchCause}
use Rattle.shm_judge.specs.Judge.{IsDoubt}
use Rattle.shm_judge.specs.Logs.{Answer, Entry}
use Rattle.shm_judge.specs.Reading.{entries_of, log_of}
use Rattle.shmcheck.specs.Answers.{IsStopIn}
use Rattle.shmcheck.specs.Judged.{doubt_of}
use Rattle.shmcheck.specs.Stop.{stop_of}
use Rattle.shmcheck.specs.declared.command.Asked.TheVariants.{Outcomes, Question, Judge}
use Rattle.shmcheck.specs.declared.command.Options.{Options}
use Rattle.shmcheck.specs.declared.command.Wish.{Wish}

bound_from : (error : SearchError) (o : Options) (log areas : List ℕ) (script : ScriptView) → IsSearchCause script (start script areas) o.most error → IsStopIn (stop_of error o.most) (Outcomes o) log areas script
bound_from searches.HostMemory o log areas script h = tt
bound_from searches.Bound o log areas script h = (refl, h)

-- a search from the machine as the script opens it has no result
pub bound_stop : (error : SearchError) (o : Options) (log areas : List ℕ) (script : ScriptView) (machine : Machine)
    → machine ≡ (start script areas).machine → IsSearchCause script (fresh machine) o.most error → IsStopIn (stop_of error o.most) (Outcomes o) log areas script
bound_stop error o log areas script machine is h = bound_from error o log areas script (subst (λ (m : Machine). IsSearchCause script (fresh m) o.most error) is h)

question_from : (error : SearchError) (wish : Wish) (o : Options) (log areas : List ℕ) (script : ScriptView) → IsSearchCause script (start script areas) o.most error → IsStopIn (stop_of error o.most) (Question wish o) log areas script
question_from searches.HostMemory wish o log areas script h = tt
question_from searches.Bound wish o log areas script h = (refl, h)

-- the same for a question
pub question_stop : (error : SearchError) (wish : Wish) (o : Options) (log areas : List ℕ) (script : ScriptView) (machine : Machine)
    → machine ≡ (start script areas).machine → IsSearchCause script (fresh machine) o.most error → IsStopIn (stop_of error o.most) (Question wish o) log areas script
question_stop error wish o log areas script machine is h = question_from error wish o log areas script (subst (λ (m : Machine). IsSearchCause script (fresh m) o.most error) is h)

doubt_from : (error : SearchError) (o : Options) (log areas : List ℕ) (script : ScriptView) (entries : List Entry)
    → entries_of script log ≡ Ok entries → IsDoubt script (log_of script entries) (start script areas) o.most error → IsStopIn (doubt_of error o.most) (Judge o) log areas script
doubt_from searches.HostMemory o log areas script entries read h = tt
doubt_from searches.Bound o log areas script entries read h = (refl, (entries, read, h))

-- a judge that begins there has no verdict
pub doubt_stop : (error : SearchError) (o : Options) (log areas : List ℕ) (script : ScriptView) (entries : List Entry) (answered : List (List Answer)) (machine : Machine)
    → entries_of script log ≡ Ok entries → answered ≡ log_of script entries → machine ≡ (start script areas).machine
    → IsDoubt script answered (fresh machine) o.most error → IsStopIn (doubt_of error o.most) (Judge o) log areas script
doubt_stop error o log areas script entries answered machine read is at h =
    doubt_from error o log areas script entries read
    (subst (λ (l : List (List Answer)). IsDoubt script l (start script areas) o.most error) is (subst (λ (m : Machine). IsDoubt script answered (fresh m) o.most error) at h))
