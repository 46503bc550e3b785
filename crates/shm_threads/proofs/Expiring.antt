-- A run that its gate ended: the threads that come before the one that it ended have made all their calls.
use Rattle.shm_threads.proofs.Names.{◌≡◌, ◌<◌, ℕ, Bool, false, List, Option, Some, None, length, map, IfErr, IfSome, OnOk, ◌∙◌, get_or, lt-ltb, take_all, All-map, WorldState, ScriptView, rounds_of, CanStop, IsEnded, IsExpired, ended_by, entries_in, ArePassed, Passes, IsOver, can_go, transcript_of, HasLines, Strand, Transcript}
use Rattle.shm_threads.proofs.Over.{is-whole, pids-of}

module _ (answers : ℕ → ℕ → Bool → Bool) (script : ScriptView) (start w : WorldState) (ss : List Strand) (made : ℕ) where
  expired-by : (pid : ℕ) → IsEnded answers script pid → IsOver script start w ss made (Some pid) → ArePassed answers ss made → IsExpired answers script start pid
  expired-by pid here over passed =
      let running = over.running in
      let ms = running.moments in
      record {
        here = here;
        room = start.room;
        moments = ms;
        world = w;
        all = map transcript_of ss;
        leads = running.moves.leads;
        processes = pids-of ss ∙ running.listed;
        entries = All-map (λ (t : Transcript). t.entries.items ≡ entries_in t.pid ms) transcript_of ss running.moves.entries;
        calls = All-map (λ (t : Transcript). Passes answers t.pid (length t.entries.items)) transcript_of ss passed.calls;
        lesser = All-map (λ (t : Transcript). t.pid < pid → HasLines script w.events t) transcript_of ss (λ k d lt less.
            let s = get_or ss k d in
            let stays : can_go w.machine s ≡ false = rw (lt-ltb s.pid pid less) at (over.none k d lt) in
            (is-whole script w.machine w.events s (running.each k d lt) stays).lines);
        rounds = λ some. running.moves.rounds ∙ take_all made (rounds_of script.lines) (over.flushed (lt-ltb 0 pid some));
      }

  -- so it is the cause of the run's error
  pub ended-stop : (expired : Option ℕ) → IfSome expired (IsEnded answers script) → IsOver script start w ss made expired → ArePassed answers ss made → IfErr (ended_by false expired) (CanStop answers script start)
  ended-stop None here over passed = tt
  ended-stop (Some pid) here over passed = expired-by pid here over passed

-- and if it ended none, the run is over
pub ended-over : (script : ScriptView) (start w : WorldState) (ss : List Strand) (made : ℕ) (expired : Option ℕ) → IsOver script start w ss made expired → OnOk (ended_by false expired) (IsOver script start w ss made None)
ended-over script start w ss made None over = over
ended-over script start w ss made (Some pid) over = tt
