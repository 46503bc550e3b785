-- The end of a run: no process can continue, so each transcript is whole.
use Rattle.shm_threads.proofs.Names.{◌≡◌, ◌≤◌, ℕ, true, false, List, [], ◌∷◌, Option, Some, None, length, map, nat_lt, is_some, All, subst, sym, ap, ◌∙◌, refl, arith, inl, inr, get_or, and_cases, ltb-false, true≢false, take_all, All-map, IsHistory, Ended, Life, Live, Machine, Unborn, caller_of, Event, WorldState, ScriptView, rounds_of, entries_in, AreAllMoves, IsOutcome, IsOver, IsStrand, StandsAt, can_go, life_from, pid_of_strand, transcript_of, HasLines, IsThrough, IsTranscript, commands_of, pid_of, Strand, Transcript}
use Rattle.shm_threads.proofs.Entries.{underway-whole}
use Rattle.shm_threads.proofs.Lives.{calls}

module _ (script : ScriptView) (m : Machine) (h : List Event) (s : Strand) (is : IsStrand script m h s) (none : can_go m s ≡ false) where
  -- a live process has made all its lines
  pub no-line : is_some (caller_of m s.pid) ≡ true → length (commands_of s.pid script.lines) ≤ length s.entries.items
  no-line live =
      elim (and_cases (nat_lt (length s.entries.items) s.lines) (is_some (caller_of m s.pid)) none) [
        | inl few ↦ (let le = ltb-false (length s.entries.items) s.lines few in omega (arith, le, is.lines))
        | inr gone ↦ absurd (true≢false (sym live ∙ gone))
      ]

  lines : (l : Option Life) → life_from s.pid m.runners ≡ l → StandsAt script h s l → HasLines script h (transcript_of s)
  lines None life at = absurd at
  lines (Some Unborn) life at = inr (at.0, at.1, at.3)
  lines (Some (Live cred)) life at = inl (underway-whole (commands_of s.pid script.lines) s.vars s.entries.items at (no-line (calls m s.pid (cred, life))))
  lines (Some Ended) life at = inl at

  pub is-whole : IsTranscript script h (transcript_of s)
  is-whole = record { lines = lines (life_from s.pid m.runners) refl is.place; own = is.own; marks = is.marks }

pub pids-of : (ss : List Strand) → map pid_of (map transcript_of ss) ≡ map pid_of_strand ss
pids-of [] = refl
pids-of (s ∷ ss) = ap (λ (l : List ℕ). s.pid ∷ l) (pids-of ss)

-- the moves of a run that is over are those of the whole script
all-moves : (script : ScriptView) (start w : WorldState) (ss : List Strand) (made : ℕ) (all : List Transcript) (over : IsOver script start w ss made None) → all ≡ map transcript_of ss
    → AreAllMoves script start w all over.running.moments
all-moves script start w ss made all over is =
    let moves = over.running.moves in
    let ms = over.running.moments in
    let Has : Transcript → Type 0 = λ t. t.entries.items ≡ entries_in t.pid ms in
    record {
      leads = moves.leads;
      entries = subst (All Has) (sym is) (All-map Has transcript_of ss moves.entries);
      rounds = moves.rounds ∙ take_all made (rounds_of script.lines) (over.flushed refl);
    }

pub outcome-of : (script : ScriptView) (passed w : WorldState) (room : ℕ) (ss : List Strand) (made : ℕ) (all : List Transcript)
    → IsOver script (record passed { room = room }) w ss made None → IsHistory w.opening w.events w.machine → all ≡ map transcript_of ss → IsOutcome script passed w all
outcome-of script passed w room ss made all over legal is =
    let each : All (IsTranscript script w.events) (map transcript_of ss) =
    All-map (IsTranscript script w.events) transcript_of ss (λ k d lt. is-whole script w.machine w.events (get_or ss k d) (over.running.each k d lt) (over.none k d lt)) in
    let through : All (IsThrough script w.machine) (map transcript_of ss) =
    All-map (IsThrough script w.machine) transcript_of ss (λ k d lt. no-line script w.machine w.events (get_or ss k d) (over.running.each k d lt) (over.none k d lt)) in
    record {
      room = room;
      moments = over.running.moments;
      moves = all-moves script (record passed { room = room }) w ss made all over is;
      started = record { opening = over.running.started.opening; began = over.running.started.began };
      legal = legal;
      transcripts = record {
        processes = ap (map pid_of) is ∙ pids-of ss ∙ over.running.listed;
        each = subst (All (IsTranscript script w.events)) (sym is) each;
        through = subst (All (IsThrough script w.machine)) (sym is) through;
        events = over.running.events;
      };
    }

-- room that was reserved before is no part of what an outcome says
pub outcome-passed : (script : ScriptView) (old new w : WorldState) (all : List Transcript) → new ≡ record old { room = new.room } → IsOutcome script new w all → IsOutcome script old w all
outcome-passed script old new w all same outcome =
    let o : IsOutcome script (record old { room = new.room }) w all = subst (λ (v : WorldState). IsOutcome script v w all) same outcome in
    record { room = o.room; moments = o.moments; moves = o.moves; started = o.started; legal = o.legal; transcripts = o.transcripts }
