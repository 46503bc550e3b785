-- The invariant of a run before its first call.
use Rattle.shm_threads.proofs.Names.{◌≡◌, ◌≢◌, ◌<◌, ◌≤◌, ◌+◌, ◌==◌, ◌&&◌, ℕ, true, false, not, List, [], ◌∷◌, Option, Some, None, is_some, length, map, All, subst, sym, ap, ◌∙◌, refl, arith, inl, inr, eq-eqb, ne_eqb, true≢false, get_or, cases_eq, or_left, or_right, and_from, or_parts, All-head, All-nil, All-tail, IsHistory, LeadsFrom, has_pid, Machine, life_at_start, runner_at_start, start_of, Event, Process, Cred, WorldState, are_pids, GoesOn-refl, CommandView, ScriptView, Line, Command, Flush, IsOpened, IsRunning, IsFresh, IsStrand, StandsAt, left_in, life_from, pid_of_strand, IsAdmitted, IsMarkAllowed, callers_of, commands_of, is_child, pid_in, transcript_events, Strand, Entry}
use Rattle.std.specs.Prelude.{zero, suc}
use Rattle.shm_threads.proofs.Placing.{has-at}
use Rattle.shm_threads.proofs.Remaining.{count_callers}
use Rattle.shm_threads.proofs.Turns.{as-long, pid-at, some-process}

once : (p : Process) (ps : List Process) → are_pids (p ∷ ps) ≡ true → has_pid p.pid ps ≡ false
once p ps is = grind (arith, is)

others : (p : Process) (ps : List Process) → are_pids (p ∷ ps) ≡ true → are_pids ps ≡ true
others p ps is = grind (arith, is)

-- LIVES

life-first : (ps : List Process) → are_pids ps ≡ true → (j : ℕ) (d : Process) → j < length ps → life_from (get_or ps j d).pid (map runner_at_start ps) ≡ Some (life_at_start (get_or ps j d).born)
life-first [] pids j d lt = absurd (omega (arith, lt))
life-first (p ∷ ps) pids zero d lt = rw (eq-eqb p.pid p.pid refl) refl
life-first (p ∷ ps) pids (suc j) d lt =
    let less : j < length ps = omega (arith, lt) in
    rw (ne_eqb p.pid (get_or ps j d).pid (λ same. true≢false (sym (has-at ps p.pid j d less (sym same)) ∙ once p ps pids))) (life-first ps (others p ps pids) j d less)

child-at : (ps : List Process) (j : ℕ) (d : Process) → j < length ps → (get_or ps j d).born ≡ None → is_child (get_or ps j d).pid ps ≡ true
child-at [] j d lt none = absurd (omega (arith, lt))
child-at (p ∷ ps) zero d lt none = or_left ((p.pid == p.pid) && not (is_some p.born)) (is_child p.pid ps) (and_from (p.pid == p.pid) (not (is_some p.born)) (eq-eqb p.pid p.pid refl) (ap (λ (o : Option Cred). not (is_some o)) none))
child-at (p ∷ ps) (suc j) d lt none = or_right ((p.pid == (get_or ps j d).pid) && not (is_some p.born)) (is_child (get_or ps j d).pid ps) (child-at ps j d (omega (arith, lt)) none)

-- ROOM

-- the command lines of these processes
abbrev total : List Process → List Line → ℕ
total [] ls = 0
total (p ∷ ps) ls = length (commands_of p.pid ls) + total ps ls

total-none : (ps : List Process) → total ps [] ≡ 0
total-none [] = refl
total-none (p ∷ ps) = let more = total-none ps in omega (arith, more)

total-flush : (ps : List Process) (n : ℕ) (ls : List Line) → total ps (Flush n ∷ ls) ≡ total ps ls
total-flush [] n ls = refl
total-flush (p ∷ ps) n ls = ap (λ (k : ℕ). length (commands_of p.pid ls) + k) (total-flush ps n ls)

total-absent : (ps : List Process) (c : CommandView) (ls : List Line) → has_pid c.pid ps ≡ false → total ps (Command c ∷ ls) ≡ total ps ls
total-absent [] c ls none = refl
total-absent (p ∷ ps) c ls none =
    let parts = or_parts (p.pid == c.pid) (has_pid c.pid ps) none in
    let more = total-absent ps c ls parts.1 in
    let apart : c.pid ≢ p.pid = λ same. true≢false (sym (eq-eqb p.pid c.pid (sym same)) ∙ parts.0) in
    rw (ne_eqb c.pid p.pid apart) (ap (λ (k : ℕ). length (commands_of p.pid ls) + k) more)

total-command : (ps : List Process) (c : CommandView) (ls : List Line) → are_pids ps ≡ true → total ps (Command c ∷ ls) ≤ total ps ls + 1
total-command [] c ls pids = omega arith
total-command (p ∷ ps) c ls pids =
    elim (cases_eq c.pid p.pid) [
      | inl same ↦
          (let rest = total-absent ps c ls (ap (λ (q : ℕ). has_pid q ps) same ∙ once p ps pids) in
          rw (eq-eqb c.pid p.pid same) (omega (arith, rest)))
      | inr apart ↦
          (let rest = total-command ps c ls (others p ps pids) in
          rw (ne_eqb c.pid p.pid apart) (omega (arith, rest)))
    ]

total-few : (ps : List Process) (ls : List Line) → are_pids ps ≡ true → total ps ls ≤ length ls
total-few ps [] pids = let none = total-none ps in omega (arith, none)
total-few ps (Flush n ∷ ls) pids = let same = total-flush ps n ls in let few = total-few ps ls pids in omega (arith, same, few)
total-few ps (Command c ∷ ls) pids = let most = total-command ps c ls pids in let few = total-few ps ls pids in omega (arith, most, few)

left-total : (ls : List Line) (ss : List Strand) (ps : List Process) → map pid_of_strand ss ≡ map pid_in ps → All (IsFresh (callers_of ls)) ss → left_in ss ≡ total ps ls
left-total ls [] [] same fresh = refl
left-total ls [] (p ∷ ps) same fresh = absurd (cc same)
left-total ls (s ∷ ss) [] same fresh = absurd (cc same)
left-total ls (s ∷ ss) (p ∷ ps) same fresh =
    let first : s.pid ≡ p.pid = cc same in
    let rest : map pid_of_strand ss ≡ map pid_in ps = cc same in
    let f = All-head (IsFresh (callers_of ls)) s ss fresh in
    let more = left-total ls ss ps rest (All-tail (IsFresh (callers_of ls)) s ss fresh) in
    let mine : s.lines ≡ length (commands_of p.pid ls) = f.lines ∙ count_callers s.pid ls ∙ ap (λ (q : ℕ). length (commands_of q ls)) first in
    let none : length s.entries.items ≡ 0 = ap length f.entries in
    omega (arith, more, mine, none)

-- THE START

module _ (script : ScriptView) (w : WorldState) (s : Strand) (is : IsFresh (callers_of script.lines) s) where
  fresh-stands : (born : Option Cred) → (born ≡ None → is_child s.pid script.processes ≡ true) → StandsAt script [] s (Some (life_at_start born))
  fresh-stands None child = (child refl, is.entries, is.values, refl)
  fresh-stands (Some cred) child = rw (is.entries, is.values) (λ more follows. follows)

  fresh-strand : (born : Option Cred) → life_from s.pid w.machine.runners ≡ Some (life_at_start born) → (born ≡ None → is_child s.pid script.processes ≡ true) → IsStrand script w.machine [] s
  fresh-strand born life child =
      record {
        lines = is.lines ∙ count_callers s.pid script.lines;
        room = is.room;
        place = subst (StandsAt script [] s) (sym life) (fresh-stands born child);
        own = ap (λ (es : List Entry). transcript_events s.pid es) is.entries;
        marks = subst (All IsMarkAllowed) (sym is.entries) (All-nil IsMarkAllowed);
      }

pub running-start : (script : ScriptView) (w : WorldState) (ss : List Strand) → IsOpened script w → w.machine ≡ start_of w.opening
    → map pid_of_strand ss ≡ map pid_in script.processes → All (IsFresh (callers_of script.lines)) ss → length script.lines ≤ w.room → IsRunning script w w ss 0
running-start script w ss opened start listed fresh room =
    let ps = script.processes in
    let runners : w.machine.runners ≡ map runner_at_start ps = ap (λ (m : Machine). m.runners) start ∙ ap (map runner_at_start) opened.processes in
    let each : All (IsStrand script w.machine []) ss =
    λ k d lt.
    let less : k < length ps = omega (arith, lt, as-long ss ps listed) in
    let e = some-process ss ps listed k less in
    let same = pid-at ss ps listed k d e lt in
    let life : life_from (get_or ss k d).pid w.machine.runners ≡ Some (life_at_start (get_or ps k e).born) = rw (same, runners) (life-first ps opened.pids k e less) in
    fresh-strand script w (get_or ss k d) (fresh k d lt) (get_or ps k e).born life (λ none. rw same (child-at ps k e less none)) in
    let few = total-few ps script.lines opened.pids in
    let all = left-total script.lines ss ps listed fresh in
    record {
      moments = [];
      moves = record { leads = refl; entries = λ k d lt. (fresh k d lt).entries; rounds = refl };
      started = record { opening = refl; began = GoesOn-refl w.memory.swap };
      pids = opened.pids;
      listed = listed;
      each = subst (λ (h : List Event). All (IsStrand script w.machine h) ss) (sym opened.events) each;
      events = subst (All (IsAdmitted ps)) (sym opened.events) (All-nil (IsAdmitted ps));
      room = omega (arith, few, all, room);
    }

-- and where room was reserved in the world
pub running-prepared : (script : ScriptView) (old new : WorldState) (ss : List Strand) → IsOpened script old → IsHistory old.opening old.events old.machine → new ≡ record old { room = new.room }
    → map pid_of_strand ss ≡ map pid_in script.processes → All (IsFresh (callers_of script.lines)) ss → length script.lines ≤ new.room → IsRunning script new new ss 0
running-prepared script old new ss opened legal rest listed fresh room =
    let begun : LeadsFrom 1 (start_of old.opening) [] old.machine = subst (λ (es : List Event). LeadsFrom 1 (start_of old.opening) es old.machine) opened.events legal in
    let full : WorldState = record old { room = new.room } in
    let here : IsOpened script full = record { events = opened.events; processes = opened.processes; pids = opened.pids } in
    subst (λ (w : WorldState). IsRunning script w w ss 0) (sym rest) (running-start script full ss here begun listed fresh room)
