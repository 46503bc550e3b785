-- The invariant of a run after a turn of one of its strands.
use Rattle.shm_threads.proofs.Names.{◌≡◌, ◌≢◌, ◌<◌, ◌≤◌, ◌+◌, ◌++◌, ℕ, Bool, true, false, List, [], ◌∷◌, Some, length, map, slice_get, nat_lt, is_some, MatchBool, All, subst, sym, ap, ◌∙◌, refl, arith, append-nil, get_or, set, and_parts, ltb-true, get_or-map, get_or_at, length-map, length_push, map-set, set-get_or, All-push, get_or_from_slice_get, slice_get_within, ProcessCall, own_part, has_pid, Ended, Machine, caller_of, Event, Process, GoesOn-trans, FlushReport, WorldState, IsRound, event, CommandView, ScriptView, Line, IsNth, rounds_of, AreMoves, Moment, StartedFrom, IsProcessAt, IsRunning, IsAnswered, IsMade, IsStrand, can_go, left_in, left_of, life_from, pid_of_strand, IsAdmitted, commands_of, events_of, is_end, pid_in, transcript_events, Strand, Answer, HostMemory}
use Rattle.shm_threads.specs.declared.strand.Made.{Made}
use Rattle.shm_threads.specs.declared.transcript.Answer.TheVariants.{Reply as Replied}
use Rattle.shm_threads.proofs.Ages.{IsLive}
use Rattle.shm_threads.proofs.Answering.{found}
use Rattle.shm_threads.proofs.Entries.{own-same}
use Rattle.shm_threads.proofs.Lives.{ages-move, lives}
use Rattle.shm_threads.proofs.Moving.{moves-flush, moves-step}
use Rattle.shm_threads.proofs.Placing.{apart-pids, each-set, has-at, left-set, left-some}
use Rattle.shm_threads.proofs.Stepping.{Notes, strand-other, strand-own}

-- a flush round changes nothing that a run keeps, and is its next move
pub running-flush : (script : ScriptView) (start before after : WorldState) (ss : List Strand) (made pages : ℕ) (report : FlushReport) → IsRunning script start before ss made
    → slice_get (rounds_of script.lines) made ≡ Some pages → IsRound before pages report after → IsRunning script start after ss (made + 1)
running-flush script start before after ss made pages report running next round =
    let rest = round.rest in
    let swap = start.memory.swap in
    let lt = slice_get_within (rounds_of script.lines) made pages next in
    record {
      moments = _;
      moves = moves-flush script.lines start before after ss made running.moments running.moves pages report lt (get_or_from_slice_get (rounds_of script.lines) made pages pages next) round;
      started = record { opening = ap (λ (w : WorldState). w.opening) rest ∙ running.started.opening; began = GoesOn-trans swap before.memory.swap after.memory.swap running.started.began round.keeps.goes_on };
      pids = running.pids;
      listed = running.listed;
      each = subst (λ (w : WorldState). All (IsStrand script w.machine w.events) ss) (sym rest) running.each;
      events = subst (λ (w : WorldState). All (IsAdmitted script.processes) w.events) (sym rest) running.events;
      room = subst (λ (w : WorldState). left_in ss ≤ w.room) (sym rest) running.room;
    }

lives-on : (b : Bool) (P Q R : Type 0) → MatchBool b P (Q → R) → Q → MatchBool b P R
lives-on true P Q R is q = is
lives-on false P Q R is q = is q

-- a call without a reply ends no process
never-ends : (call : ProcessCall) → is_end call HostMemory ≡ false
never-ends call = grind arith

module _ (ss : List Strand) (ps : List Process) (listed : map pid_of_strand ss ≡ map pid_in ps) where
  pub as-long : length ss ≡ length ps
  as-long = sym (length-map ss pid_of_strand) ∙ ap length listed ∙ length-map ps pid_in

  pub pid-at : (k : ℕ) (d : Strand) (e : Process) → k < length ss → (get_or ss k d).pid ≡ (get_or ps k e).pid
  pid-at k d e lt =
      let less : k < length ps = omega (arith, lt, as-long) in
      sym (get_or-map pid_of_strand ss k d 0 lt) ∙ ap (λ (l : List ℕ). get_or l k 0) listed ∙ get_or-map pid_in ps k e 0 less

  pub some-process : (k : ℕ) → k < length ps → Process
  some-process k lt = by ps lt
    where
      by : (qs : List Process) → k < length qs → Process
      by [] less = absurd (omega (arith, less))
      by (q ∷ qs) less = q

  -- the strand of the process at an index has its pid
  pub pid-of : (k pid : ℕ) (s : Strand) → k < length ss → ((d : Strand) → get_or ss k d ≡ s) → IsProcessAt ps k pid → s.pid ≡ pid
  pid-of k pid s lt here at =
      let p = some-process k at.0 in
      ap pid_of_strand (sym (here s)) ∙ pid-at k s p lt ∙ at.1 p

-- the n-th command of a process is that of the next line of its strand
pub nth-next : (lines : List Line) (pid n : ℕ) (s : Strand) (c : CommandView) → s.pid ≡ pid → length s.entries.items + 1 ≡ n → IsNth (commands_of pid lines) n c
    → get_or (commands_of s.pid lines) (length s.entries.items) c ≡ c
nth-next lines pid n s c own nth is =
    let place : length is.before ≡ length s.entries.items = omega (arith, is.place, nth) in
    ap (λ (p : ℕ). get_or (commands_of p lines) (length s.entries.items) c) own ∙ ap (λ (cs : List CommandView). get_or cs (length s.entries.items) c) is.whole
    ∙ get_or_at is.before c is.after c (length s.entries.items) place

-- the event of a call has a place, and so has its entry
pub has-line : (m : Machine) (s : Strand) → can_go m s ≡ true → length s.entries.items < s.lines
has-line m s go = ltb-true _ _ (and_parts (nat_lt (length s.entries.items) s.lines) (is_some (caller_of m s.pid)) go).0

pub has-place : (m : Machine) (ss : List Strand) (k room : ℕ) (s : Strand) → k < length ss → ((d : Strand) → get_or ss k d ≡ s) → can_go m s ≡ true → left_in ss ≤ room → 0 < room
has-place m ss k room s lt here go enough =
    let some = left-some ss k s lt in
    let mine : left_of (get_or ss k s) ≡ left_of s = ap left_of (here s) in
    omega (arith, some, mine, has-line m s go, enough)

module _ (script : ScriptView) (start before after : WorldState) (ss : List Strand) (made k : ℕ) (s t : Strand) (command : CommandView) (effect : Made)
    (running : IsRunning script start before ss made) (lt : k < length ss) (here : (d : Strand) → get_or ss k d ≡ s) (go : can_go before.machine s ≡ true) (next : get_or (commands_of s.pid script.lines) (length s.entries.items) command ≡ command)
    (is : IsMade before s command effect after t) where
  parts : (nat_lt (length s.entries.items) s.lines ≡ true) × (is_some (caller_of before.machine s.pid) ≡ true)
  parts = and_parts (nat_lt (length s.entries.items) s.lines) (is_some (caller_of before.machine s.pid)) go

  line : length s.entries.items < s.lines
  line = has-line before.machine s go

  live : IsLive s.pid before.machine.runners
  live = lives before.machine s.pid parts.1

  notes : Notes s is.entry command t
  notes = record { call = is.call; pid = is.pid; lines = is.lines; values = is.values; entries = is.entries; room = is.room }

  old : IsStrand script before.machine before.events s
  old = subst (IsStrand script before.machine before.events) (here s) (running.each k s lt)

  less : length s.entries.items < length (commands_of s.pid script.lines)
  less = omega (arith, line, old.lines)

  -- the other strands are of other processes
  others : (j : ℕ) (d : Strand) → j < length ss → j ≢ k → (get_or ss j d).pid ≢ s.pid
  others j d less apart same =
      let long = as-long ss script.processes running.listed in
      let e = some-process ss script.processes running.listed k (omega (arith, lt, long)) in
      let mine : s.pid ≡ (get_or script.processes k e).pid = ap pid_of_strand (sym (here d)) ∙ pid-at ss script.processes running.listed k d e lt in
      let its : (get_or ss j d).pid ≡ (get_or script.processes j e).pid = pid-at ss script.processes running.listed j d e less in
      apart (apart-pids script.processes running.pids j k e (omega (arith, less, long)) (omega (arith, lt, long)) (sym its ∙ same ∙ mine))

  declared : has_pid s.pid script.processes ≡ true
  declared =
      let long = as-long ss script.processes running.listed in
      let e = some-process ss script.processes running.listed k (omega (arith, lt, long)) in
      let mine : (get_or script.processes k e).pid ≡ s.pid = sym (pid-at ss script.processes running.listed k s e lt) ∙ ap pid_of_strand (here s) in
      has-at script.processes s.pid k e (omega (arith, lt, long)) mine

  listed : map pid_of_strand (set ss k t) ≡ map pid_in script.processes
  listed =
      map-set pid_of_strand ss k t
      ∙ ap (λ (p : ℕ). set (map pid_of_strand ss) k p) (is.pid ∙ sym (get_or-map pid_of_strand ss k s 0 lt ∙ ap pid_of_strand (here s)))
      ∙ set-get_or (map pid_of_strand ss) k 0 ∙ running.listed

  left : left_in (set ss k t) + 1 ≡ left_in ss
  left =
      let long : length t.entries.items ≡ length s.entries.items + 1 = ap length is.entries ∙ length_push s.entries.items is.entry in
      let one : left_of t + 1 ≡ left_of s = omega (arith, long, is.lines, line) in
      left-set ss k t s lt (one ∙ ap left_of (sym (here s)))

  moves : (ms : List Moment) × AreMoves script.lines start after (set ss k t) made ms
  moves = (_, moves-step script.lines start before after ss made running.moments running.moves k s t command effect lt here others is)

  by : (a : Answer) → is.entry.answer ≡ a → IsAnswered before s.pid is.entry.call a after → IsRunning script start after (set ss k t) made
  by (Replied r) answer called =
      let e = event s.pid is.entry.call r in
      let n = length before.events + 1 in
      let ages = ages-move before.machine n e after.machine called.move_of in
      let aged = subst (λ (a : Answer). MatchBool (is_end is.entry.call a) (life_from s.pid after.machine.runners ≡ Some Ended) (IsLive s.pid after.machine.runners)) (sym answer) (lives-on (is_end is.entry.call (Replied r)) _ _ _ ages.own live) in
      let told : transcript_events s.pid (is.entry ∷ []) ≡ e ∷ [] = ap (λ (a : Answer). events_of s.pid is.entry.call a []) answer in
      let whole : own_part s.pid (before.events ++ e ∷ []) ≡ own_part s.pid before.events ++ transcript_events s.pid (is.entry ∷ []) = own-same s.pid before.events e refl ∙ ap (λ (l : List Event). own_part s.pid before.events ++ l) (sym told) in
      let mine : IsStrand script after.machine (before.events ++ e ∷ []) t = strand-own script before.machine after.machine before.events (before.events ++ e ∷ []) s t is.entry command notes old less next live aged whole (λ none. absurd (let both = sym answer ∙ none in cc)) in
      let each : All (IsStrand script after.machine (before.events ++ e ∷ [])) (set ss k t) =
      each-set (IsStrand script before.machine before.events) (IsStrand script after.machine (before.events ++ e ∷ [])) ss k t lt running.each
      (λ j d less apart strand. strand-other script before.machine after.machine before.events e (get_or ss j d) ages (others j d less apart) strand) mine in
      let admitted : IsAdmitted script.processes e = record { declared = declared; live = found before.machine n e after.machine called.move_of parts.1 } in
      record {
        moments = moves.0;
        moves = moves.1;
        started = record { opening = called.opening ∙ running.started.opening; began = GoesOn-trans start.memory.swap before.memory.swap after.memory.swap running.started.began called.keeps.goes_on };
        pids = running.pids;
        listed = listed;
        each = subst (λ (h : List Event). All (IsStrand script after.machine h) (set ss k t)) (sym called.recorded) each;
        events = subst (All (IsAdmitted script.processes)) (sym called.recorded) (All-push (IsAdmitted script.processes) before.events e running.events admitted);
        room = omega (arith, left, running.room, called.room);
      }
  by HostMemory answer (same, grows, takes) =
      let goes : is_end is.entry.call is.entry.answer ≡ false = ap (is_end is.entry.call) answer ∙ never-ends is.entry.call in
      let aged : MatchBool (is_end is.entry.call is.entry.answer) (life_from s.pid before.machine.runners ≡ Some Ended) (IsLive s.pid before.machine.runners) = rw goes live in
      let told : transcript_events s.pid (is.entry ∷ []) ≡ [] = ap (λ (a : Answer). events_of s.pid is.entry.call a []) answer in
      let whole : own_part s.pid before.events ≡ own_part s.pid before.events ++ transcript_events s.pid (is.entry ∷ []) = sym (ap (λ (l : List Event). own_part s.pid before.events ++ l) told ∙ append-nil (own_part s.pid before.events)) in
      let mine : IsStrand script before.machine before.events t = strand-own script before.machine before.machine before.events before.events s t is.entry command notes old less next live aged whole (λ none. takes) in
      let each : All (IsStrand script before.machine before.events) (set ss k t) =
      each-set (IsStrand script before.machine before.events) (IsStrand script before.machine before.events) ss k t lt running.each (λ j d less apart strand. strand) mine in
      record {
        moments = moves.0;
        moves = moves.1;
        started = subst (StartedFrom start.opening start.memory.swap) (sym same) (record { opening = running.started.opening; began = running.started.began });
        pids = running.pids;
        listed = listed;
        each = subst (λ (w : WorldState). All (IsStrand script w.machine w.events) (set ss k t)) (sym same) each;
        events = subst (λ (w : WorldState). All (IsAdmitted script.processes) w.events) (sym same) running.events;
        room = omega (arith, left, running.room, grows);
      }

  pub running-step : IsRunning script start after (set ss k t) made
  running-step = by is.entry.answer refl is.answered
