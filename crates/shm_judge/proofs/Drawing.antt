-- Schedules that are drawn.
use Rattle.shm_judge.proofs.Names.{◌≡◌, ◌<◌, ◌≤◌, ℕ, suc, ◌+◌, ◌-◌, ◌==◌, ◌&&◌, Bool, true, false, cond, if◌then◌else◌, List, [], ◌∷◌, ◌++◌, map, All, length, Option, Some, None, option_map, ap, refl, sym, subst, ◌∙◌, arith, inl, inr, length-append, cases_Bool, map-append, All-append, All-contains, filter-append, none-some, Stream, own_part, has_pid, step, ProcessCall, Event, Process, Reply, ScriptView, no_values, values_after, Line, Command, Flush, AreSamples, IsDrawn, IsPutSample, IsSample, LeadsDrawn, below, one_turn, turns, turns_of, Run, after, goes, is_live, next, next_call, replies_to, reply_of, Leads, IsOver, schedule_of, followers, Turn, goes-schedule, has-cases, none-over}

-- WHO CAN GO ON

one-all : (P : Turn → Type 0) (pid : ℕ) (o : Option ProcessCall) → ((call : ProcessCall) → o ≡ Some call → P (record { pid = pid; call = call })) → All P (one_turn pid o)
one-all P pid None each = λ k d lt. absurd (omega (arith, lt))
one-all P pid (Some call) each = λ k d lt. (let e : k ≡ 0 = omega (arith, lt) in rw e (each call refl))

-- a turn is the next call of its process
abbrev IsNext : ScriptView → Run → Turn → Type 0
IsNext script run turn = next script run turn.pid ≡ Some turn.call

turns-next : (script : ScriptView) (run : Run) (ps : List Process) → All (IsNext script run) (turns_of script run ps)
turns-next script run [] = λ k d lt. absurd (omega (arith, lt))
turns-next script run (p ∷ ps) =
    All-append (IsNext script run) (one_turn p.pid (next script run p.pid)) (turns_of script run ps)
    (one-all (IsNext script run) p.pid (next script run p.pid) (λ call h. h)) (turns-next script run ps)

-- a turn that is drawn is the next call of its process
pub drawn-next : (script : ScriptView) (run : Run) (stream rest : Stream) (turn : Turn) → IsDrawn (turns script run) stream turn rest → next script run turn.pid ≡ Some turn.call
drawn-next script run stream rest turn drawn =
    All-contains (IsNext script run) (turns script run) turn (turns-next script run script.processes) ((below (length (turns script run)) stream).0, drawn.within, drawn.chosen)

pub drawn-goes : (script : ScriptView) (run : Run) (stream rest : Stream) (turn : Turn) → IsDrawn (turns script run) stream turn rest → goes script turn.pid run ≡ Some (after run turn.pid turn.call)
drawn-goes script run stream rest turn drawn = ap (option_map (after run turn.pid)) (drawn-next script run stream rest turn drawn)

-- where no process has a turn the run is over
no-followers : (script : ScriptView) (run : Run) (ps : List Process) → turns_of script run ps ≡ [] → followers script ps run ≡ []
no-followers script run [] none = refl
no-followers script run (p ∷ ps) none =
    let split = no-turn p.pid (next script run p.pid) (turns_of script run ps) none in
    rw split.0 (no-followers script run ps split.1)
  where
    no-turn : (pid : ℕ) (o : Option ProcessCall) (rest : List Turn) → one_turn pid o ++ rest ≡ [] → (o ≡ None) × (rest ≡ [])
    no-turn pid None rest none = (refl, none)
    no-turn pid (Some call) rest none = absurd (cc)

pub turnless-over : (script : ScriptView) (run : Run) → turns script run ≡ [] → IsOver script run
turnless-over script run none = none-over script run (no-followers script run script.processes none)

-- THE SCHEDULE

-- a schedule continues with a process that is drawn
pub drawn-more :
    (script : ScriptView) (schedule : List ℕ) (a b : Run) (stream mid rest : Stream) (turn : Turn)
    → LeadsDrawn script schedule a b stream mid → IsDrawn (turns script b) mid turn rest
    → LeadsDrawn script (schedule ++ turn.pid ∷ []) a (after b turn.pid turn.call) stream rest
drawn-more script [] a b stream mid rest turn h drawn = (
  turn,
  rest,
  subst (λ (s : Stream). IsDrawn (turns script a) s turn rest) (sym h.1) (subst (λ (r : Run). IsDrawn (turns script r) mid turn rest) (sym h.0) drawn),
  refl,
  (ap (λ (r : Run). after r turn.pid turn.call) h.0, refl),
)
drawn-more script (pid ∷ schedule) a b stream mid rest turn h drawn =
    (h.0, h.1, h.2, h.3, drawn-more script schedule (after a pid h.0.call) b h.1 mid rest turn h.4 drawn)

-- it is a schedule
pub drawn-leads : (script : ScriptView) (schedule : List ℕ) (a b : Run) (stream rest : Stream) → LeadsDrawn script schedule a b stream rest → Leads script schedule a b
drawn-leads script [] a b stream rest h = h.0
drawn-leads script (pid ∷ schedule) a b stream rest h = (
  after a pid h.0.call,
  subst (λ (p : ℕ). goes script p a ≡ Some (after a p h.0.call)) h.3 (drawn-goes script a stream h.1 h.0 h.2),
  drawn-leads script schedule (after a pid h.0.call) b h.1 rest h.4,
)

-- one more process was drawn
pub one-more :
    (script : ScriptView) (first run next : Run) (stream mid rest : Stream) (turn : Turn)
    → LeadsDrawn script (schedule_of run.events) first run stream mid → IsDrawn (turns script run) mid turn rest → next ≡ after run turn.pid turn.call
    → LeadsDrawn script (schedule_of next.events) first next stream rest
one-more script first run next stream mid rest turn led drawn is =
    let then_run : Run = after run turn.pid turn.call in
    let schedule = goes-schedule script turn.pid run then_run (drawn-goes script run mid rest turn drawn) in
    subst (λ (r : Run). LeadsDrawn script (schedule_of r.events) first r stream rest) (sym is)
    (subst (λ (s : List ℕ). LeadsDrawn script s first then_run stream rest) (sym schedule) (drawn-more script (schedule_of run.events) first run stream mid rest turn led drawn))

-- no process can continue
pub whole :
    (script : ScriptView) (first run : Run) (events : List Event) (stream mid rest : Stream)
    → LeadsDrawn script (schedule_of run.events) first run stream mid → turns script run ≡ [] → rest ≡ mid → events ≡ run.events → IsSample script first stream events rest
whole script first run events stream mid rest led none left is =
    subst (λ (es : List Event). IsSample script first stream es rest) (sym is)
    (record {
      end = run;
      schedule = (drawn-leads script (schedule_of run.events) first run stream mid led, turnless-over script run none);
      is = refl;
      drawn = subst (λ (s : Stream). LeadsDrawn script (schedule_of run.events) first run stream s) (sym left) led;
    })

-- one more run
pub samples-more :
    (script : ScriptView) (first : Run) (n : ℕ) (stream mid rest : Stream) (before text : List ℕ)
    → AreSamples script first n stream mid before → IsPutSample script first (n + 1) mid rest before text → AreSamples script first (n + 1) stream rest text
samples-more script first n stream mid rest before text are put =
    let next : n + 1 ≡ suc n = omega arith in
    subst (λ (k : ℕ). AreSamples script first k stream rest text) (sym next)
    (mid, before, are, subst (λ (k : ℕ). IsPutSample script first k mid rest before text) next put)

-- WHAT IS LEFT TO BE RUN

-- how many lines a process has
abbrev own_lines : ℕ → List Line → ℕ
own_lines pid [] = 0
own_lines pid (Flush pages ∷ lines) = own_lines pid lines
own_lines pid (Command c ∷ lines) = if c.pid == pid then own_lines pid lines + 1 else own_lines pid lines

-- a process that can continue has fewer replies than lines
next-fewer : (pid : ℕ) (values : List (Option ℕ)) (lines : List Line) (replies : List Reply) (call : ProcessCall) → next_call pid values lines replies ≡ Some call → length replies < own_lines pid lines
next-fewer pid values [] replies call h = absurd (none-some call h)
next-fewer pid values (Flush pages ∷ lines) replies call h = next-fewer pid values lines replies call h
next-fewer pid values (Command c ∷ lines) [] call h =
    elim (cases_Bool (c.pid == pid)) [
      | inl same ↦ rw same (omega arith)
      | inr other ↦ (let k : next_call pid values lines [] ≡ Some call = grind (arith, h, other) in rw other (next-fewer pid values lines [] call k))
    ]
next-fewer pid values (Command c ∷ lines) (r ∷ replies) call h =
    elim (cases_Bool (c.pid == pid)) [
      | inl same ↦
          let k : next_call pid (values_after values c.var (Some r)) lines replies ≡ Some call = grind (arith, h, same) in
          let few = next-fewer pid (values_after values c.var (Some r)) lines replies call k in
          rw same (omega (arith, few))
      | inr other ↦ (let k : next_call pid values lines (r ∷ replies) ≡ Some call = grind (arith, h, other) in rw other (next-fewer pid values lines (r ∷ replies) call k))
    ]

-- how many lines these processes have left
abbrev pub lines_left : ScriptView → List Process → Run → ℕ
lines_left script [] run = 0
lines_left script (p ∷ ps) run = (own_lines p.pid script.lines - length (replies_to p.pid run.events)) + lines_left script ps run

replies-more : (pid : ℕ) (events : List Event) (e : Event) → length (replies_to pid (events ++ e ∷ [])) ≡ length (replies_to pid events) + length (replies_to pid (e ∷ []))
replies-more pid events e =
    ap length (ap (map reply_of) (filter-append (λ (x : Event). x.pid == pid) events (e ∷ [])) ∙ map-append reply_of (own_part pid events) (own_part pid (e ∷ [])))
    ∙ length-append (replies_to pid events) (replies_to pid (e ∷ []))

module _ (script : ScriptView) (run : Run) (pid : ℕ) (call : ProcessCall) where
  abbrev more : Run
  more = after run pid call

  abbrev made : Event
  made = record { pid = pid; call = call; reply = (step run.machine (length run.events + 1) pid call).reply }

  no-more : (ps : List Process) → lines_left script ps more ≤ lines_left script ps run
  no-more [] = omega arith
  no-more (p ∷ ps) =
      let rest = no-more ps in
      let one_reply = replies-more p.pid run.events made in
      omega (arith, rest, one_reply)

  one-less : (p : Process) (ps : List Process) → p.pid ≡ pid → length (replies_to pid run.events) < own_lines pid script.lines → lines_left script (p ∷ ps) more < lines_left script (p ∷ ps) run
  one-less p ps same few =
      let rest = no-more ps in
      let one_reply = replies-more pid run.events made in
      let one : length (replies_to pid (made ∷ [])) ≡ 1 = grind (arith) in
      rw same (omega (arith, rest, one_reply, one, few))

  fewer : (ps : List Process) → has_pid pid ps ≡ true → length (replies_to pid run.events) < own_lines pid script.lines → lines_left script ps more < lines_left script ps run
  fewer [] has few = absurd (cc)
  fewer (p ∷ ps) has few =
      elim (has-cases pid p ps has) [
        | inl same ↦ one-less p ps same few
        | inr there ↦
            let rest = fewer ps there few in
            let one_reply = replies-more p.pid run.events made in
            omega (arith, rest, one_reply)
      ]

  pub fewer-left : next script run pid ≡ Some call → lines_left script script.processes more < lines_left script script.processes run
  fewer-left h =
      let test = test-both (has_pid pid script.processes) (is_live run.machine pid) (next_call pid no_values script.lines (replies_to pid run.events)) call h in
      fewer script.processes test.0 (next-fewer pid no_values script.lines (replies_to pid run.events) call test.1)
    where
      test-both : (a b : Bool) (o : Option ProcessCall) (call : ProcessCall) → cond (a && b) o None ≡ Some call → (a ≡ true) × (o ≡ Some call)
      test-both true true o call h = (refl, h)
      test-both true false o call h = absurd (none-some call h)
      test-both false b o call h = absurd (none-some call h)
