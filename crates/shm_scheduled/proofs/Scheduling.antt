-- A run with threads is that of a schedule.
use Rattle.std.proofs.Common.{◌≡◌, ◌≢◌, ◌≤◌, ◌⊎◌, ℕ, ◌+◌, ◌==◌, ◌++◌, Bool, true, false, List, [], ◌∷◌, map, length, Option, Some, None, cond, is_some, All, option_map, inl, inr, refl, sym, ap, subst, ◌∙◌, arith, eq-eqb, true≢false, append-nil, append_assoc, length-append}
use Rattle.std.proofs.lemmas.Bool.{and_from, cases_Bool, or_parts}
use Rattle.std.proofs.lemmas.List.Elements.{All-head, All-tail, filter-append}
use Rattle.shm_base.specs.History.{IsHistory, IsStep, LeadsFrom, own_part}
use Rattle.shm_base.specs.Processes.{has_pid}
use Rattle.shm_base.specs.State.{Machine, Opening, start_of}
use Rattle.shm_base.specs.Callers.{Caller, Outcome, caller_of}
use Rattle.shm_base.specs.Step.{step_by}
use Rattle.shm_base.specs.Calls.{ProcessCall}
use Rattle.shm_base.specs.declared.call.Event.{Event}
use Rattle.shm_base.specs.declared.call.Process.{Process}
use Rattle.shm_base.specs.declared.call.Reply.{Reply}
use Rattle.shm_base.specs.declared.call.Reply.TheVariants.{Refused}
use Rattle.shm_base.specs.declared.errno.Errno.TheVariants.{Esrch}
use Rattle.shm_history.proofs.Clear.{clear_step, first_clear, rest_clear}
use Rattle.shm_history.specs.WorldState.{WorldState, failures_in}
use Rattle.shm_text.specs.Script.{ScriptView}
use Rattle.shm_text.specs.Variables.{no_values}
use Rattle.shm_threads.specs.Transcripts.{Follows, IsAdmitted, IsThrough, IsTranscript, commands_of, is_child, is_forked, pid_in, pid_of, transcript_events}
use Rattle.shm_threads.specs.declared.transcript.Entry.{Entry}
use Rattle.shm_threads.specs.declared.transcript.Transcript.{Transcript}
use Rattle.shm_program.specs.Runs.{opening_of}
use Rattle.shm_schedules.specs.Schedules.{IsOver, IsSchedule, Leads, Run, after, goes, is_live, next, next_call, replies_to, reply_of, schedule_of, start}
use Rattle.shm_outcomes.specs.Masking.{AreMaskedOutcomes}
use Rattle.shm_outcomes.specs.Search.{AreOutcomes}
use Rattle.shm_schedules.specs.Finding.{Finding}
use Rattle.shm_print.specs.Text.{events_text}
use Rattle.shm_program.specs.Values.{fresh_holder}
use Rattle.shm_program.specs.Listing.{listing_of}
use Rattle.shm_runner.specs.Flat.{flat_end}
use Rattle.shm_slots.specs.View.{SwapView}
use Rattle.shm_runner.specs.Marks.{has_mark, have_mark}
use Rattle.shm_runner.specs.Threaded.{IsThreadedOutput}
use Rattle.shm_scheduled.specs.Ordered.{in_order}
use Rattle.shm_scheduled.specs.Scheduled.{AreSerial, IsClear, IsScheduled, IsSerial, run_of}
use Rattle.shm_scheduled.proofs.Asking.{all-made, asked, none-left, none-more}
use Rattle.shm_scheduled.proofs.Reordering.{as-serial}

-- ONE TRANSCRIPT FOR EACH PROCESS

-- the calls and replies of a declared process: a transcript without marks, with all its lines if it is live at the end
record Told (script : ScriptView) (history : List Event) (end : Machine) (pid : ℕ) : Type 0 where
  entries : List Entry
  clear : has_mark entries ≡ false
  own : transcript_events pid entries ≡ own_part pid history
  lines : Follows no_values (commands_of pid script.lines) entries ⊎ ((is_child pid script.processes ≡ true) × (entries ≡ []) × (is_forked pid history ≡ false))
  through : is_live end pid ≡ true → length (commands_of pid script.lines) ≤ length entries

module _ (script : ScriptView) (history : List Event) (end : Machine) where
  told-by : (t : Transcript) → IsTranscript script history t → IsThrough script end t → has_mark t.entries.items ≡ false → Told script history end t.pid
  told-by t is through clear = record { entries = t.entries.items; clear = clear; own = is.own; lines = is.lines; through = through }

  told-in : (ps : List Process) (all : List Transcript) → map pid_of all ≡ map pid_in ps → All (IsTranscript script history) all → All (IsThrough script end) all → have_mark all ≡ false
      → (pid : ℕ) → has_pid pid ps ≡ true → Told script history end pid
  told-in [] all same each through clear pid has = absurd (cc has)
  told-in (p ∷ ps) [] same each through clear pid has = absurd (cc same)
  told-in (p ∷ ps) (t ∷ ts) same each through clear pid has =
      let parts = or_parts (has_mark t.entries.items) (have_mark ts) clear in
      let first : t.pid ≡ p.pid = cc same in
      let rest : map pid_of ts ≡ map pid_in ps = cc same in
      elim (cases_Bool (p.pid == pid)) [
        | inl own ↦ (let here : t.pid ≡ pid = grind (arith, first, own) in subst (Told script history end) here (told-by t (All-head (IsTranscript script history) t ts each) (All-head (IsThrough script end) t ts through) parts.0))
        | inr other ↦ told-in ps ts rest (All-tail (IsTranscript script history) t ts each) (All-tail (IsThrough script end) t ts through) parts.1 pid (rw other at has)
      ]

-- THE WALK

live-by : (s t : Machine) (n : ℕ) (call : ProcessCall) (reply : Reply) (o : Option Caller) → step_by s n call o ≡ record { reply = reply; state = t } → reply ≢ Refused Esrch → is_some o ≡ true
live-by s t n call reply None is live = absurd (live (sym (ap (λ (x : Outcome). x.reply) is)))
live-by s t n call reply (Some c) is live = refl

own-split : (pid : ℕ) (before : List Event) (e : Event) (more : List Event) → e.pid ≡ pid → own_part pid (before ++ e ∷ more) ≡ own_part pid before ++ e ∷ own_part pid more
own-split pid before e more own =
    let first : own_part pid (e ∷ more) ≡ e ∷ own_part pid more = rw (eq-eqb e.pid pid own) refl in
    filter-append (λ (x : Event). x.pid == pid) before (e ∷ more) ∙ ap (λ (l : List Event). own_part pid before ++ l) first

asked-if : (b : Bool) (o : Option ProcessCall) → b ≡ true → cond b o None ≡ o
asked-if true o is = refl
asked-if false o is = absurd (true≢false (sym is))

module _ (script : ScriptView) (history : List Event) (end : Machine) (told : (pid : ℕ) → has_pid pid script.processes ≡ true → Told script history end pid) where
  next-is : (before : List Event) (e : Event) (more : List Event) → before ++ e ∷ more ≡ history → has_pid e.pid script.processes ≡ true
      → next_call e.pid no_values script.lines (replies_to e.pid before) ≡ Some e.call
  next-is before e more whole has = by t.lines
    where
      t : Told script history end e.pid
      t = told e.pid has

      own : transcript_events e.pid t.entries ≡ own_part e.pid before ++ e ∷ own_part e.pid more
      own = t.own ∙ ap (own_part e.pid) (sym whole) ∙ own-split e.pid before e more refl

      by : Follows no_values (commands_of e.pid script.lines) t.entries ⊎ ((is_child e.pid script.processes ≡ true) × (t.entries ≡ []) × (is_forked e.pid history ≡ false))
          → next_call e.pid no_values script.lines (replies_to e.pid before) ≡ Some e.call
      by (inl follows) = asked e.pid no_values script.lines t.entries (own_part e.pid before) e (own_part e.pid more) follows t.clear own
      by (inr (child, none, unforked)) = absurd (none-more (own_part e.pid before) e (own_part e.pid more) (ap (transcript_events e.pid) (sym none) ∙ own))

  -- each event is the next line of its process
  goes-is : (before : List Event) (s : Machine) (e : Event) (u : Machine) (more : List Event) → before ++ e ∷ more ≡ history → IsStep s (length before + 1) e u → IsAdmitted script.processes e
      → goes script e.pid (run_of before s) ≡ Some (run_of (before ++ e ∷ []) u)
  goes-is before s e u more whole stepped admitted =
      let run = run_of before s in
      let live = live-by s u (length before + 1) e.call e.reply (caller_of s e.pid) stepped admitted.live in
      let may = and_from (has_pid e.pid script.processes) (is_live s e.pid) admitted.declared live in
      let call : next script run e.pid ≡ Some e.call = asked-if _ (next_call e.pid no_values script.lines (replies_to e.pid before)) may ∙ next-is before e more whole admitted.declared in
      let made : after run e.pid e.call ≡ run_of (before ++ e ∷ []) u =
      ap (λ (o : Outcome). run_of (before ++ record { pid = e.pid; call = e.call; reply = o.reply } ∷ []) o.state) stepped in
      ap (option_map (after run e.pid)) call ∙ ap (λ (r : Run). Some r) made

  walk : (before : List Event) (s : Machine) (es : List Event) (t : Machine) → before ++ es ≡ history → LeadsFrom (length before + 1) s es t → failures_in es ≡ 0 → All (IsAdmitted script.processes) es
      → Leads script (schedule_of es) (run_of before s) (run_of (before ++ es) t)
  walk before s [] t whole leads none admitted = λ i. record { machine = sym leads i; events = sym (append-nil before) i }
  walk before s (e ∷ es) t whole leads none admitted =
      let stepped = clear_step s (length before + 1) e leads.0 (first_clear e es none) leads.1 in
      let longer : length before + 1 + 1 ≡ length (before ++ e ∷ []) + 1 = let sum = length-append before (e ∷ []) in omega (arith, sum) in
      let rest = subst (λ (n : ℕ). LeadsFrom n leads.0 es t) longer leads.2 in
      let joined : (before ++ e ∷ []) ++ es ≡ before ++ e ∷ es = append_assoc before (e ∷ []) es in (
        run_of (before ++ e ∷ []) leads.0,
        goes-is before s e leads.0 es whole stepped (All-head (IsAdmitted script.processes) e es admitted),
        subst (λ (l : List Event). Leads script (schedule_of es) (run_of (before ++ e ∷ []) leads.0) (run_of l t)) joined
            (walk (before ++ e ∷ []) leads.0 es t (joined ∙ whole) rest (rest_clear e es none) (All-tail (IsAdmitted script.processes) e es admitted)),
      )

  -- THE END

  -- a declared process that lives at the end has no line left
  out : (pid : ℕ) → has_pid pid script.processes ≡ true → is_live end pid ≡ true → next_call pid no_values script.lines (replies_to pid history) ≡ None
  out pid has live = subst (λ (l : List Reply). next_call pid no_values script.lines l ≡ None) replies (by t.lines)
    where
      t : Told script history end pid
      t = told pid has

      replies : map reply_of (transcript_events pid t.entries) ≡ replies_to pid history
      replies = ap (λ (es : List Event). map reply_of es) t.own

      all : length (commands_of pid script.lines) ≤ length t.entries
      all = t.through live

      by : Follows no_values (commands_of pid script.lines) t.entries ⊎ ((is_child pid script.processes ≡ true) × (t.entries ≡ []) × (is_forked pid history ≡ false))
          → next_call pid no_values script.lines (map reply_of (transcript_events pid t.entries)) ≡ None
      by (inl follows) = all-made pid no_values script.lines t.entries follows t.clear all
      by (inr (child, none, unforked)) =
          subst (λ (es : List Entry). next_call pid no_values script.lines (map reply_of (transcript_events pid es)) ≡ None) (sym none)
          (none-left pid no_values script.lines (subst (λ (es : List Entry). length (commands_of pid script.lines) ≤ length es) none all))

  over : IsOver script (run_of history end)
  over pid = ap (option_map (after (run_of history end) pid)) (none (has_pid pid script.processes) (is_live end pid) refl refl)
    where
      none : (has live : Bool) → has_pid pid script.processes ≡ has → is_live end pid ≡ live → next script (run_of history end) pid ≡ None
      none true true h l = asked-if _ (next_call pid no_values script.lines (replies_to pid history)) (and_from (has_pid pid script.processes) (is_live end pid) h l) ∙ out pid h l
      none true false h l = rw (h, l) refl
      none false live h l = rw h refl

-- THE LAW

pub are_scheduled : (script : ScriptView) (w : WorldState) (all : List Transcript) → IsHistory w.opening w.events w.machine → IsClear script w all → IsScheduled script w.opening.areas w.events w.machine
are_scheduled script w all legal clear =
    let areas = w.opening.areas in
    let leads : LeadsFrom 1 (start_of (opening_of script areas)) w.events w.machine = subst (λ (o : Opening). LeadsFrom 1 (start_of o) w.events w.machine) clear.opened.is legal in
    let told = told-in script w.events w.machine script.processes all clear.run.processes clear.run.each clear.run.through clear.unmarked in
    let walked = walk script w.events w.machine told [] (start_of (opening_of script areas)) w.events w.machine refl leads clear.unfailing clear.run.events in
    let ended = over script w.events w.machine told in
    let serial = as-serial script areas (schedule_of w.events) (run_of w.events w.machine) walked in
    let start = start_of (opening_of script areas) in
    let hs = map fresh_holder script.processes in
    let lines = in_order (schedule_of w.events) script.lines in
    record {
      schedule = (walked, ended);
      listed = λ found list. list.complete (schedule_of w.events) (run_of w.events w.machine) (walked, ended);
      masked = λ found list. list.complete (schedule_of w.events) (run_of w.events w.machine) (walked, ended);
      serial = record { lines = serial.lines; replies = serial.events };
      printed = ap (λ (es : List Event). events_text 1 es ++ listing_of (flat_end 1 start hs lines)) serial.events ∙ ap (λ (m : Machine). events_text 1 w.events ++ listing_of m) serial.machine;
    }

-- the run of a schedule is that of the script with its lines in that order
serial-by : (script : ScriptView) (areas : List ℕ) (events : List Event) (end : Run) → IsSchedule script (start script areas) (schedule_of events) end → end.events ≡ events → IsSerial script areas events
serial-by script areas events end schedule same =
    let serial = as-serial script areas (schedule_of events) end schedule.0 in
    record { lines = serial.lines; replies = serial.events ∙ same }

-- so is the world whose text a run with threads wrote
pub printed_scheduled : {P : Type 0} (failed : P → ℕ) (swap : SwapView) (script : ScriptView) (areas text : List ℕ) (out : IsThreadedOutput failed swap false script areas text) → failures_in out.world.events ≡ 0 → IsScheduled script areas out.world.events out.world.machine
printed_scheduled failed swap script areas text out none =
    subst (λ (sizes : List ℕ). IsScheduled script sizes out.world.events out.world.machine) out.is_world.over
    (are_scheduled script out.world out.transcripts out.is_world.sound.legal (record { opened = out.is_world.opened; run = out.is_run; unmarked = out.marks; unfailing = none }))

pub found_serial : (script : ScriptView) (areas : List ℕ) (found : List Finding) → AreOutcomes script (start script areas) found → AreSerial script areas found
found_serial script areas found list k d lt = let f = list.sound k d lt in serial-by script areas _ f.0 f.1 f.2

pub masked_serial : (script : ScriptView) (areas : List ℕ) (found : List Finding) → AreMaskedOutcomes script (start script areas) found → AreSerial script areas found
masked_serial script areas found list k d lt = let f = list.sound k d lt in serial-by script areas _ f.0 f.1 f.2
