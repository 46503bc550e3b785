-- A script with its lines in the order of a schedule makes the calls and replies of the schedule's run, in file order.
use Rattle.std.proofs.Common.{◌≡◌, ◌≢◌, ℕ, ◌+◌, ◌==◌, ◌&&◌, ◌||◌, ◌++◌, Bool, true, false, List, [], ◌∷◌, map, length, take, Option, Some, None, cond, if◌then◌else◌, inl, inr, refl, sym, ap, subst, ◌∙◌, arith, eq-eqb, ne_eqb, append-nil, append_assoc, length-append}
use Rattle.std.specs.List.{list_any}
use Rattle.std.proofs.lemmas.Bool.{and_parts, cases_Bool, cases_eq}
use Rattle.std.proofs.Math.Seq.{take-append_seam}
use Rattle.std.proofs.lemmas.List.{map-append}
use Rattle.std.proofs.lemmas.List.Elements.{filter-append}
use Rattle.std.proofs.lemmas.Option.{none-some, same_Some}
use Rattle.shm_base.specs.History.{own_part}
use Rattle.shm_base.specs.Processes.{has_pid}
use Rattle.shm_base.specs.State.{start_of}
use Rattle.shm_base.specs.Calls.{ProcessCall}
use Rattle.shm_base.specs.declared.call.Event.{Event}
use Rattle.shm_base.specs.declared.call.Process.{Process}
use Rattle.shm_base.specs.declared.call.Reply.{Reply}
use Rattle.shm_text.specs.Form.{CommandView}
use Rattle.shm_text.specs.Script.{ScriptView}
use Rattle.shm_text.specs.Variables.{call_of, no_values, values_after}
use Rattle.shm_text.specs.declared.script.Line.{Line}
use Rattle.shm_text.specs.declared.script.Line.TheVariants.{Command, Flush}
use Rattle.shm_threads.specs.Transcripts.{commands_of}
use Rattle.shm_program.specs.Runs.{opening_of}
use Rattle.shm_program.specs.Values.{HolderView, fresh_holder, values_of, with_values}
use Rattle.shm_schedules.specs.Schedules.{Leads, Run, after, is_live, next, next_call, replies_to, reply_of, start}
use Rattle.shm_schedules.proofs.Walking.{made-by}
use Rattle.shm_runner.specs.Flat.{flat_end, flat_events, holders_after, line_step}
use Rattle.shm_scheduled.specs.Ordered.{AreOrdered, first_line, in_order, ordered, pids_of, serial_events, without_first}
use Rattle.shm_scheduled.proofs.Asking.{skipped}

-- THE LINES THAT ARE LEFT

-- the next call of a process is that of its first line, and the others come after it
record Taken (pid : ℕ) (values : List (Option ℕ)) (ls : List Line) (call : ProcessCall) : Type 0 where
  command : CommandView
  own : command.pid ≡ pid
  asked : call ≡ call_of values command.call
  first : first_line command.pid ls ≡ Command command ∷ []
  rest : (r : Reply) (replies : List Reply)
      → next_call command.pid values ls (r ∷ replies) ≡ next_call command.pid (values_after values command.var (Some r)) (without_first command.pid ls) replies

taken : (pid : ℕ) (values : List (Option ℕ)) (ls : List Line) (call : ProcessCall) → next_call pid values ls [] ≡ Some call → Taken pid values ls call
taken pid values [] call next = absurd (none-some call next)
taken pid values (Flush pages ∷ ls) call next =
    let t = taken pid values ls call next in
    record { command = t.command; own = t.own; asked = t.asked; first = t.first; rest = t.rest }
taken pid values (Command c ∷ ls) call next =
    elim (cases_eq c.pid pid) [
      | inl own ↦
          let here = eq-eqb c.pid c.pid refl in
          record {
            command = c;
            own = own;
            asked = sym (same_Some _ _ (rw (eq-eqb c.pid pid own) at next));
            first = rw here refl;
            rest = λ r replies. rw here refl;
          }
      | inr other ↦
          let t = taken pid values ls call (rw (ne_eqb c.pid pid other) at next) in
          let no = ne_eqb c.pid t.command.pid (λ e. other (e ∙ t.own)) in
          record {
            command = t.command;
            own = t.own;
            asked = t.asked;
            first = rw no t.first;
            rest = λ r replies. rw no (t.rest r replies ∙ sym (skipped t.command.pid (values_after values t.command.var (Some r)) c (without_first t.command.pid ls) replies no));
          }
    ]

-- a line before or after it makes no difference
under : (p q : ℕ) (c : CommandView) (values : List (Option ℕ)) (ls : List Line) (replies : List Reply)
    → ((later : List (Option ℕ)) (more : List Reply) → next_call q later (without_first p ls) more ≡ next_call q later ls more)
    → next_call q values (Command c ∷ without_first p ls) replies ≡ next_call q values (Command c ∷ ls) replies
under p q c values ls [] rest =
    elim (cases_Bool (c.pid == q)) [
      | inl own ↦ rw own refl
      | inr other ↦ rw other (rest values [])
    ]
under p q c values ls (r ∷ replies) rest =
    elim (cases_Bool (c.pid == q)) [
      | inl own ↦ rw own (rest (values_after values c.var (Some r)) replies)
      | inr other ↦ rw other (rest values (r ∷ replies))
    ]

-- the other processes have the same lines
others : (p q : ℕ) → p ≢ q → (values : List (Option ℕ)) (ls : List Line) (replies : List Reply) → next_call q values (without_first p ls) replies ≡ next_call q values ls replies
others p q apart values [] replies = refl
others p q apart values (Flush pages ∷ ls) replies = others p q apart values ls replies
others p q apart values (Command c ∷ ls) replies =
    elim (cases_eq c.pid p) [
      | inl own ↦ rw (eq-eqb c.pid p own) (sym (skipped q values c ls replies (ne_eqb c.pid q (λ e. apart (sym own ∙ e)))))
      | inr other ↦ rw (ne_eqb c.pid p other) (under p q c values ls replies (λ later more. others p q apart later ls more))
    ]

-- THE LINES IN ORDER

commands-append : (q : ℕ) (xs ys : List Line) → commands_of q (xs ++ ys) ≡ commands_of q xs ++ commands_of q ys
commands-append q [] ys = refl
commands-append q (Flush pages ∷ xs) ys = commands-append q xs ys
commands-append q (Command c ∷ xs) ys =
    elim (cases_Bool (c.pid == q)) [
      | inl own ↦ rw own (ap (λ (l : List CommandView). c ∷ l) (commands-append q xs ys))
      | inr other ↦ rw other (commands-append q xs ys)
    ]

first-other : (p q : ℕ) → p ≢ q → (ls : List Line) → commands_of q (first_line p ls) ≡ []
first-other p q apart [] = refl
first-other p q apart (Flush pages ∷ ls) = first-other p q apart ls
first-other p q apart (Command c ∷ ls) =
    elim (cases_eq c.pid p) [
      | inl own ↦ rw (eq-eqb c.pid p own, ne_eqb c.pid q (λ e. apart (sym own ∙ e))) refl
      | inr other ↦ rw (ne_eqb c.pid p other) (first-other p q apart ls)
    ]

-- the first line of a process and the others have all commands
commands-split : (p q : ℕ) (ls : List Line) → commands_of q ls ≡ commands_of q (first_line p ls) ++ commands_of q (without_first p ls)
commands-split p q [] = refl
commands-split p q (Flush pages ∷ ls) = commands-split p q ls
commands-split p q (Command c ∷ ls) =
    elim (cases_eq c.pid p) [
      | inl first ↦
          elim (cases_Bool (c.pid == q)) [
            | inl own ↦ rw (eq-eqb c.pid p first, own) refl
            | inr other ↦ rw (eq-eqb c.pid p first, other) refl
          ]
      | inr later ↦
          elim (cases_eq c.pid q) [
            | inl own ↦
                let none = first-other p q (λ e. later (own ∙ sym e)) ls in
                let same : commands_of q ls ≡ commands_of q (without_first p ls) = commands-split p q ls ∙ ap (λ (l : List CommandView). l ++ commands_of q (without_first p ls)) none in
                rw (ne_eqb c.pid p later, eq-eqb c.pid q own, none) (ap (λ (l : List CommandView). c ∷ l) same)
            | inr other ↦ rw (ne_eqb c.pid p later, ne_eqb c.pid q other) (commands-split p q ls)
          ]
    ]

-- a process's lines in the order of a schedule are the first of its lines
first-commands : (schedule : List ℕ) (ls : List Line) (q : ℕ) → (left : List CommandView) × (commands_of q ls ≡ commands_of q (in_order schedule ls) ++ left)
first-commands [] ls q = (commands_of q ls, refl)
first-commands (p ∷ schedule) ls q =
    let more = first-commands schedule (without_first p ls) q in
    let later = in_order schedule (without_first p ls) in (
      more.0,
      commands-split p q ls ∙ ap (λ (l : List CommandView). commands_of q (first_line p ls) ++ l) more.1
          ∙ sym (append_assoc (commands_of q (first_line p ls)) (commands_of q later) more.0)
          ∙ ap (λ (l : List CommandView). l ++ more.0) (sym (commands-append q (first_line p ls) later)),
    )

own-order : (schedule : List ℕ) (ls : List Line) (q : ℕ) → commands_of q (in_order schedule ls) ≡ take (length (commands_of q (in_order schedule ls))) (commands_of q ls)
own-order schedule ls q =
    let news = commands_of q (in_order schedule ls) in
    let all = first-commands schedule ls q in
    sym (ap (take (length news)) all.1 ∙ take-append_seam news all.0)

-- THE VARIABLES

abbrev has_holder : ℕ → List HolderView → Bool
has_holder pid hs = list_any (λ (h : HolderView). h.pid == pid) hs

values-put : (hs : List HolderView) (pid q : ℕ) (values : List (Option ℕ)) → has_holder pid hs ≡ true
    → values_of (with_values hs pid values) q ≡ (if pid == q then values else values_of hs q)
values-put [] pid q values has = absurd (cc has)
values-put (h ∷ hs) pid q values has =
    elim (cases_eq h.pid pid) [
      | inl own ↦
          elim (cases_eq pid q) [
            | inl same ↦ rw (eq-eqb h.pid pid own, eq-eqb pid q same, eq-eqb h.pid q (own ∙ same)) refl
            | inr apart ↦ rw (eq-eqb h.pid pid own, ne_eqb pid q apart, ne_eqb h.pid q (λ e. apart (sym own ∙ e))) refl
          ]
      | inr other ↦
          let more = values-put hs pid q values (rw (ne_eqb h.pid pid other) at has) in
          elim (cases_eq h.pid q) [
            | inl same ↦ rw (ne_eqb h.pid pid other, eq-eqb h.pid q same, ne_eqb pid q (λ e. other (same ∙ sym e))) refl
            | inr apart ↦ rw (ne_eqb h.pid pid other, ne_eqb h.pid q apart) more
          ]
    ]

holder-kept : (hs : List HolderView) (pid q : ℕ) (values : List (Option ℕ)) → has_holder q (with_values hs pid values) ≡ has_holder q hs
holder-kept [] pid q values = refl
holder-kept (h ∷ hs) pid q values =
    elim (cases_Bool (h.pid == pid)) [
      | inl own ↦ rw own refl
      | inr other ↦ rw other (ap (λ (b : Bool). (h.pid == q) || b) (holder-kept hs pid q values))
    ]

holder-fresh : (ps : List Process) (pid : ℕ) → has_holder pid (map fresh_holder ps) ≡ has_pid pid ps
holder-fresh [] pid = refl
holder-fresh (p ∷ ps) pid = ap (λ (b : Bool). (p.pid == pid) || b) (holder-fresh ps pid)

values-fresh : (ps : List Process) (pid : ℕ) → values_of (map fresh_holder ps) pid ≡ no_values
values-fresh [] pid = refl
values-fresh (p ∷ ps) pid =
    elim (cases_Bool (p.pid == pid)) [
      | inl own ↦ rw own refl
      | inr other ↦ rw other (values-fresh ps pid)
    ]

-- ONE LINE

replies-own : (before : List Event) (e : Event) (replies : List Reply) → replies_to e.pid (before ++ e ∷ []) ++ replies ≡ replies_to e.pid before ++ e.reply ∷ replies
replies-own before e replies =
    let one : own_part e.pid (e ∷ []) ≡ e ∷ [] = rw (eq-eqb e.pid e.pid refl) refl in
    ap (λ (l : List Event). map reply_of l ++ replies) (filter-append (λ (x : Event). x.pid == e.pid) before (e ∷ []) ∙ ap (λ (l : List Event). own_part e.pid before ++ l) one)
    ∙ ap (λ (l : List Reply). l ++ replies) (map-append reply_of (own_part e.pid before) (e ∷ []))
    ∙ append_assoc (replies_to e.pid before) (e.reply ∷ []) replies

replies-other : (before : List Event) (e : Event) (q : ℕ) → e.pid ≢ q → replies_to q (before ++ e ∷ []) ≡ replies_to q before
replies-other before e q apart =
    let none : own_part q (e ∷ []) ≡ [] = rw (ne_eqb e.pid q apart) refl in
    ap (λ (l : List Event). map reply_of l) (filter-append (λ (x : Event). x.pid == q) before (e ∷ []) ∙ ap (λ (l : List Event). own_part q before ++ l) none ∙ append-nil (own_part q before))

both : (b : Bool) (o : Option ProcessCall) (call : ProcessCall) → cond b o None ≡ Some call → (b ≡ true) × (o ≡ Some call)
both true o call is = (refl, is)
both false o call is = absurd (none-some call is)

module _ (script : ScriptView) where
  -- with these variables the lines that are left ask what the script asks after these events
  abbrev Asks : List Event → List HolderView → List Line → Type 0
  Asks before hs left = (pid : ℕ) (replies : List Reply) → next_call pid no_values script.lines (replies_to pid before ++ replies) ≡ next_call pid (values_of hs pid) left replies

  abbrev Known : List HolderView → Type 0
  Known hs = (pid : ℕ) → has_pid pid script.processes ≡ true → has_holder pid hs ≡ true

  -- so they do after the first line of a process
  asks-on :
      (before : List Event) (hs : List HolderView) (left : List Line) (c : CommandView) (e : Event) → Asks before hs left → has_holder c.pid hs ≡ true → e.pid ≡ c.pid
      → ((r : Reply) (replies : List Reply) → next_call c.pid (values_of hs c.pid) left (r ∷ replies) ≡ next_call c.pid (values_after (values_of hs c.pid) c.var (Some r)) (without_first c.pid left) replies)
      → Asks (before ++ e ∷ []) (with_values hs c.pid (values_after (values_of hs c.pid) c.var (Some e.reply))) (without_first c.pid left)
  asks-on before hs left c e asks has own rest q replies =
      let values = values_after (values_of hs c.pid) c.var (Some e.reply) in
      let put = values-put hs c.pid q values has in
      elim (cases_eq c.pid q) [
        | inl same ↦
            let here : values_of (with_values hs c.pid values) q ≡ values = put ∙ rw (eq-eqb c.pid q same) refl in
            let told : replies_to q (before ++ e ∷ []) ++ replies ≡ replies_to q before ++ e.reply ∷ replies =
            subst (λ (p : ℕ). replies_to p (before ++ e ∷ []) ++ replies ≡ replies_to p before ++ e.reply ∷ replies) (own ∙ same) (replies-own before e replies) in
            let line = subst (λ (p : ℕ). next_call p (values_of hs p) left (e.reply ∷ replies) ≡ next_call p values (without_first c.pid left) replies) same (rest e.reply replies) in
            ap (next_call q no_values script.lines) told ∙ asks q (e.reply ∷ replies) ∙ line
            ∙ ap (λ (v : List (Option ℕ)). next_call q v (without_first c.pid left) replies) (sym here)
        | inr apart ↦
            let there : values_of (with_values hs c.pid values) q ≡ values_of hs q = put ∙ rw (ne_eqb c.pid q apart) refl in
            ap (λ (l : List Reply). next_call q no_values script.lines (l ++ replies)) (replies-other before e q (λ same. apart (sym own ∙ same)))
            ∙ asks q replies ∙ sym (others c.pid q apart (values_of hs q) left replies)
            ∙ ap (λ (v : List (Option ℕ)). next_call q v (without_first c.pid left) replies) (sym there)
      ]

  -- what these lines make of the flat machine is what the schedule of their pids leads to
  record Makes (schedule : List ℕ) (run : Run) (hs : List HolderView) (ls : List Line) (new : Run) : Type 0 where
    pids : pids_of ls ≡ schedule
    events : new.events ≡ run.events ++ flat_events (length run.events + 1) run.machine hs ls
    machine : new.machine ≡ flat_end (length run.events + 1) run.machine hs ls

  -- one line more
  makes-more : (schedule : List ℕ) (c : CommandView) (run : Run) (hs : List HolderView) (ls : List Line) (new : Run)
      → Makes schedule (after run c.pid (call_of (values_of hs c.pid) c.call)) (holders_after run.machine (length run.events + 1) hs c) ls new → Makes (c.pid ∷ schedule) run hs (Command c ∷ ls) new
  makes-more schedule c run hs ls new made =
      let n = length run.events + 1 in
      let call = call_of (values_of hs c.pid) c.call in
      let step = line_step run.machine n hs c in
      let one : Event = record { pid = c.pid; call = call; reply = step.reply } in
      let longer : length (run.events ++ one ∷ []) + 1 ≡ n + 1 = let sum = length-append run.events (one ∷ []) in omega (arith, sum) in
      let later = holders_after run.machine n hs c in
      record {
        pids = ap (λ (l : List ℕ). c.pid ∷ l) made.pids;
        events =
            made.events ∙ append_assoc run.events (one ∷ []) (flat_events (length (run.events ++ one ∷ []) + 1) step.state later ls)
            ∙ ap (λ (k : ℕ). run.events ++ one ∷ flat_events k step.state later ls) longer;
        machine = made.machine ∙ ap (λ (k : ℕ). flat_end k step.state later ls) longer;
      }

  serially : (schedule : List ℕ) (run new : Run) (hs : List HolderView) (left : List Line) → Asks run.events hs left → Known hs → Leads script schedule run new
      → Makes schedule run hs (in_order schedule left) new
  serially [] run new hs left asks known leads = record { pids = refl; events = ap (λ (r : Run). r.events) (sym leads) ∙ sym (append-nil run.events); machine = ap (λ (r : Run). r.machine) (sym leads) }
  serially (pid ∷ schedule) run new hs left asks known (mid, went, leads) =
      let made = made-by (next script run pid) run pid mid went in
      let call = made.0 in
      let may = both (has_pid pid script.processes && is_live run.machine pid) (next_call pid no_values script.lines (replies_to pid run.events)) call made.1 in
      let declared = (and_parts (has_pid pid script.processes) (is_live run.machine pid) may.0).0 in
      let asked : next_call pid (values_of hs pid) left [] ≡ Some call = sym (asks pid []) ∙ ap (next_call pid no_values script.lines) (append-nil (replies_to pid run.events)) ∙ may.1 in
      let t = taken pid (values_of hs pid) left call asked in
      let c = t.command in
      let same : call ≡ call_of (values_of hs c.pid) c.call = t.asked ∙ ap (λ (p : ℕ). call_of (values_of hs p) c.call) (sym t.own) in
      let here : mid ≡ after run c.pid (call_of (values_of hs c.pid) c.call) = sym made.2 ∙ ap (after run pid) same ∙ ap (λ (p : ℕ). after run p (call_of (values_of hs c.pid) c.call)) (sym t.own) in
      let has : has_holder c.pid hs ≡ true = ap (λ (p : ℕ). has_holder p hs) t.own ∙ known pid declared in
      let rest = subst (λ (p : ℕ). (r : Reply) (replies : List Reply) → next_call c.pid (values_of hs p) left (r ∷ replies) ≡ next_call c.pid (values_after (values_of hs p) c.var (Some r)) (without_first c.pid left) replies) (sym t.own) t.rest in
      let n = length run.events + 1 in
      let one : Event = record { pid = c.pid; call = call_of (values_of hs c.pid) c.call; reply = (line_step run.machine n hs c).reply } in
      let later = holders_after run.machine n hs c in
      let more = serially schedule (after run c.pid (call_of (values_of hs c.pid) c.call)) new later (without_first c.pid left)
      (asks-on run.events hs left c one asks has refl rest)
      (λ p d. holder-kept hs c.pid p _ ∙ known p d)
      (subst (λ (r : Run). Leads script schedule r new) here leads) in
      let lines : Command c ∷ in_order schedule (without_first c.pid left) ≡ first_line pid left ++ in_order schedule (without_first pid left) =
      ap (λ (l : List Line). l ++ in_order schedule (without_first c.pid left)) (sym t.first) ∙ ap (λ (p : ℕ). first_line p left ++ in_order schedule (without_first p left)) t.own in
      subst (λ (l : List Line). Makes (pid ∷ schedule) run hs l new) lines
      (subst (λ (p : ℕ). Makes (p ∷ schedule) run hs (Command c ∷ in_order schedule (without_first c.pid left)) new) t.own
      (makes-more schedule c run hs (in_order schedule (without_first c.pid left)) new more))

-- the serial run of the lines in the order of a schedule, from the start
pub record Serially (script : ScriptView) (areas : List ℕ) (schedule : List ℕ) (end : Run) : Type 0 where
  pub lines : AreOrdered schedule script.lines (in_order schedule script.lines)
  pub events : serial_events (ordered schedule script) areas ≡ end.events
  pub machine : flat_end 1 (start_of (opening_of script areas)) (map fresh_holder script.processes) (in_order schedule script.lines) ≡ end.machine

pub as-serial : (script : ScriptView) (areas : List ℕ) (schedule : List ℕ) (end : Run) → Leads script schedule (start script areas) end → Serially script areas schedule end
as-serial script areas schedule end leads =
    let hs = map fresh_holder script.processes in
    let made = serially script schedule (start script areas) end hs script.lines
    (λ pid replies. ap (λ (v : List (Option ℕ)). next_call pid v script.lines replies) (sym (values-fresh script.processes pid)))
    (λ pid declared. holder-fresh script.processes pid ∙ declared) leads in
    record {
      lines = record { pids = made.pids; own = own-order schedule script.lines };
      events = sym made.events;
      machine = sym made.machine;
    }
