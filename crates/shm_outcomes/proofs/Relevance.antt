-- Runs with the same relevant replies have the same continuations.
use Rattle.shm_outcomes.proofs.Names.{◌≡◌, ℕ, suc, zero, take, ◌+◌, ◌==◌, ◌&&◌, ◌<◌, drop, slice_index_or, Bool, true, false, not, cond, List, [], ◌∷◌, ◌++◌, map, length, Option, Some, None, refl, ap, sym, subst, ◌∙◌, arith, inl, inr, length-append, cases_Bool, cases_eq, common_steps, drop-cons, append-nil, append_assoc, has_pid, Machine, Outcome, caller_of, ProcessCall, Event, Process, Reply, ScriptView, CommandView, no_values, values_after, Line, Command, Flush, is_change, is_void, looks, event_after, Effects, effects_by, patch_by, effects_after, effects_of, all_changes, relevant_replies, relevant_all, relevant_reply, group_key_of, Key, masked, masked_replies, Run, after, fresh, is_live, next, next_call, replies_to, IsReached, timeless, Patch, first-true, map-head, map-tail, masked-next, same-if, same-step, replies-more, replies-one}
use Rattle.shm_outcomes.proofs.Replaying.{changed, puts-same, reached-changed, reached-next}

-- RELEVANT REPLIES

relevant-value : (r : Reply) (values : List (Option ℕ)) (v : Option ℕ) → values_after values v (Some (relevant_reply v r)) ≡ values_after values v (Some r)
relevant-value r values None = refl
relevant-value r values (Some v) = refl

-- it decides what it does next
relevant-next : (pid : ℕ) (values : List (Option ℕ)) (lines : List Line) (replies : List Reply) → next_call pid values lines (relevant_replies pid lines replies) ≡ next_call pid values lines replies
relevant-next pid values [] replies = refl
relevant-next pid values (Flush n ∷ lines) replies = relevant-next pid values lines replies
relevant-next pid values (Command c ∷ lines) [] = refl
relevant-next pid values (Command c ∷ lines) (r ∷ replies) =
    let same-values = relevant-value r values c.var in
    let own = relevant-next pid (values_after values c.var (Some r)) lines replies in
    let other = relevant-next pid values lines (r ∷ replies) in
    elim (cases_Bool (c.pid == pid)) [
      | inl same ↦ grind (arith, common_steps, same, same-values, own)
      | inr apart ↦ grind (arith, common_steps, apart, other)
    ]

relevant-none : (pid : ℕ) (lines : List Line) → relevant_replies pid lines [] ≡ []
relevant-none pid [] = refl
relevant-none pid (Flush n ∷ lines) = relevant-none pid lines
relevant-none pid (Command c ∷ lines) = refl

first-relevant : (v : Option ℕ) (x y : Reply) (xs ys : List Reply) → relevant_reply v x ∷ xs ≡ relevant_reply v y ∷ ys → xs ≡ ys
first-relevant v x y xs ys h = grind (arith, h)

-- a line of another process
pub relevant-skip : (pid : ℕ) (lines : List Line) (i : ℕ) (line : Line) (c : CommandView) (replies : List Reply) → i < length lines → line ≡ slice_index_or lines i line → line ≡ Command c → (c.pid ≡ pid → ⊥)
    → relevant_replies pid (drop i lines) replies ≡ relevant_replies pid (drop (i + 1) lines) replies
relevant-skip pid lines i line c replies lt is command other =
    let a : drop i lines ≡ Command c ∷ drop (i + 1) lines = grind (arith, drop-cons lines i line) in
    rw a (by replies)
  where
    by : (replies : List Reply) → relevant_replies pid (Command c ∷ drop (i + 1) lines) replies ≡ relevant_replies pid (drop (i + 1) lines) replies
    by [] = sym (relevant-none pid (drop (i + 1) lines))
    by (r ∷ rs) = grind (arith, other)

abbrev Grows : ℕ → List Line → Reply → Type 0
Grows pid lines r = (xs ys : List Reply) → relevant_replies pid lines xs ≡ relevant_replies pid lines ys → relevant_replies pid lines (xs ++ r ∷ []) ≡ relevant_replies pid lines (ys ++ r ∷ [])

own-more : (pid : ℕ) (c : CommandView) (lines : List Line) (r : Reply) → Grows pid lines r → c.pid == pid ≡ true → Grows pid (Command c ∷ lines) r
own-more pid c lines r rest same [] [] h = refl
own-more pid c lines r rest same [] (y ∷ ys) h = absurd (grind (arith, h, same))
own-more pid c lines r rest same (x ∷ xs) [] h = absurd (grind (arith, h, same))
own-more pid c lines r rest same (x ∷ xs) (y ∷ ys) h =
    let both : relevant_reply c.var x ∷ relevant_replies pid lines xs ≡ relevant_reply c.var y ∷ relevant_replies pid lines ys = grind (arith, h, same) in
    let more = rest xs ys (first-relevant c.var x y (relevant_replies pid lines xs) (relevant_replies pid lines ys) both) in
    grind (arith, same, both, more)

other-more : (pid : ℕ) (c : CommandView) (lines : List Line) (r : Reply) → Grows pid lines r → c.pid == pid ≡ false → Grows pid (Command c ∷ lines) r
other-more pid c lines r rest apart [] [] h = refl
other-more pid c lines r rest apart [] (y ∷ ys) h =
    let both : relevant_replies pid lines [] ≡ relevant_replies pid lines (y ∷ ys) = relevant-none pid lines ∙ grind (arith, h, apart) in
    let more = rest [] (y ∷ ys) both in
    grind (arith, apart, more)
other-more pid c lines r rest apart (x ∷ xs) [] h =
    let both : relevant_replies pid lines (x ∷ xs) ≡ relevant_replies pid lines [] = grind (arith, h, apart, relevant-none pid lines) in
    let more = rest (x ∷ xs) [] both in
    grind (arith, apart, more)
other-more pid c lines r rest apart (x ∷ xs) (y ∷ ys) h =
    let both : relevant_replies pid lines (x ∷ xs) ≡ relevant_replies pid lines (y ∷ ys) = grind (arith, h, apart) in
    let more = rest (x ∷ xs) (y ∷ ys) both in
    grind (arith, apart, more)

-- one more reply
relevant-more : (pid : ℕ) (lines : List Line) (r : Reply) → Grows pid lines r
relevant-more pid [] r xs ys h = refl
relevant-more pid (Flush n ∷ lines) r xs ys h = relevant-more pid lines r xs ys h
relevant-more pid (Command c ∷ lines) r xs ys h =
    elim (cases_Bool (c.pid == pid)) [
      | inl same ↦ own-more pid c lines r (relevant-more pid lines r) same xs ys h
      | inr apart ↦ other-more pid c lines r (relevant-more pid lines r) apart xs ys h
    ]

-- no reply more, or one, which is the same but for its times
relevant-replies : (pid : ℕ) (lines : List Line) (xs ys : List Reply) (rs : List Reply) → relevant_replies pid lines xs ≡ relevant_replies pid lines ys → relevant_replies pid lines (xs ++ rs) ≡ relevant_replies pid lines (ys ++ rs)
relevant-replies pid lines xs ys rs h = by rs xs ys h
  where
    by : (rs xs ys : List Reply) → relevant_replies pid lines xs ≡ relevant_replies pid lines ys → relevant_replies pid lines (xs ++ rs) ≡ relevant_replies pid lines (ys ++ rs)
    by [] xs ys h = ap (relevant_replies pid lines) (append-nil xs) ∙ h ∙ sym (ap (relevant_replies pid lines) (append-nil ys))
    by (r ∷ rs) xs ys h =
        ap (relevant_replies pid lines) (sym (append_assoc xs (r ∷ []) rs))
        ∙ by rs (xs ++ r ∷ []) (ys ++ r ∷ []) (relevant-more pid lines r xs ys h)
        ∙ ap (relevant_replies pid lines) (append_assoc ys (r ∷ []) rs)

-- ALL PROCESSES

relevant-process : (lines : List Line) (ps : List Process) (all : List (List Reply)) (i : ℕ) (d : Process) → i < length ps
    → relevant_all lines (take (suc i) ps) all ≡ relevant_all lines (take i ps) all ++ relevant_replies (slice_index_or ps i d).pid lines (slice_index_or all i []) ∷ []
relevant-process lines [] all i d lt = absurd (omega (arith, lt))
relevant-process lines (p ∷ ps) [] zero d lt = refl
relevant-process lines (p ∷ ps) (one ∷ all) zero d lt = refl
relevant-process lines (p ∷ ps) [] (suc i) d lt = ap (λ (l : List (List Reply)). relevant_replies p.pid lines [] ∷ l) (relevant-process lines ps [] i d (omega (arith, lt)))
relevant-process lines (p ∷ ps) (one ∷ all) (suc i) d lt = ap (λ (l : List (List Reply)). relevant_replies p.pid lines one ∷ l) (relevant-process lines ps all i d (omega (arith, lt)))

-- one more process
pub relevant-all-more : (lines : List Line) (ps : List Process) (all : List (List Reply)) (i : ℕ) (d : Process) → i < length ps
    → relevant_all lines (take (i + 1) ps) all ≡ relevant_all lines (take i ps) all ++ relevant_replies (slice_index_or ps i d).pid lines (slice_index_or all i []) ∷ []
relevant-all-more lines ps all i d lt =
    let more : i + 1 ≡ suc i = omega arith in
    ap (λ (n : ℕ). relevant_all lines (take n ps) all) more ∙ relevant-process lines ps all i d lt

abbrev relevant_in : ScriptView → List Event → Process → List Reply
relevant_in script events p = relevant_replies p.pid script.lines (masked_replies events p)

pub relevant-map : (lines : List Line) (events : List Event) (ps : List Process) → relevant_all lines ps (map (masked_replies events) ps) ≡ map (λ (p : Process). relevant_replies p.pid lines (masked_replies events p)) ps
relevant-map lines events [] = refl
relevant-map lines events (p ∷ ps) = ap (λ (l : List (List Reply)). relevant_replies p.pid lines (masked_replies events p) ∷ l) (relevant-map lines events ps)

relevant-pid : (script : ScriptView) (es fs : List Event) (pid : ℕ) (ps : List Process) → map (relevant_in script es) ps ≡ map (relevant_in script fs) ps → has_pid pid ps ≡ true
    → relevant_replies pid script.lines (map masked (replies_to pid es)) ≡ relevant_replies pid script.lines (map masked (replies_to pid fs))
relevant-pid script es fs pid [] same has = absurd (cc)
relevant-pid script es fs pid (p ∷ ps) same has =
    elim (cases_eq p.pid pid) [
      | inl own ↦
          subst (λ (q : ℕ). relevant_replies q script.lines (map masked (replies_to q es)) ≡ relevant_replies q script.lines (map masked (replies_to q fs))) own
          (map-head (relevant_in script es) (relevant_in script fs) p ps same)
      | inr other ↦ relevant-pid script es fs pid ps (map-tail (relevant_in script es) (relevant_in script fs) p ps same) (grind (arith, has, other))
    ]

-- one more event, of one process, whose replies differ only in times
all-relevant-more : (script : ScriptView) (es fs : List Event) (e f : Event) → e.pid ≡ f.pid → masked e.reply ≡ masked f.reply
    → (ps : List Process) → map (relevant_in script es) ps ≡ map (relevant_in script fs) ps → map (relevant_in script (es ++ e ∷ [])) ps ≡ map (relevant_in script (fs ++ f ∷ [])) ps
all-relevant-more script es fs e f pid same [] h = refl
all-relevant-more script es fs e f pid same (p ∷ ps) h =
    let lines = script.lines in
    let here : relevant_in script (es ++ e ∷ []) p ≡ relevant_in script (fs ++ f ∷ []) p =
    ap (relevant_replies p.pid lines) (replies-more es e p)
    ∙ relevant-replies p.pid lines (masked_replies es p) (masked_replies fs p) (masked_replies (e ∷ []) p) (map-head (relevant_in script es) (relevant_in script fs) p ps h)
    ∙ ap (λ (l : List Reply). relevant_replies p.pid lines (masked_replies fs p ++ l)) (replies-one e f p pid same)
    ∙ ap (relevant_replies p.pid lines) (sym (replies-more fs f p)) in
    let rest = all-relevant-more script es fs e f pid same ps (map-tail (relevant_in script es) (relevant_in script fs) p ps h) in
    λ j. here j ∷ rest j

-- THE EFFECTS OF ONE CALL

void-masked : (call : ProcessCall) (r : Reply) → is_void call (masked r) ≡ is_void call r
void-masked call r = grind (arith, common_steps)

looks-masked : (call : ProcessCall) (r : Reply) → looks call (masked r) ≡ looks call r
looks-masked call r = grind (arith, common_steps)

patch-masked : (call : ProcessCall) (r : Reply) → patch_by call (masked r) ≡ patch_by call r
patch-masked call r = grind (arith, common_steps)

abbrev event_with : ℕ → ProcessCall → Reply → Event
event_with pid call reply = record { pid = pid; call = call; reply = reply }

-- it is the same if the machines, and the replies, differ only in times
effects-same : (s m : Machine) (pid : ℕ) (call : ProcessCall) (r q : Reply) (t : Effects) → timeless s ≡ timeless m → masked r ≡ masked q
    → effects_after s (event_with pid call r) t ≡ effects_after m (event_with pid call q) t
effects-same s m pid call r q t machines replies =
    let voids : is_void call r ≡ is_void call q = sym (void-masked call r) ∙ ap (is_void call) replies ∙ void-masked call q in
    let looked : looks call r ≡ looks call q = sym (looks-masked call r) ∙ ap (looks call) replies ∙ looks-masked call q in
    let patches : patch_by call r ≡ patch_by call q = sym (patch-masked call r) ∙ ap (patch_by call) replies ∙ patch-masked call q in
    let callers : caller_of s pid ≡ caller_of m pid = ap (λ (x : Machine). caller_of x pid) machines in
    ap (λ (b : Bool). cond (not b && not (looks call r)) (effects_by s (event_with pid call r) (patch_by call r) t) t) voids
    ∙ ap (λ (b : Bool). cond (not (is_void call q) && not b) (effects_by s (event_with pid call r) (patch_by call r) t) t) looked
    ∙ ap (λ (p : Option Patch). cond (is_change (event_with pid call q)) (effects_by s (event_with pid call r) p t) t) patches
    ∙ ap (λ (n : Effects). cond (is_change (event_with pid call q)) n t) (by (patch_by call q) callers)
  where
    by : (p : Option Patch) → caller_of s pid ≡ caller_of m pid → effects_by s (event_with pid call r) p t ≡ effects_by m (event_with pid call q) p t
    by None callers = refl
    by (Some p) callers = ap (λ ws. record { past = t.past; writes = ws }) (puts-same s m pid callers p.bytes p.addr t.writes)

-- RUNS OF ONE GROUP

pub record GoSame (script : ScriptView) (machine : Machine) (a b : Run) : Type 0 where
  pub state : timeless a.machine ≡ timeless b.machine
  pub count : length a.events ≡ length b.events
  pub relevant_replies : map (relevant_in script a.events) script.processes ≡ map (relevant_in script b.events) script.processes
  pub effects : effects_of machine a.events ≡ effects_of machine b.events

abbrev group_key : ScriptView → Machine → Run → Key
group_key script machine run = group_key_of script (fresh machine) run

pub go-same : (script : ScriptView) (machine : Machine) (a b : Run) → IsReached script (fresh machine) a → IsReached script (fresh machine) b → group_key script machine a ≡ group_key script machine b → GoSame script machine a b
go-same script machine a b left right same =
    record {
      state = sym (reached-changed script machine a left) ∙ ap (λ (k : Key). changed (timeless machine) (all_changes k.effects)) same ∙ reached-changed script machine b right;
      count = ap (λ (k : Key). k.count) same;
      relevant_replies = sym (relevant-map script.lines a.events script.processes) ∙ ap (λ (k : Key). k.replies) same ∙ relevant-map script.lines b.events script.processes;
      effects = ap (λ (k : Key). k.effects) same;
    }

pub same-group-key : (script : ScriptView) (machine : Machine) (a b : Run) → GoSame script machine a b → group_key script machine a ≡ group_key script machine b
same-group-key script machine a b h =
    let relevant_replies = relevant-map script.lines a.events script.processes ∙ h.relevant_replies ∙ sym (relevant-map script.lines b.events script.processes) in
    λ j. record { count = h.count j; replies = relevant_replies j; effects = h.effects j }

-- they make the same calls next
pub next-same : (script : ScriptView) (machine : Machine) (a b : Run) (pid : ℕ) → GoSame script machine a b → next script a pid ≡ next script b pid
next-same script machine a b pid same =
    let live : is_live a.machine pid ≡ is_live b.machine pid = ap (λ (m : Machine). is_live m pid) same.state in
    let lines = script.lines in
    ap (λ (l : Bool). cond (has_pid pid script.processes && l) (next_call pid no_values lines (replies_to pid a.events)) None) live
    ∙ same-if (has_pid pid script.processes && is_live b.machine pid) _ _
    (λ h.
    sym (masked-next pid no_values lines (replies_to pid a.events))
    ∙ sym (relevant-next pid no_values lines (map masked (replies_to pid a.events)))
    ∙ ap (next_call pid no_values lines) (relevant-pid script a.events b.events pid script.processes same.relevant_replies (first-true (has_pid pid script.processes) (is_live b.machine pid) h))
    ∙ relevant-next pid no_values lines (map masked (replies_to pid b.events))
    ∙ masked-next pid no_values lines (replies_to pid b.events))

-- the replies of one call differ only in times
pub reply-same : (script : ScriptView) (machine : Machine) (a b : Run) (pid : ℕ) (call : ProcessCall) → GoSame script machine a b → masked (event_after a pid call).reply ≡ masked (event_after b pid call).reply
reply-same script machine a b pid call same = ap (λ (o : Outcome). o.reply) (same-step a b pid call same.state)

-- and they are of one group after it
pub after-same :
    (script : ScriptView) (machine : Machine) (a b : Run) (pid : ℕ) (call : ProcessCall) → IsReached script (fresh machine) a → IsReached script (fresh machine) b
    → GoSame script machine a b → GoSame script machine (after a pid call) (after b pid call)
after-same script machine a b pid call left right same =
    let e = event_after a pid call in
    let f = event_after b pid call in
    let replies = reply-same script machine a b pid call same in
    record {
      state = ap (λ (o : Outcome). o.state) (same-step a b pid call same.state);
      count = length-append a.events _ ∙ ap (λ (n : ℕ). n + 1) same.count ∙ sym (length-append b.events _);
      relevant_replies = all-relevant-more script a.events b.events e f refl replies script.processes same.relevant_replies;
      effects = reached-next script machine a left e
          ∙ ap (λ (t : Effects). effects_after a.machine e t) same.effects
          ∙ effects-same a.machine b.machine pid call e.reply f.reply (effects_of machine b.events) same.state replies
          ∙ sym (reached-next script machine b right f);
    }
