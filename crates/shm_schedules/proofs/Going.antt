-- Which calls change a machine, and the replies after one more call.
use Rattle.std.specs.Prelude.{◌≡◌, ◌≢◌, ◌<◌, ℕ, suc, zero, ◌+◌, ◌==◌, nat_lt, if◌then◌else◌, ◌&&◌, ◌⊎◌, Bool, true, false, not, List, [], ◌∷◌, ◌++◌, Option, Some, None, cond, map, length, slice_index_or, Result, Ok, Err}
use Rattle.std.proofs.Common.{ap, refl, sym, ◌∙◌, arith, inl, inr, take}
use Rattle.std.proofs.lemmas.Bool.{cases_Bool}
use Rattle.std.proofs.lemmas.Grind.{common_steps}
use Rattle.std.proofs.lemmas.List.{append-nil, map-append}
use Rattle.std.proofs.lemmas.List.Elements.{filter-append}
use Rattle.shm_base.specs.History.{is_refusal, own_part}
use Rattle.shm_base.specs.Access.{Place, writable_places}
use Rattle.shm_base.specs.Identifier.{Look, Found, Removed, Invalid, look}
use Rattle.shm_base.specs.Locking.{lock_refusal}
use Rattle.shm_base.specs.Permission.{owns}
use Rattle.shm_base.specs.Space.{cut}
use Rattle.shm_base.specs.State.{Machine, Segment}
use Rattle.shm_base.specs.Callers.{Caller, Outcome, caller_of}
use Rattle.shm_base.specs.Mapping.{unmapped_to, unmaps}
use Rattle.shm_base.specs.Step.{acts, attaches_if, compare_exchange, controls, is_no_owner, locks_unless, placed, shmget, step, step_by}
use Rattle.shm_base.specs.Calls.{ProcessCall}
use Rattle.shm_base.specs.declared.call.Call.TheVariants.{Shmget, Shmat, Shmdt, Stat, Set, Rmid, Lock, Unlock, Load, Store, Xadd, Exchange, CompareExchange, Fork, Exec, Exit, Swapoff, Munmap, Mprotect, Setuid}
use Rattle.shm_base.specs.declared.errno.Errno.{Errno}
use Rattle.shm_base.specs.declared.flags.GetFlags.{GetFlags}
use Rattle.shm_life.proofs.Asking.{by-shmget, pick}
use Rattle.shm_base.specs.declared.flags.AtFlags.{AtFlags}
use Rattle.shm_base.specs.declared.call.Event.{Event}
use Rattle.shm_base.specs.declared.call.Placed.{Placed}
use Rattle.shm_base.specs.declared.call.Process.{Process}
use Rattle.shm_base.specs.declared.call.Reply.{Reply}
use Rattle.shm_text.specs.Script.{ScriptView}
use Rattle.shm_text.specs.Variables.{values_after}
use Rattle.shm_text.specs.declared.script.Line.{Line}
use Rattle.shm_text.specs.declared.script.Line.TheVariants.{Command, Flush}
use Rattle.shm_schedules.specs.Alike.{is_change, is_void, looks}
use Rattle.shm_schedules.specs.Outcomes.{masked, masked_replies, replies_after}
use Rattle.shm_schedules.specs.Schedules.{Run, next, next_call, replies_to, reply_of, Leads}
use Rattle.shm_schedules.specs.Times.{timeless, timeless_outcome}
use Rattle.shm_schedules.proofs.Timeless.{times_reach_times}
use Rattle.shm_schedules.proofs.Walking.{made-by}

-- WHAT CHANGES A MACHINE

abbrev Still : Machine → Outcome → Type 0
Still s o = is_refusal o.reply ≡ true → o.state ≡ s

abbrev Void : Machine → ProcessCall → Outcome → Type 0
Void s call o = is_void call o.reply ≡ true → o.state ≡ s

module _ (s : Machine) (n : ℕ) (c : Caller) where
  still-shmget : (key size mode : ℕ) (flags : GetFlags) → Still s (shmget s n c key size mode flags)
  still-shmget key size mode flags =
      by-shmget s n c size mode (λ k. Still s) (λ k e other h. refl) (λ k i x named found permitted h. refl) (λ k i free some is h. absurd (cc)) key flags

  still-attaches : (flags : AtFlags) (r : Result Placed Errno) → Still s (attaches_if s n c flags r)
  still-attaches flags (Err e) = λ h. refl
  still-attaches flags (Ok p) = λ h. absurd (cc)

  still-locks : (i : ℕ) (o : Option Errno) → Still s (locks_unless s c i o)
  still-locks i (Some e) = λ h. refl
  still-locks i None = λ h. absurd (cc)

  still-controls : (act : ℕ → Segment → Outcome) → ((i : ℕ) (x : Segment) → Still s (act i x)) → (l : Look) → Still s (controls s c act l)
  still-controls act acts Invalid = λ h. refl
  still-controls act acts Removed = λ h. refl
  still-controls act acts (Found i x) = pick (Still s) (not (owns c.cred x.perm)) _ _ (λ h. refl) (acts i x)

  still-unmaps : (from : ℕ) (r : Result ℕ Errno) → Still s (unmaps s n c from r)
  still-unmaps from (Err e) = λ h. refl
  still-unmaps from (Ok to) = pick (Still s) (nat_lt s.limits.most_pieces (length (cut from to c.pieces))) _ _ (λ h. refl) (λ h. absurd (cc))

  still-acts : (call : ProcessCall) → Void s call (acts s n c call)
  still-acts (Shmget key size mode flags) = still-shmget key size mode flags
  still-acts (Shmat id addr flags) = still-attaches flags (placed s c id addr flags)
  still-acts (Shmdt addr) = λ h. grind (arith, common_steps)
  still-acts (Stat id) = λ h. grind (arith, common_steps)
  still-acts (Set id uid gid mode) = still-controls _ (λ i x. pick (Still s) (is_no_owner s uid gid) _ _ (λ h. refl) (λ h. absurd (cc))) (look s.table id)
  still-acts (Rmid id) = still-controls _ (λ i x h. absurd (cc)) (look s.table id)
  still-acts (Lock id) = still-controls _ (λ i x. still-locks i (lock_refusal s.limits c.cred s.table x)) (look s.table id)
  still-acts (Unlock id) = still-controls _ (λ i x h. absurd (cc)) (look s.table id)
  still-acts (Load addr len) = λ h. grind (arith, common_steps)
  still-acts (Store bytes addr) = λ h. grind (arith, common_steps)
  still-acts (Xadd addr add) = λ h. grind (arith, common_steps)
  still-acts (Exchange bytes addr) = λ h. grind (arith, common_steps)
  still-acts (CompareExchange expected desired addr) = λ h. grind (arith, common_steps)
  still-acts (Fork child) = λ h. grind (arith, common_steps)
  still-acts Exec = λ h. absurd (cc)
  still-acts Exit = λ h. absurd (cc)
  still-acts (Swapoff area) = λ h. grind (arith, common_steps)
  still-acts (Munmap addr len) = still-unmaps addr (unmapped_to addr len)
  still-acts (Mprotect addr len w) = λ h. absurd (cc)
  still-acts (Setuid uid gid) = λ h. absurd (cc)

still-by : (s : Machine) (n : ℕ) (call : ProcessCall) (o : Option Caller) → Void s call (step_by s n call o)
still-by s n call None = λ h. refl
still-by s n call (Some c) = still-acts s n c call

looked-compare : (s : Machine) (expected desired : List ℕ) (addr : ℕ) (o : Option (List Place))
    → looks (CompareExchange expected desired addr) (compare_exchange s expected desired o).reply ≡ true → (compare_exchange s expected desired o).state ≡ s
looked-compare s expected desired addr None h = refl
looked-compare s expected desired addr (Some ps) h = grind (arith, common_steps)

looked-by : (s : Machine) (n : ℕ) (call : ProcessCall) (o : Option Caller) → looks call (step_by s n call o).reply ≡ true → (step_by s n call o).state ≡ s
looked-by s n call None h = refl
looked-by s n (CompareExchange expected desired addr) (Some c) h = looked-compare s expected desired addr (writable_places c.pieces addr (length desired)) h
looked-by s n call (Some c) h = grind (arith, common_steps)

no-change : (a b : Bool) → not a && not b ≡ false → (a ≡ true) ⊎ (b ≡ true)
no-change true b h = inl refl
no-change false true h = inr refl
no-change false false h = absurd (cc)

abbrev pub event_at : Machine → ℕ → ℕ → ProcessCall → Event
event_at s n pid call = record { pid = pid; call = call; reply = (step s n pid call).reply }

-- a call that changes nothing leaves the machine as it is
pub still : (s : Machine) (n pid : ℕ) (call : ProcessCall) → is_change (event_at s n pid call) ≡ false → (step s n pid call).state ≡ s
still s n pid call h =
    elim (no-change (is_void call (step s n pid call).reply) (looks call (step s n pid call).reply) h) [
      | inl void ↦ still-by s n call (caller_of s pid) void
      | inr looked ↦ looked-by s n call (caller_of s pid) looked
    ]

pub not-first : (n : ℕ) → n + 1 ≢ 0
not-first n = λ h. omega (arith, h)

pub one-more : (xs : List Event) (e : Event) (ys : List Event) → (xs ++ e ∷ []) ++ ys ≡ xs ++ e ∷ ys
one-more [] e ys = refl
one-more (x ∷ xs) e ys = ap (λ (l : List Event). x ∷ l) (one-more xs e ys)

-- a schedule appends events
pub leads-grow : (script : ScriptView) (schedule : List ℕ) (old new : Run) → Leads script schedule old new → (more : List Event) × (new.events ≡ old.events ++ more)
leads-grow script [] old new h = ([], ap (λ (r : Run). r.events) (sym h) ∙ sym (append-nil old.events))
leads-grow script (pid ∷ schedule) old new h =
    let made = made-by (next script old pid) old pid h.0 h.1 in
    let rest = leads-grow script schedule h.0 new h.2 in
    let e : Event = event_at old.machine (length old.events + 1) pid made.0 in
    let events : h.0.events ≡ old.events ++ e ∷ [] = ap (λ (r : Run). r.events) (sym made.2) in
    (e ∷ rest.0, rest.1 ∙ ap (λ (es : List Event). es ++ rest.0) events ∙ one-more old.events e rest.0)

-- WHAT A PROCESS DOES NEXT

masked-value : (r : Reply) (values : List (Option ℕ)) (v : Option ℕ) → values_after values v (Some (masked r)) ≡ values_after values v (Some r)
masked-value r values v = grind (arith, common_steps)

-- it depends on no time in its replies
pub masked-next : (pid : ℕ) (values : List (Option ℕ)) (lines : List Line) (replies : List Reply) → next_call pid values lines (map masked replies) ≡ next_call pid values lines replies
masked-next pid values [] replies = refl
masked-next pid values (Flush n ∷ lines) replies = masked-next pid values lines replies
masked-next pid values (Command c ∷ lines) [] = by (c.pid == pid)
  where
    by : (b : Bool) → next_call pid values (Command c ∷ lines) (map masked []) ≡ next_call pid values (Command c ∷ lines) []
    by b = refl
masked-next pid values (Command c ∷ lines) (r ∷ replies) =
    let taken = masked-value r values c.var in
    let own = masked-next pid (values_after values c.var (Some r)) lines replies in
    let other = masked-next pid values lines (r ∷ replies) in
    grind (arith, common_steps)

pub map-head : (f g : Process → List Reply) (p : Process) (ps : List Process) → map f (p ∷ ps) ≡ map g (p ∷ ps) → f p ≡ g p
map-head f g p ps h = grind (arith, h)

pub map-tail : (f g : Process → List Reply) (p : Process) (ps : List Process) → map f (p ∷ ps) ≡ map g (p ∷ ps) → map f ps ≡ map g ps
map-tail f g p ps h = grind (arith, h)

-- all processes got the same replies, so each did
pub replies-at : (f g : Process → List Reply) (ps : List Process) → map f ps ≡ map g ps → (i : ℕ) (p : Process) → i < length ps → p ≡ slice_index_or ps i p → f p ≡ g p
replies-at f g [] same i p lt is = absurd (omega (arith, lt))
replies-at f g (q ∷ ps) same zero p lt is = rw is (map-head f g q ps same)
replies-at f g (q ∷ ps) same (suc i) p lt is = replies-at f g ps (map-tail f g q ps same) i p (omega (arith, lt)) is

pub same-if : (b : Bool) (x y : Option ProcessCall) → (b ≡ true → x ≡ y) → cond b x None ≡ cond b y None
same-if true x y h = h refl
same-if false x y h = refl

pub first-true : (a b : Bool) → a && b ≡ true → a ≡ true
first-true true b h = refl
first-true false b h = absurd (cc)

-- one more event, of one process, whose replies differ only in times
pub replies-more : (es : List Event) (e : Event) (p : Process) → masked_replies (es ++ e ∷ []) p ≡ masked_replies es p ++ masked_replies (e ∷ []) p
replies-more es e p =
    ap (λ (l : List Event). map masked (map reply_of l)) (filter-append (λ (x : Event). x.pid == p.pid) es (e ∷ []))
    ∙ ap (map masked) (map-append reply_of (own_part p.pid es) (own_part p.pid (e ∷ [])))
    ∙ map-append masked (replies_to p.pid es) (replies_to p.pid (e ∷ []))

pub replies-one : (e f : Event) (p : Process) → e.pid ≡ f.pid → masked e.reply ≡ masked f.reply → masked_replies (e ∷ []) p ≡ masked_replies (f ∷ []) p
replies-one e f p pid same =
    elim (cases_Bool (e.pid == p.pid)) [
      | inl own ↦ (let other : f.pid == p.pid ≡ true = ap (λ (q : ℕ). q == p.pid) (sym pid) ∙ own in rw (own, other) (ap (λ (r : Reply). r ∷ []) same))
      | inr own ↦ (let other : f.pid == p.pid ≡ false = ap (λ (q : ℕ). q == p.pid) (sym pid) ∙ own in rw (own, other) refl)
    ]

pub replies-same : (ps : List Process) (e f : Event) → e.pid ≡ f.pid → masked e.reply ≡ masked f.reply → (all : List (List Reply)) → replies_after ps e all ≡ replies_after ps f all
replies-same [] e f pid same all = refl
replies-same (p ∷ ps) e f pid same [] = (let one = replies-one e f p pid same in let rest = replies-same ps e f pid same [] in λ j. one j ∷ rest j)
replies-same (p ∷ ps) e f pid same (o ∷ all) = (let one = replies-one e f p pid same in let rest = replies-same ps e f pid same all in λ j. (o ++ one j) ∷ rest j)

-- the outcomes of one call on machines that differ only in times
pub same-step : (a b : Run) (pid : ℕ) (call : ProcessCall) → timeless a.machine ≡ timeless b.machine
    → timeless_outcome (step a.machine (length a.events + 1) pid call) ≡ timeless_outcome (step b.machine (length b.events + 1) pid call)
same-step a b pid call same =
    sym (times_reach_times a.machine (length a.events + 1) pid call (not-first (length a.events)))
    ∙ ap (λ (m : Machine). step m 1 pid call) same
    ∙ times_reach_times b.machine (length b.events + 1) pid call (not-first (length b.events))

-- THE REPLIES AFTER ONE MORE CALL

replies-next :
    (ps : List Process) (e : Event) (all : List (List Reply)) (i : ℕ) (d : Process) → i < length ps
    → replies_after (take (suc i) ps) e all ≡ replies_after (take i ps) e all ++ (slice_index_or all i [] ++ masked_replies (e ∷ []) (slice_index_or ps i d)) ∷ []
replies-next [] e all i d lt = absurd (omega (arith, lt))
replies-next (p ∷ ps) e [] zero d lt = refl
replies-next (p ∷ ps) e (one ∷ all) zero d lt = refl
replies-next (p ∷ ps) e [] (suc i) d lt = ap (λ (l : List (List Reply)). masked_replies (e ∷ []) p ∷ l) (replies-next ps e [] i d (omega (arith, lt)))
replies-next (p ∷ ps) e (one ∷ all) (suc i) d lt = ap (λ (l : List (List Reply)). (one ++ masked_replies (e ∷ []) p) ∷ l) (replies-next ps e all i d (omega (arith, lt)))

-- one more process
pub replies-after-next :
    (ps : List Process) (e : Event) (all : List (List Reply)) (i : ℕ) (d : Process) → i < length ps
    → replies_after (take (i + 1) ps) e all ≡ replies_after (take i ps) e all ++ (slice_index_or all i [] ++ masked_replies (e ∷ []) (slice_index_or ps i d)) ∷ []
replies-after-next ps e all i d lt =
    let next : i + 1 ≡ suc i = omega arith in
    ap (λ (n : ℕ). replies_after (take n ps) e all) next ∙ replies-next ps e all i d lt

-- these are the replies in the events with one more
pub replies-after : (ps : List Process) (es : List Event) (e : Event) → replies_after ps e (map (masked_replies es) ps) ≡ map (masked_replies (es ++ e ∷ [])) ps
replies-after [] es e = refl
replies-after (p ∷ ps) es e =
    let here : masked_replies es p ++ masked_replies (e ∷ []) p ≡ masked_replies (es ++ e ∷ []) p = sym (replies-more es e p) in
    let rest = replies-after ps es e in
    λ j. here j ∷ rest j
