-- The effects of a run lead to the run's machine.
use Rattle.shm_outcomes.proofs.Names.{◌≡◌, ◌≢◌, ℕ, ◌+◌, ◌%◌, ◌^◌, ◌&&◌, Bool, true, false, not, nat_lt, cond, List, [], ◌∷◌, ◌++◌, map, length, Option, Some, None, refl, ap, sym, subst, ◌∙◌, arith, inl, inr, length-append, cases_Bool, common_steps, append-nil, none-some, same_Some, w64, to_le_bytes, Place, all_writable, joined, loaded, only_writable, place, places, same_bytes, stored, is_refusal, fork_marks, attach_all, Entry, Machine, Caller, Outcome, caller_of, acts, compare_exchange, exchange, forks, inherited, number_at, segments_of, step, step_by, store, unborn_from, xadd, ProcessCall, Store, Xadd, Exchange, CompareExchange, Fork, Event, Reply, Refused, Errno, Esrch, ScriptView, is_change, is_void, looks, Effects, all_changes, call_of, fits, is_fork, made, no_effects, effects_by, patch_by, put, put_at, puts, effects_after, effects_from, effects_of, write_at, wrote, place_by, place_of, Run, after, fresh, next, Leads, schedule_of, IsReached, timeless, CallBy, Change, Made, Wrote, Patch, Write, event_at, not-first, one-more, still, stored-timeless, times_reach_times, made-by}
use Rattle.shm_outcomes.proofs.Bytes.{attach-swap, overwritten, put-last, with_write, written}

-- THE MACHINE THAT CHANGES LEAD TO

abbrev pub changed_by : Machine → Change → Machine
changed_by s (Wrote w) = with_write s w
changed_by s (Made c) = (step s 1 c.pid c.call).state

abbrev pub changed : Machine → List Change → Machine
changed s [] = s
changed s (c ∷ cs) = changed (changed_by s c) cs

changed-append : (s : Machine) (xs ys : List Change) → changed s (xs ++ ys) ≡ changed (changed s xs) ys
changed-append s [] ys = refl
changed-append s (x ∷ xs) ys = changed-append (changed_by s x) xs ys

changed-writes : (s : Machine) (ws : List Write) → changed s (map wrote ws) ≡ written s ws
changed-writes s [] = refl
changed-writes s (w ∷ ws) = changed-writes (with_write s w) ws

changed-all : (s : Machine) (t : Effects) → changed s (all_changes t) ≡ written (changed s t.past) t.writes
changed-all s t = changed-append s t.past (map wrote t.writes) ∙ changed-writes (changed s t.past) t.writes

-- WRITTEN BYTES

abbrev with_stored : List Place → List ℕ → Machine → Machine
with_stored ps bytes m = record m { table = stored m.table ps bytes }

-- the bytes that a store wrote do what it does
puts-stored :
    (s m : Machine) (pid : ℕ) (c : Caller) → caller_of s pid ≡ Some c
    → (bytes : List ℕ) (addr : ℕ) (ws : List Write) (ps : List Place) → places c.pieces addr (length bytes) ≡ Some ps
    → written m (puts s pid addr bytes ws) ≡ with_stored ps bytes (written m ws)
puts-stored s m pid c is [] addr ws ps h = ap (λ (qs : List Place). with_stored qs [] (written m ws)) (same_Some _ _ h)
puts-stored s m pid c is (b ∷ bs) addr ws ps h =
    by (λ q qs r. puts-stored s m pid c is bs (addr + 1) (put (write_at q b) ws) qs r) (place c.pieces addr) (places c.pieces (addr + 1) (length bs)) refl refl h
  where
    by :
        ((q : Place) (qs : List Place) → places c.pieces (addr + 1) (length bs) ≡ Some qs → written m (puts s pid (addr + 1) bs (put (write_at q b) ws)) ≡ with_stored qs bs (written m (put (write_at q b) ws)))
        → (o : Option Place) (r : Option (List Place)) → place c.pieces addr ≡ o → places c.pieces (addr + 1) (length bs) ≡ r → joined o r ≡ Some ps
        → written m (puts s pid addr (b ∷ bs) ws) ≡ with_stored ps (b ∷ bs) (written m ws)
    by rest None r o-is r-is none-is = absurd (none-some ps none-is)
    by rest (Some q) None o-is r-is none-is = absurd (none-some ps none-is)
    by rest (Some q) (Some qs) o-is r-is some-is =
        let all : q ∷ qs ≡ ps = same_Some _ _ some-is in
        let there : place_of s pid addr ≡ Some q = ap (λ (x : Option Caller). place_by x addr) is ∙ o-is in
        ap (λ (o : Option Place). written m (puts s pid (addr + 1) bs (put_at o b ws))) there
        ∙ rest q qs r-is
        ∙ ap (with_stored qs bs) (put-last m (write_at q b) ws)
        ∙ ap (λ (l : List Place). with_stored l (b ∷ bs) (written m ws)) all

-- A call that writes bytes at these places, and does no more
abbrev Stores : Machine → Caller → Patch → Outcome → Type 0
Stores s c p o = (ps : List Place) × (places c.pieces p.addr (length p.bytes) ≡ Some ps) × (o.state ≡ with_stored ps p.bytes s)

abbrev patch : ℕ → List ℕ → Patch
patch addr bytes = record { addr = addr; bytes = bytes }

fits-is : (addr : ℕ) (bytes : List ℕ) (p : Patch) → fits addr bytes ≡ Some p → patch addr bytes ≡ p
fits-is addr bytes p h = by (nat_lt (addr + length bytes) (2 ^ 64)) h
  where
    by : (b : Bool) → cond b (Some (patch addr bytes)) None ≡ Some p → patch addr bytes ≡ p
    by true some-is = same_Some _ _ some-is
    by false none-is = absurd (none-some p none-is)

first-false : (a b : Bool) → not a && not b ≡ true → a ≡ false
first-false false b h = refl
first-false true b h = absurd (cc)

-- a call with this reply changed the machine
abbrev altered : ProcessCall → Reply → Bool
altered call r = not (is_void call r) && not (looks call r)

not-void : (call : ProcessCall) (r : Reply) → altered call r ≡ true → is_void call r ≡ false
not-void call r h = first-false (is_void call r) (looks call r) h

-- a refused call wrote no bytes
refused-wrote : (call : ProcessCall) (e : Errno) (p : Patch) → patch_by call (Refused e) ≡ Some p → altered call (Refused e) ≡ true → ⊥
refused-wrote call e p patched kept = grind (arith, common_steps)

module _ (s : Machine) (n : ℕ) (c : Caller) where
  store-stores : (addr : ℕ) (bytes : List ℕ) (o : Option (List Place)) → places c.pieces addr (length bytes) ≡ o
      → is_refusal (store s bytes (only_writable o)).reply ≡ false → Stores s c (patch addr bytes) (store s bytes (only_writable o))
  store-stores addr bytes None is h = absurd (cc)
  store-stores addr bytes (Some ps) is h = by (all_writable ps) h
    where
      by : (b : Bool) → is_refusal (store s bytes (cond b (Some ps) None)).reply ≡ false → Stores s c (patch addr bytes) (store s bytes (cond b (Some ps) None))
      by true k = (ps, is, refl)
      by false k = absurd (cc)

  xadd-stores : (addr add : ℕ) (p : Patch) (o : Option (List Place)) → places c.pieces addr 8 ≡ o
      → patch_by (Xadd addr add) (xadd s add (only_writable o)).reply ≡ Some p → Stores s c p (xadd s add (only_writable o))
  xadd-stores addr add p None is h = absurd (none-some p h)
  xadd-stores addr add p (Some ps) is h = by (all_writable ps) h
    where
      bytes : List ℕ
      bytes = to_le_bytes w64 ((number_at s ps + add) % 2 ^ 64)

      by : (b : Bool) → patch_by (Xadd addr add) (xadd s add (cond b (Some ps) None)).reply ≡ Some p → Stores s c p (xadd s add (cond b (Some ps) None))
      by true k =
          subst (λ (q : Patch). Stores s c q (xadd s add (Some ps)))
          (fits-is addr (to_le_bytes w64 ((number_at s ps + add) % 2 ^ 64)) p k)
          (ps, is, refl)
      by false k = absurd (none-some p k)

  exchange-stores : (addr : ℕ) (bytes : List ℕ) (o : Option (List Place)) → places c.pieces addr (length bytes) ≡ o
      → is_refusal (exchange s bytes (only_writable o)).reply ≡ false → Stores s c (patch addr bytes) (exchange s bytes (only_writable o))
  exchange-stores addr bytes None is h = absurd (cc)
  exchange-stores addr bytes (Some ps) is h = by (all_writable ps) h
    where
      by : (b : Bool) → is_refusal (exchange s bytes (cond b (Some ps) None)).reply ≡ false → Stores s c (patch addr bytes) (exchange s bytes (cond b (Some ps) None))
      by true k = (ps, is, refl)
      by false k = absurd (cc)

  compare-stores : (addr : ℕ) (expected desired : List ℕ) (o : Option (List Place)) → places c.pieces addr (length desired) ≡ o
      → altered (CompareExchange expected desired addr) (compare_exchange s expected desired (only_writable o)).reply ≡ true
      → Stores s c (patch addr desired) (compare_exchange s expected desired (only_writable o))
  compare-stores addr expected desired None is h = absurd (cc)
  compare-stores addr expected desired (Some ps) is h = by (all_writable ps) h
    where
      by : (b : Bool) → altered (CompareExchange expected desired addr) (compare_exchange s expected desired (cond b (Some ps) None)).reply ≡ true
          → Stores s c (patch addr desired) (compare_exchange s expected desired (cond b (Some ps) None))
      by true k =
          elim (cases_Bool (same_bytes (loaded s.table ps) expected)) [
            | inl same ↦ rw same (ps, is, refl)
            | inr other ↦ (let none = rw other at k in absurd (cc))
          ]
      by false k = absurd (cc)

  acts-store : (call : ProcessCall) (p : Patch) → patch_by call (acts s n c call).reply ≡ Some p → altered call (acts s n c call).reply ≡ true → Stores s c p (acts s n c call)
  acts-store (Store bytes addr) p is h =
      subst (λ (q : Patch). Stores s c q (acts s n c (Store bytes addr))) (fits-is addr bytes p is) (store-stores addr bytes (places c.pieces addr (length bytes)) refl (not-void (Store bytes addr) _ h))
  acts-store (Exchange bytes addr) p is h =
      subst (λ (q : Patch). Stores s c q (acts s n c (Exchange bytes addr))) (fits-is addr bytes p is) (exchange-stores addr bytes (places c.pieces addr (length bytes)) refl (not-void (Exchange bytes addr) _ h))
  acts-store (CompareExchange expected desired addr) p is h =
      subst (λ (q : Patch). Stores s c q (acts s n c (CompareExchange expected desired addr))) (fits-is addr desired p is)
      (compare-stores addr expected desired (places c.pieces addr (length desired)) refl h)
  acts-store (Xadd addr add) p is h = xadd-stores addr add p (places c.pieces addr 8) refl is
  acts-store call p is h = absurd (none-some p is)

-- the machine that the effects lead to after a call that wrote bytes
stored-after :
    (m s : Machine) (n pid : ℕ) (call : ProcessCall) (p : Patch) (ws : List Write) → written m ws ≡ timeless s
    → patch_by call (step s n pid call).reply ≡ Some p → altered call (step s n pid call).reply ≡ true
    → written m (puts s pid p.addr p.bytes ws) ≡ timeless (step s n pid call).state
stored-after m s n pid call p ws at is change = by (caller_of s pid) refl is change
  where
    by : (o : Option Caller) → caller_of s pid ≡ o → patch_by call (step_by s n call o).reply ≡ Some p → altered call (step_by s n call o).reply ≡ true
        → written m (puts s pid p.addr p.bytes ws) ≡ timeless (step_by s n call o).state
    by None caller patched kept = absurd (refused-wrote call Esrch p patched kept)
    by (Some c) caller patched kept =
        let all = acts-store s n c call p patched kept in
        puts-stored s m pid c caller p.bytes p.addr ws all.0 all.1
        ∙ ap (with_stored all.0 p.bytes) at
        ∙ ap (λ t. record s { table = t }) (stored-timeless s.table all.0 p.bytes)
        ∙ ap timeless (sym all.2)

-- a call that writes bytes leaves its caller where it was
stored-caller :
    (s : Machine) (n pid : ℕ) (call : ProcessCall) (p : Patch) → patch_by call (step s n pid call).reply ≡ Some p → altered call (step s n pid call).reply ≡ true
    → caller_of (step s n pid call).state pid ≡ caller_of s pid
stored-caller s n pid call p is change = by (caller_of s pid) refl is change
  where
    by : (o : Option Caller) → caller_of s pid ≡ o → patch_by call (step_by s n call o).reply ≡ Some p → altered call (step_by s n call o).reply ≡ true
        → caller_of (step_by s n call o).state pid ≡ caller_of s pid
    by None caller patched kept = absurd (refused-wrote call Esrch p patched kept)
    by (Some c) caller patched kept = ap (λ (m : Machine). caller_of m pid) (acts-store s n c call p patched kept).2

pub puts-same : (s m : Machine) (pid : ℕ) → caller_of s pid ≡ caller_of m pid → (bytes : List ℕ) (addr : ℕ) (ws : List Write) → puts s pid addr bytes ws ≡ puts m pid addr bytes ws
puts-same s m pid same [] addr ws = refl
puts-same s m pid same (b ∷ bs) addr ws =
    puts-same s m pid same bs (addr + 1) (put_at (place_of s pid addr) b ws)
    ∙ ap (λ (o : Option Caller). puts m pid (addr + 1) bs (put_at (place_by o addr) b ws)) same

-- FORKS

inherited-swap : (s : Machine) (c : Caller) (w : Write) → inherited (with_write s w) 1 c ≡ overwritten (inherited s 1 c) w
inherited-swap s c w = by (fork_marks s.limits.rules)
  where
    by : (b : Bool) → cond b (attach_all 1 c.pid (overwritten s.table w) (segments_of c)) (overwritten s.table w) ≡ overwritten (cond b (attach_all 1 c.pid s.table (segments_of c)) s.table) w
    by true = attach-swap 1 c.pid (segments_of c) s.table w
    by false = refl

fork-swap : (s : Machine) (pid child : ℕ) (w : Write) → (step (with_write s w) 1 pid (Fork child)).state ≡ with_write (step s 1 pid (Fork child)).state w
fork-swap s pid child w = by (caller_of s pid)
  where
    there : (c : Caller) (o : Option ℕ) → (forks (with_write s w) 1 c child o).state ≡ with_write (forks s 1 c child o).state w
    there c None = refl
    there c (Some i) = ap (λ (t : List Entry). record (forks s 1 c child (Some i)).state { table = t }) (inherited-swap s c w)

    by : (o : Option Caller) → (step_by (with_write s w) 1 (Fork child) o).state ≡ with_write (step_by s 1 (Fork child) o).state w
    by None = refl
    by (Some c) = there c (unborn_from 0 child s.runners)

fork-written : (s : Machine) (pid child : ℕ) (ws : List Write) → (step (written s ws) 1 pid (Fork child)).state ≡ written (step s 1 pid (Fork child)).state ws
fork-written s pid child [] = refl
fork-written s pid child (w ∷ ws) = fork-written (with_write s w) pid child ws ∙ ap (λ (m : Machine). written m ws) (fork-swap s pid child w)

-- a fork is made before the bytes are written, or after it
fork-first : (s : Machine) (pid : ℕ) (call : ProcessCall) (ws : List Write) → is_fork call ≡ true → written (step s 1 pid call).state ws ≡ (step (written s ws) 1 pid call).state
fork-first s pid (Fork child) ws h = sym (fork-written s pid child ws)
fork-first s pid call ws h = absurd (cc)

-- ONE CALL

made-changed : (base : Machine) (c : CallBy) (t : Effects) → changed base (all_changes (made c t)) ≡ (step (changed base (all_changes t)) 1 c.pid c.call).state
made-changed base c t =
    elim (cases_Bool (is_fork c.call)) [
      | inl fork ↦
          rw fork
          (changed-all base (record { past = t.past ++ Made c ∷ []; writes = t.writes })
          ∙ ap (λ (m : Machine). written m t.writes) (changed-append base t.past (Made c ∷ []))
          ∙ fork-first (changed base t.past) c.pid c.call t.writes fork
          ∙ ap (λ (m : Machine). (step m 1 c.pid c.call).state) (sym (changed-all base t)))
      | inr other ↦ rw other (changed-all base (record { past = all_changes t ++ Made c ∷ []; writes = [] }) ∙ changed-append base (all_changes t) (Made c ∷ []))
    ]

one-changed :
    (base s : Machine) (n pid : ℕ) (call : ProcessCall) (t : Effects) → n ≢ 0 → changed base (all_changes t) ≡ timeless s
    → changed base (all_changes (effects_after s (event_at s n pid call) t)) ≡ timeless (step s n pid call).state
one-changed base s n pid call t not-zero at =
    let e : Event = event_at s n pid call in
    elim (cases_Bool (is_change e)) [
      | inl yes-changes ↦ rw yes-changes (by yes-changes (patch_by call e.reply) refl)
      | inr no-changes ↦ rw no-changes (at ∙ ap timeless (sym (still s n pid call no-changes)))
    ]
  where
    by : is_change (event_at s n pid call) ≡ true → (o : Option Patch) → patch_by call (step s n pid call).reply ≡ o
        → changed base (all_changes (effects_by s (event_at s n pid call) o t)) ≡ timeless (step s n pid call).state
    by yes-changes (Some p) is =
        let w : Effects = record { past = t.past; writes = puts s pid p.addr p.bytes t.writes } in
        changed-all base w ∙ stored-after (changed base t.past) s n pid call p t.writes (sym (changed-all base t) ∙ at) is yes-changes
    by yes-changes None is =
        made-changed base (call_of (event_at s n pid call)) t
        ∙ ap (λ (m : Machine). (step m 1 pid call).state) at
        ∙ ap (λ (o : Outcome). o.state) (times_reach_times s n pid call not-zero)

-- A RUN

-- the effects after these calls of a machine lead to another
pub record FollowsOn (base s : Machine) (n : ℕ) (t : Effects) (more : List Event) (new : Machine) : Type 0 where
  pub machine : changed base (all_changes (effects_from s n t more)) ≡ timeless new
  pub next : (e : Event) → effects_from s n t (more ++ e ∷ []) ≡ effects_after new e (effects_from s n t more)

leads-follow :
    (script : ScriptView) (base : Machine) (schedule : List ℕ) (old new : Run) (t : Effects)
    → Leads script schedule old new → changed base (all_changes t) ≡ timeless old.machine
    → (more : List Event) × (new.events ≡ old.events ++ more) × FollowsOn base old.machine (length old.events + 1) t more new.machine
leads-follow script base [] old new t h at = (
  [],
  ap (λ (r : Run). r.events) (sym h) ∙ sym (append-nil old.events),
  record { machine = at ∙ ap (λ (r : Run). timeless r.machine) h; next = λ e. ap (λ (r : Run). effects_after r.machine e t) h },
)
leads-follow script base (pid ∷ schedule) old new t h at =
    let goes = made-by (next script old pid) old pid h.0 h.1 in
    let n : ℕ = length old.events + 1 in
    let e : Event = event_at old.machine n pid goes.0 in
    let left : Leads script schedule (after old pid goes.0) new = subst (λ (r : Run). Leads script schedule r new) (sym goes.2) h.2 in
    let rest = leads-follow script base schedule (after old pid goes.0) new (effects_after old.machine e t) left (one-changed base old.machine n pid goes.0 t (not-first (length old.events)) at) in
    let long : length (old.events ++ e ∷ []) + 1 ≡ n + 1 = ap (λ (k : ℕ). k + 1) (length-append old.events (e ∷ [])) in
    let on = subst (λ (k : ℕ). FollowsOn base (step old.machine n pid goes.0).state k (effects_after old.machine e t) rest.0 new.machine) long rest.2 in (
      e ∷ rest.0,
      rest.1 ∙ one-more old.events e rest.0,
      record { machine = on.machine; next = on.next },
    )

-- the effects of a run lead to its machine
pub reached-changed : (script : ScriptView) (machine : Machine) (run : Run) → IsReached script (fresh machine) run → changed (timeless machine) (all_changes (effects_of machine run.events)) ≡ timeless run.machine
reached-changed script machine run reached =
    let all = leads-follow script (timeless machine) (schedule_of run.events) (fresh machine) run no_effects reached refl in
    subst (λ (events : List Event). changed (timeless machine) (all_changes (effects_of machine events)) ≡ timeless run.machine) (sym all.1) all.2.machine

-- one call more adds its own effects
pub reached-next : (script : ScriptView) (machine : Machine) (run : Run) → IsReached script (fresh machine) run → (e : Event) → effects_of machine (run.events ++ e ∷ []) ≡ effects_after run.machine e (effects_of machine run.events)
reached-next script machine run reached e =
    let all = leads-follow script (timeless machine) (schedule_of run.events) (fresh machine) run no_effects reached refl in
    subst (λ (events : List Event). effects_of machine (events ++ e ∷ []) ≡ effects_after run.machine e (effects_of machine events)) (sym all.1) (all.2.next e)

-- the machine after the call makes the same effects
pub late-effects : (s : Machine) (n pid : ℕ) (call : ProcessCall) (t : Effects) → effects_after (step s n pid call).state (event_at s n pid call) t ≡ effects_after s (event_at s n pid call) t
late-effects s n pid call t =
    let e : Event = event_at s n pid call in
    elim (cases_Bool (is_change e)) [
      | inl yes-changes ↦ rw yes-changes (by yes-changes (patch_by call e.reply) refl)
      | inr no-changes ↦ rw no-changes refl
    ]
  where
    by : is_change (event_at s n pid call) ≡ true → (o : Option Patch) → patch_by call (step s n pid call).reply ≡ o
        → effects_by (step s n pid call).state (event_at s n pid call) o t ≡ effects_by s (event_at s n pid call) o t
    by yes-changes (Some p) is =
        ap (λ (ws : List Write). record { past = t.past; writes = ws }) (puts-same (step s n pid call).state s pid (stored-caller s n pid call p is yes-changes) p.bytes p.addr t.writes)
    by yes-changes None is = refl
