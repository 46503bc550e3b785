-- The replies to an access that succeeded, and to one that was refused or at which a pager failed.
use Rattle.shm_life.proofs.Names.{All, InPage, SegmentsView, eq-eqb, ◌≤◌, ◌≡◌, ◌∙◌, ℕ, ◌+◌, ◌%◌, Bool, true, false, if◌then◌else◌, List, length, Some, None, refl, sym, ap, arith, common_steps, OnOk, OnErr, Entry, Span, Place, Outcome, gives, refuses, Bytes, Done, Machine, Piece, wanted_in, load-wanted, store-wanted, loaded, span_places, SameTable, same-refl, stored-same, Bounds, Runner, StoreView, sizes, HostRange, w64, from_le_bytes, to_le_bytes, places, same_bytes, stored, writable_places, Caller, caller_of, ProcessCall, acts, compare_exchange, exchange, load, step_by, store, xadd, is_failure, is_refusal, Reply, Number, Refused, Errno, Esrch, Sigbus, Sigsegv, IsCaller, caller_seen, unmarked, Called, are_asked, loaded-unmarked, stored-unmarked, answer_of, Act, Nothing, Put, PutIfEqual, Add, Touched, table_with, Does, DoesAt, DoesBy, LeavesOrFails, call_of, reply_of, Answered, AnsweredTo, MachineView, is_lock, replied, reply_in, Paging, comparing, page_spans, paging_by, touching, Rests, Touches, ◌==◌, ◌^◌, is_some, map, Option, Result, Ok, Err, IfOk, IfErr, option_map}
use Rattle.std.specs.Borrow.{Bor}
use Rattle.std.specs.Result.{result_or}
use Rattle.std.proofs.lemmas.Result.{IfOk-weaker}
use Rattle.shm_base.specs.declared.call.Call.TheVariants as call
use Rattle.shm_fault.specs.Acting.{FitsRoom, bytes_in, place_after, put_by, size_of, writes}
use Rattle.shm_segments.specs.Acted.{Acted}
use Rattle.shm_life.proofs.Touching.{comes-in, comes-up-to, have-pages}
use Rattle.shm_life.proofs.Running.{answered_as, failing, granted}

-- a reply that refuses nothing and names no failure
abbrev IsGrant : (Reply → Bool) → Reply → Type 0
IsGrant names reply = (names reply ≡ false) × (is_refusal reply ≡ false)

accessed : {T : Type 0} (o : Outcome) (table : List Entry) (puts : Bool) (bytes : List Place) (names : Reply → Bool) (reply : T → Reply) (s t : MachineView) (r : Result T Errno)
    → names (Refused Sigbus) ≡ true → is_refusal o.reply ≡ false → ((x : T) → IsGrant names (reply x))
    → IfOk r (λ x. o ≡ gives (record s.flat { table = table }) (reply x)) → LeavesOrFails table puts (page_spans bytes) s r t → Answered o (Touches puts bytes) (names (replied reply r)) false (replied reply r) s t
accessed o table puts bytes names reply s t (Ok x) fails none grant step leaves =
    rw (grant x).0 (granted o (Touches puts bytes) (reply x) false s t (step ∙ ap (λ (m : Machine). gives m (reply x)) (sym leaves.written)) (grant x).1 leaves.keeps leaves.came)
accessed o table puts bytes names reply s t (Err e) fails none grant step leaves =
    rw (leaves.err.told, fails) (failing o (Touches puts bytes) Sigbus false s t (record { instead = none; unchanged = leaves.same; cause = leaves.err.cause }) leaves.keeps leaves.stopped)

abbrev pub view_with : Bounds → List HostRange → List Entry → List Runner → StoreView → MachineView
view_with limits hosts t rs m = record { flat = record { limits = limits; areas = sizes m.swap; table = t; runners = rs; host_ranges = hosts }; memory = m }

-- an access of the segments, as one of the machine
pub told : {A E : Type 0} (r : Result A E) (limits : Bounds) (hosts : List HostRange) (put : Option (List ℕ)) (before after : List ℕ) (rs rest : List Runner) (s t : SegmentsView) (ps : List Span) (touched : Touched) → length ps ≤ 2 → All InPage ps → rest ≡ rs
    → Acted put ps before after s t r (answer_of touched r)
    → LeavesOrFails (table_with s.table (span_places false ps) put) (is_some put) (page_spans (span_places false ps)) (view_with limits hosts s.table rs s.memory) (result_or r (Err Sigbus)) (view_with limits hosts t.table rest t.memory)
told (Ok a) limits hosts put before after rs rest s t ps touched few fit runners acted =
    let have = have-pages ps few fit in
    record {
      written = rw (acted.written, runners, acted.access.same_sizes) refl;
      same = tt;
      keeps = acted.keeps;
      err = tt;
      came = comes-in (is_some put) s.memory t.memory touched ps _ have acted.has acted.access.paged acted.places;
      stopped = tt;
    }
told (Err e) limits hosts put before after rs rest s t ps touched few fit runners acted =
    let have = have-pages ps few fit in
    record {
      written = tt;
      same = rw (acted.same, runners, acted.access.same_sizes) refl;
      keeps = acted.keeps;
      err = record { told = refl; cause = acted.access.paged.cause refl };
      came = tt;
      stopped = comes-up-to s.memory t.memory touched ps _ have acted.has acted.access.paged acted.stopped;
    }

-- a result with another error instead of its own
pub or-ok : {A E : Type 0} (P Q : A → Type 0) (r : Result A E) (other : Errno) → ((a : A) → P a → Q a) → IfOk r P → IfOk (result_or r (Err other)) Q
or-ok P Q (Ok a) other to p = to a p
or-ok P Q (Err e) other to p = tt

pub or-err : {A E : Type 0} (P Q : Type 0) (r : Result A E) (other : Errno) → (P → Q) → OnErr r P → IfErr (result_or r (Err other)) (λ e. (e ≡ other) × Q)
or-err P Q (Ok a) other to p = tt
or-err P Q (Err e) other to p = (refl, to p)

-- a table in which bytes were put, or none were, has the same pages
pub noted : (put : Option (List ℕ)) (ps : List Place) (t : List Entry) → SameTable t (table_with t ps put)
noted None ps t = same-refl t
noted (Some bytes) ps t = stored-same ps bytes t

-- an act at spans, as one at their places
pub did : {E : Type 0} (act : Act) (ps : List Span) (before after : List ℕ) (s t : MachineView) → bytes_in ps ≡ size_of act (length before) → (r : Result (Unit {0}) E)
    → OnOk r (after ≡ place_after (bytes_in ps) (loaded s.flat.table (span_places false ps)) before) → OnErr r (after ≡ before)
    → (let put = put_by act (loaded s.flat.table (span_places false ps)) in
    LeavesOrFails (table_with s.flat.table (span_places false ps) put) (is_some put) (page_spans (span_places false ps)) s (result_or r (Err Sigbus)) t)
    → Does act (span_places false ps) before after s (result_or r (Err Sigbus)) t
did act ps before after s t sum (Ok a) there kept leaves = record { there = rw sum at there; kept = tt; leaves = leaves }
did act ps before after s t sum (Err e) there kept leaves = record { there = tt; kept = kept; leaves = leaves }

-- a caller's act is that of its process
pub by-caller : (act : Act) (addr pid : ℕ) (c : Called) (before after : List ℕ) (s t : MachineView) (r : Result (Unit {0}) Errno) → c.pid ≡ pid → IsCaller c s.flat.runners
    → DoesBy act addr (Some (caller_seen c s.flat.runners)) before after s r t → DoesBy act addr (caller_of s.flat pid) before after s r t
by-caller act addr pid c before after s t r same is d = rw (← same, is) d

-- WHAT AN ACCESS LEAVES IN THE PLACE FOR THE OLD BYTES

-- a place for the old bytes that is as long as they are
pub filled : (n : ℕ) (old before : List ℕ) → n ≡ length before → place_after n old before ≡ old
filled n old before long = rw (eq-eqb n (length before) long) refl

if-puts : (b : Bool) (bytes : List ℕ) → is_some (if b then Some bytes else None) ≡ b
if-puts true bytes = refl
if-puts false bytes = refl

pub on-ok : {A E : Type 0} (P Q : Type 0) (r : Result A E) → (P → Q) → OnOk r P → OnOk r Q
on-ok P Q (Ok a) f p = f p
on-ok P Q (Err e) f p = tt

-- refused before anything was done, the place for the old bytes is as it was
pub does-kept : (act : Act) (addr : ℕ) (who : Option Caller) (before after : List ℕ) (s t : MachineView) (r : Result (Unit {0}) Errno) → DoesBy act addr who before after s r t → OnErr r (after ≡ before)
does-kept act addr None before after s t r d = rw d.by.0 d.by.1.0
does-kept act addr (Some c) before after s t r d = at _ d.by
  where
    at : (o : Option (List Place)) → DoesAt act o before after s r t → OnErr r (after ≡ before)
    at None d = rw d.0 d.1.0
    at (Some asked) d = d.kept

-- A CALL THAT IS AN ACT

none-asked : (o : Option (List Place)) → option_map (map unmarked) o ≡ None → o ≡ None
none-asked None is = refl
none-asked (Some ps) is = cc

-- what the flat machine does in a call, and the pages that it touches, are those of an act at these places
abbrev Steps : Act → (List ℕ → Reply) → Option (List Place) → Machine → Outcome → Paging → Type 0
Steps act reply None s o does = (o ≡ refuses s Sigsegv) × (does ≡ Rests)
Steps act reply (Some places) s o does =
    let old = loaded s.table places in
    (o ≡ gives (record s { table = table_with s.table places (put_by act old) }) (reply old)) × (does ≡ Touches (is_some (put_by act old)) places)

module _ (s : Machine) (ps : List Piece) (addr : ℕ) where
  add-wanted : (add : ℕ) (wanted : List Place) → wanted_in true ps addr 8 ≡ Some wanted
      → xadd s add (writable_places ps addr 8)
      ≡ gives (record s { table = stored s.table wanted (to_le_bytes w64 ((from_le_bytes w64 (loaded s.table wanted) + add) % 2 ^ 64)) }) (Number (from_le_bytes w64 (loaded s.table wanted)))
  add-wanted add wanted is =
      let a = are_asked (writable_places ps addr 8) wanted is in
      let bytes : loaded s.table a.ps ≡ loaded s.table wanted = sym (loaded-unmarked s.table a.ps) ∙ ap (loaded s.table) a.same in
      let kept : (bs : List ℕ) → stored s.table a.ps bs ≡ stored s.table wanted bs = λ bs. sym (stored-unmarked s.table a.ps bs) ∙ ap (λ qs. stored s.table qs bs) a.same in
      rw (a.there, bytes, kept) refl

  exchange-wanted : (bytes : List ℕ) (wanted : List Place) → wanted_in true ps addr (length bytes) ≡ Some wanted
      → exchange s bytes (writable_places ps addr (length bytes)) ≡ gives (record s { table = stored s.table wanted bytes }) (Bytes (loaded s.table wanted))
  exchange-wanted bytes wanted is = grind (arith, common_steps, are_asked, loaded-unmarked, stored-unmarked)

  compare-wanted : (expected bytes : List ℕ) (wanted : List Place) → wanted_in true ps addr (length bytes) ≡ Some wanted
      → compare_exchange s expected bytes (writable_places ps addr (length bytes))
      ≡ gives (record s { table = table_with s.table wanted (if same_bytes (loaded s.table wanted) expected then Some bytes else None) }) (Bytes (loaded s.table wanted))
  compare-wanted expected bytes wanted is = grind (arith, common_steps, are_asked, loaded-unmarked, stored-unmarked)

  load-steps : (len : ℕ) (o : Option (List Place)) → wanted_in false ps addr len ≡ o → Steps Nothing Bytes o s (load s (places ps addr len)) (touching false o)
  load-steps len None is = rw (none-asked (places ps addr len) is) (refl, refl)
  load-steps len (Some wanted) is = (load-wanted s ps addr len wanted is, refl)

  store-steps : (b : Bor (List ℕ)) (o : Option (List Place)) → wanted_in true ps addr (length b.now) ≡ o → Steps (Put b) (λ _. Done) o s (store s b.now (writable_places ps addr (length b.now))) (touching true o)
  store-steps b None is = rw (none-asked (writable_places ps addr (length b.now)) is) (refl, refl)
  store-steps b (Some wanted) is = (store-wanted s ps addr b.now wanted is, refl)

  exchange-steps : (b : Bor (List ℕ)) (o : Option (List Place)) → wanted_in true ps addr (length b.now) ≡ o → Steps (Put b) Bytes o s (exchange s b.now (writable_places ps addr (length b.now))) (touching true o)
  exchange-steps b None is = rw (none-asked (writable_places ps addr (length b.now)) is) (refl, refl)
  exchange-steps b (Some wanted) is = (exchange-wanted b.now wanted is, refl)

  compare-steps : (e b : Bor (List ℕ)) (o : Option (List Place)) → wanted_in true ps addr (length b.now) ≡ o
      → Steps (PutIfEqual e b) Bytes o s (compare_exchange s e.now b.now (writable_places ps addr (length b.now))) (comparing s.table e.now o)
  compare-steps e b None is = rw (none-asked (writable_places ps addr (length b.now)) is) (refl, refl)
  compare-steps e b (Some wanted) is =
      (compare-wanted e.now b.now wanted is, rw (if-puts (same_bytes (loaded s.table wanted) e.now) b.now) refl)

  add-steps : (add : ℕ) (o : Option (List Place)) → wanted_in true ps addr 8 ≡ o → Steps (Add add) (reply_of (Add add) 8) o s (xadd s add (writable_places ps addr 8)) (touching true o)
  add-steps add None is = rw (none-asked (writable_places ps addr 8) is) (refl, refl)
  add-steps add (Some wanted) is = (add-wanted add wanted is, refl)

steps : (act : Act) (room addr n : ℕ) (s : Machine) (c : Caller) → FitsRoom act room
    → Steps act (reply_of act room) (wanted_in (writes act) c.pieces addr (size_of act room)) s (acts s n c (call_of act addr room)) (paging_by s.table (call_of act addr room) c)
steps Nothing room addr n s c fit = load-steps s c.pieces addr room _ refl
steps (Put b) room addr n s c fit = by (length b.now == room)
  where
    by : (x : Bool) → (let called = if x then call.Exchange b.now addr else call.Store b.now addr in
        Steps (Put b) (λ old. if x then Bytes old else Done) (wanted_in true c.pieces addr (length b.now)) s (acts s n c called) (paging_by s.table called c))
    by true = exchange-steps s c.pieces addr b _ refl
    by false = store-steps s c.pieces addr b _ refl
steps (PutIfEqual e b) room addr n s c fit = rw (← fit) (compare-steps s c.pieces addr e b _ refl)
steps (Add add) room addr n s c fit = rw fit (add-steps s c.pieces addr add _ refl)

-- such a call locks nothing, and of its replies only SIGBUS names a pager's failure
record Fails (called : ProcessCall) (reply : List ℕ → Reply) : Type 0 where
  locks : is_lock called ≡ false
  bus : is_failure called (Refused Sigbus) ≡ true
  segv : is_failure called (Refused Sigsegv) ≡ false
  dead : is_failure called (Refused Esrch) ≡ false
  grant : (old : List ℕ) → IsGrant (is_failure called) (reply old)

fails : (act : Act) (room addr : ℕ) → Fails (call_of act addr room) (reply_of act room)
fails Nothing room addr = record { locks = refl; bus = refl; segv = refl; dead = refl; grant = λ old. (refl, refl) }
fails (Put b) room addr = by (length b.now == room)
  where
    by : (x : Bool) → Fails (if x then call.Exchange b.now addr else call.Store b.now addr) (λ old. if x then Bytes old else Done)
    by true = record { locks = refl; bus = refl; segv = refl; dead = refl; grant = λ old. (refl, refl) }
    by false = record { locks = refl; bus = refl; segv = refl; dead = refl; grant = λ old. (refl, refl) }
fails (PutIfEqual e b) room addr = record { locks = refl; bus = refl; segv = refl; dead = refl; grant = λ old. (refl, refl) }
fails (Add add) room addr = record { locks = refl; bus = refl; segv = refl; dead = refl; grant = λ old. (refl, refl) }

-- the reply has the old bytes, whatever was in the place for them
replies-old : (act : Act) (old before : List ℕ) → reply_of act (length before) (place_after (size_of act (length before)) old before) ≡ reply_of act (length before) old
replies-old Nothing old before = ap Bytes (filled _ old before refl)
replies-old (Put b) old before = by (length b.now == length before)
  where
    by : (x : Bool) → (if x then Bytes (if x then old else before) else Done) ≡ (if x then Bytes old else Done)
    by true = refl
    by false = refl
replies-old (PutIfEqual e b) old before = ap Bytes (filled _ old before refl)
replies-old (Add add) old before = ap (λ (bs : List ℕ). Number (from_le_bytes w64 bs)) (filled _ old before refl)

module _ (act : Act) (s t : MachineView) (n addr : ℕ) (before after : List ℕ) (r : Result (Unit {0}) Errno) where
  -- an act of a caller, as a call that does the same
  at-places : (c : Caller) (called : ProcessCall) (reply : List ℕ → Reply) → Fails called reply → ((old : List ℕ) → reply (place_after (size_of act (length before)) old before) ≡ reply old)
      → (o : Option (List Place)) → Steps act reply o s.flat (acts s.flat n c called) (paging_by s.flat.table called c) → DoesAt act o before after s r t
      → AnsweredTo (acts s.flat n c called) (Some c) called (reply_in (reply after) r) s t
  at-places c called reply can old None step d = rw (d.0, d.1.1, step.0, step.1, can.locks, can.segv) (answered_as _ _ _ s refl)
  at-places c called reply can old (Some places) step d =
      rw (step.1, can.locks)
      (accessed _ _ _ places (is_failure called) (λ _. reply after) s t r can.bus (rw step.0 (can.grant (loaded s.flat.table places)).1) (λ _. can.grant after) (IfOk-weaker r _ _ (λ _ has. rw (has, old (loaded s.flat.table places)) step.0) d.there) d.leaves)

  -- who did an act made the call that it is
  pub acted : (who : Option Caller) → FitsRoom act (length before) → DoesBy act addr who before after s r t
      → (let called = call_of act addr (length before) in AnsweredTo (step_by s.flat n called who) who called (reply_in (reply_of act (length before) after) r) s t)
  acted None fit d = let can = fails act (length before) addr in rw (d.by.0, d.by.1.1, can.locks, can.dead) (answered_as _ _ _ s refl)
  acted (Some c) fit d =
      at-places c _ _ (fails act (length before) addr) (λ old. replies-old act old before) _ (steps act (length before) addr n s.flat c fit) d.by
