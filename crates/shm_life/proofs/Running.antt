-- What calls keep of the memory.
use Rattle.shm_life.proofs.Names.{Counts, SwapView, ◌≡◌, ◌<◌, ◌+◌, ℕ, Bool, true, false, List, [], ◌∷◌, length, drop, get_or, refl, sym, ◌∙◌, arith, ◌≤◌, drop-cons, is_err, OnOk, OnErr, Bounds, Entry, Runner, sizes, StoreView, frame_of, GoesOn-refl, Translation, AreTrue, KeepsMemory, IsWell, IsWellBut, IsTableSoundBut, KeepsOn, SegRec, held_by, nat_tests, OrphansAmong, Sweeps, PiecesFit, reserved, locked, lockable, with_seg_lock, holds_locked, memory-refl, Outcome, is_refusal, Reply, Refused, Errno, AreProcesses, MachineView, Answered, IsFailed, Did, DidUpTo, Pages, Paging, Rests, Ends, MovesNone, moves-refl, Result, Ok, Err, is_ok, ProcessCall, IsCaller, AnsweredBy, Served, SystemState, Replied, most_calls, seen, time_of, IsMove, is_failure, changed_by, changes_of, counted_after, inl, inr, map, is_some, ap, true≢false, ◌≢◌, IfSome}
use Rattle.shm_fault.specs.Store.{held, Still}
use Rattle.shm_attach.specs.declared.process.Caller.{Caller}
use Rattle.shm_life.proofs.Counted.{told}

pub keeps_refl : (m : StoreView) → KeepsOn m m
keeps_refl m = record { kept = λ seg page a b e. e; goes_on = GoesOn-refl m.swap }

pub keeps_on : (a b : StoreView) → KeepsMemory a b → KeepsOn a b
keeps_on a b r = record { kept = r.kept; goes_on = r.goes_on }

pub kept_refl : (m : StoreView) → KeepsMemory m m
kept_refl m = memory-refl m

-- WHERE PAGES ARE AFTER AN ANSWER

pages_done : (does : Paging) (reply : Reply) (m n : StoreView) → Did does m n → Pages does false reply m n
pages_done does reply m n did = record { done = λ _. did; stopped = λ e. absurd (true≢false (sym e)) }

pages_stopped : (does : Paging) (errno : Errno) (m n : StoreView) → DidUpTo does m n → Pages does true (Refused errno) m n
pages_stopped does errno m n did = record { done = λ e. absurd (true≢false e); stopped = λ _. did }

pub pages_refused : (does : Paging) (errno : Errno) (m : StoreView) → Pages does false (Refused errno) m m
pages_refused does errno m = record { done = λ e. absurd (true≢false e); stopped = λ e. absurd (true≢false (sym e)) }

pub pages_rest : (reply : Reply) (m : StoreView) → Pages Rests false reply m m
pages_rest reply m = pages_done Rests reply m m (moves-refl m)

pub pages_moved : (reply : Reply) (m n : StoreView) → MovesNone m n → Pages Rests false reply m n
pages_moved reply m n moves = pages_done Rests reply m n moves

pub pages_ended : (reply : Reply) (m n : StoreView) → Ends m n → Pages Rests false reply m n
pages_ended reply m n ends = pages_done Rests reply m n ends.moves

-- WHAT STAYS LOCKED

unlocked-less : (m : StoreView) (gs : List SegRec) (seg at : ℕ) → holds_locked (map (held_by m.frames m.swap) (map (with_seg_lock seg false) gs)) at ≡ true → holds_locked (map (held_by m.frames m.swap) gs) at ≡ true
unlocked-less m [] seg at h = h
unlocked-less m (g ∷ gs) seg at h = grind (arith, nat_tests, unlocked-less m gs seg at)

unlocks : (a : StoreView) (seg at : ℕ) → holds_locked (held (record a { segs = map (with_seg_lock seg false) a.segs })) at ≡ true → holds_locked (held a) at ≡ true
unfolding held
unlocks a seg at = unlocked-less a a.segs seg at

-- one segment unlocked
pub unlock_keeps : (a b : StoreView) (seg : ℕ) → b ≡ record a { segs = map (with_seg_lock seg false) a.segs } → Still a b → KeepsMemory a b
unlock_keeps a b seg is still = record {
  kept = λ s page was is there. ap is_some (still s page) ∙ there;
  locks = λ at. rw is (unlocks a seg at);
  goes_on = rw is (GoesOn-refl a.swap);
  frames = ap (λ (m : StoreView). length m.frames) is;
}

-- an answer that is not a refusal
pub granted : (o : Outcome) (does : Paging) (reply : Reply) (locks : Bool) (s t : MachineView) → o ≡ record { reply = reply; state = t.flat } → is_refusal reply ≡ false → KeepsMemory s.memory t.memory → Did does s.memory t.memory → Answered o does false locks reply s t
granted o does reply locks s t step none keeps did = record {
  step = λ _. step;
  failed = λ e. absurd (true≢false (sym e));
  keeps = keeps_on s.memory t.memory keeps;
  locked = λ _. keeps.locks;
  still = λ r _. absurd (true≢false (sym r ∙ none));
  paged = pages_done does reply s.memory t.memory did;
}

-- a lock that is granted
pub locking : (o : Outcome) (reply : Reply) (s t : MachineView) → o ≡ record { reply = reply; state = t.flat } → is_refusal reply ≡ false → KeepsOn s.memory t.memory → MovesNone s.memory t.memory → Answered o Rests false true reply s t
locking o reply s t step none keeps moves = record {
  step = λ _. step;
  failed = λ e. absurd (true≢false (sym e));
  keeps = keeps;
  locked = λ e. absurd (true≢false e);
  still = λ r _. absurd (true≢false (sym r ∙ none));
  paged = pages_moved reply s.memory t.memory moves;
}

-- an answer that changes nothing
answered_with : (o : Outcome) (does : Paging) (reply : Reply) (locks : Bool) (s : MachineView) → o ≡ record { reply = reply; state = s.flat } → Pages does false reply s.memory s.memory → Answered o does false locks reply s s
answered_with o does reply locks s step paged = record { step = λ _. step; failed = λ e. absurd (true≢false (sym e)); keeps = keeps_refl s.memory; locked = λ _ seg is. is; still = λ _ _. refl; paged = paged }

pub answered_as : (o : Outcome) (reply : Reply) (locks : Bool) (s : MachineView) → o ≡ record { reply = reply; state = s.flat } → Answered o Rests false locks reply s s
answered_as o reply locks s step = answered_with o Rests reply locks s step (pages_rest reply s.memory)

-- an answer, maybe a refusal, for which the flat machine changed and the memory did not
pub unmoved : (o : Outcome) (reply : Reply) (locks : Bool) (s t : MachineView) → o ≡ record { reply = reply; state = t.flat } → t.memory ≡ s.memory → Answered o Rests false locks reply s t
unmoved o reply locks s t step same = record {
  step = λ _. step;
  failed = λ e. absurd (true≢false (sym e));
  keeps = rw same (keeps_refl s.memory);
  locked = λ _ seg. rw same (λ is. is);
  still = λ _ _. same;
  paged = rw same (pages_rest reply s.memory);
}

-- a refusal
pub refused_as : (o : Outcome) (does : Paging) (errno : Errno) (locks : Bool) (s : MachineView) → o ≡ record { reply = Refused errno; state = s.flat } → Answered o does false locks (Refused errno) s s
refused_as o does errno locks s step = answered_with o does (Refused errno) locks s step (pages_refused does errno s.memory)

-- a refusal that names a pager's failure
pub failing : (o : Outcome) (does : Paging) (errno : Errno) (locks : Bool) (s t : MachineView) → IsFailed o s t → KeepsMemory s.memory t.memory → DidUpTo does s.memory t.memory → Answered o does true locks (Refused errno) s t
failing o does errno locks s t failed keeps did = record {
  step = λ e. absurd (true≢false e);
  failed = λ _. failed;
  keeps = keeps_on s.memory t.memory keeps;
  locked = λ _. keeps.locks;
  still = λ _ n. absurd (true≢false n);
  paged = pages_stopped does errno s.memory t.memory did;
}

-- a call of a live process is served
pub called : (s : MachineView) (n pid : ℕ) (caller : Caller) (call : ProcessCall) (reply : Reply) (t : MachineView) → caller.pid ≡ pid → IsCaller caller s.flat.runners → Served s n caller call reply t → AnsweredBy s n pid call reply t
called s n pid caller call reply t same is served = rw (← same, is) served

-- an answer that is counted is a reply of the system
pub replied_as : (s t : SystemState) (pid : ℕ) (call : ProcessCall) (reply : Reply) → s.calls < most_calls → AnsweredBy (seen s) (time_of s) pid call reply (seen t) → t ≡ record s { calls = s.calls + 1; changes = t.changes; machine = t.machine; memory = t.memory }
    → t.changes ≡ counted_after pid call s.changes → IfSome (changed_by pid call) (λ q. changes_of q t.changes ≢ changes_of q s.changes) → Replied s pid call reply t
replied_as s t pid call reply room a rest counts rises = record {
  room = room;
  move = by (is_failure call reply) refl;
  cause = λ f. (a.failed f).cause;
  counted = ap (λ (x : SystemState). x.calls) rest;
  opening = ap (λ (x : SystemState). x.opening) rest;
  clock = ap (λ (x : SystemState). x.clock) rest;
  changes = counts;
  told = told s.machine t.machine (time_of s) pid call reply s.changes t.changes (by (is_failure call reply) refl) rises;
  keeps = a.keeps;
  locked = a.locked;
  still = a.still;
  paged = a.paged;
}
  where
    by : (b : Bool) → is_failure call reply ≡ b → IsMove s.machine (time_of s) (record { pid = pid; call = call; reply = reply }) t.machine
    by false h = inl (a.step h)
    by true h = inr (record { failure = h; instead = (a.failed h).instead; unchanged = (a.failed h).unchanged })

-- translations stay true where no page moves
pub true_still : (ts : List Translation) (a b : StoreView) → ((s page : ℕ) → frame_of b s page ≡ frame_of a s page) → AreTrue ts a → AreTrue ts b
true_still ts a b still all = λ k d lt. all k d lt ∙ sym (still (get_or ts k d).seg (get_or ts k d).page)

-- some segments of a list were tested, and those without pieces destroyed
pub record SweptTo (rs : List Runner) (ts : List Translation) (table₀ table : List Entry) (m₀ m : StoreView) : Type 0 where
  pub sweeps : Sweeps rs table₀ table
  pub keeps : KeepsMemory m₀ m
  pub translated : AreTrue ts m₀ → AreTrue ts m
  pub same_sizes : sizes m.swap ≡ sizes m₀.swap
  pub ends : Ends m₀ m

pub sweeps-trans : (rs : List Runner) (a b c : List Entry) → Sweeps rs a b → Sweeps rs b c → Sweeps rs a c
sweeps-trans rs a b c p q = grind (arith, p.swept, q.swept, p.pieces, q.pieces)

pub sweeps-none : (rs : List Runner) (a : List Entry) → Sweeps rs a a
sweeps-none rs a = record { swept = refl; size = refl; reserved = omega arith; locked = omega arith; pieces = λ fit. fit }

-- another table and other processes, where nothing grows past its bound
pub kept-by : {lost more : List ℕ} (limits : Bounds) (t u : List Entry) (rs after : List Runner) → IsTableSoundBut lost limits t rs → length u ≤ length t → reserved u ≤ reserved t → locked u ≤ lockable limits → PiecesFit u after → OrphansAmong more after u → AreProcesses limits.most_processes after
    → IsTableSoundBut more limits u after
kept-by limits t u rs after k few_entries few_pages few_locked pieces orphans processes = grind arith

-- once no orphan is left, all is as it was
pub swept-well : {lost : List ℕ} (limits : Bounds) (rs : List Runner) (ts : List Translation) (t u : List Entry) (m n : StoreView) → SweptTo rs ts t u m n → OrphansAmong [] rs u
    → IsWellBut lost limits t rs ts m → IsWell limits u rs ts n
swept-well limits rs ts t u m n d none w = grind arith

-- the next of a list
pub among-next : (rs : List Runner) (t u : List Entry) (lost : List ℕ) (i d : ℕ) → i < length lost → OrphansAmong (drop i lost) rs t
    → ((rest : List ℕ) → OrphansAmong (get_or lost i d ∷ rest) rs t → OrphansAmong rest rs u) → OrphansAmong (drop (i + 1) lost) rs u
among-next rs t u lost i d lt among fewer = grind (arith, drop-cons)

-- WHAT IS KNOWN OF A RESULT THAT WAS ASKED WHETHER IT IS AN ERROR

pub ok_fact : {A E : Type 0} (r : Result A E) (P : Type 0) → is_err r ≡ false → OnOk r P → P
ok_fact (Ok a) P none fact = fact
ok_fact (Err e) P none fact = absurd (true≢false none)

pub err_fact : {A E : Type 0} (r : Result A E) (P : Type 0) → is_err r ≡ true → OnErr r P → P
err_fact (Ok a) P is fact = absurd (true≢false (sym is))
err_fact (Err e) P is fact = fact

-- the failures that were counted, by the result
pub none-failed : {A E : Type 0} (r : Result A E) (before after : SwapView) → is_err r ≡ false → Counts (is_ok r) before after → Counts true before after
none-failed (Ok a) before after none fact = fact
none-failed (Err e) before after none fact = absurd (true≢false none)

pub one-failed : {A E : Type 0} (r : Result A E) (before after : SwapView) → is_err r ≡ true → Counts (is_ok r) before after → Counts false before after
one-failed (Ok a) before after is fact = absurd (true≢false (sym is))
one-failed (Err e) before after is fact = fact
