-- One load, or store, after another is one of all bytes.
use Rattle.std.proofs.Common.{◌≡◌, ℕ, zero, suc, ◌+◌, ◌-◌, ◌%◌, ◌/◌, ◌<◌, ◌≤◌, take, drop, Bool, true, false, List, [], ◌∷◌, ◌++◌, length, Some, refl, sym, ap, ◌∙◌, arith, inl, inr, subst}
use Rattle.std.specs.Prelude.{Err}
use Rattle.shm_slots.specs.Cause.{GoesOn}
use borrow.Rule.Slice.PartMut.{put_mid}
use Rattle.std.proofs.lemmas.Grind.{common_steps}
use Rattle.std.proofs.Math.Seq.{take-add}
use Rattle.std.proofs.lemmas.List.{length-append, length-drop, length-take-le, map-append, drop-drop, take-append-drop}
use Rattle.std.proofs.lemmas.Slice.{take-put_mid, drop-put_mid}
use Rattle.shm_base.specs.Calls.{ProcessCall}
use Rattle.shm_base.specs.declared.call.Reply.{Reply}
use Rattle.shm_fault.proofs.Written.{length-put_mid}
use Rattle.shm_life.specs.SystemState.{SystemState, time_of}
use Rattle.shm_fault.specs.Steps.{LockedPagesStay}
use Rattle.shm_fault.specs.Store.{StoreView}
use Rattle.shm_life.specs.MachineView.{LocksNothing}
use Rattle.shm_base.specs.declared.call.Reply.TheVariants as replies
use Rattle.shm_base.specs.declared.paging.PageRef.{PageRef}
use Rattle.shm_fault.proofs.Lending.{stay-refl, stay-trans}
use Rattle.shm_fault.specs.Loans.{LoansStay}
use Rattle.shm_fault.specs.Placing.{places as paged}
use Rattle.shm_life.specs.Lending.{pages_asked}
use Rattle.shm_life.specs.MachineView.{is_lock}
use Rattle.shm_life.specs.declared.loans.NotReady.{NotReady}
use Rattle.shm_life.specs.declared.loans.NotReady.TheVariants as ready
use Rattle.shm_machine.specs.Ready.{AccessMade, AccessedBy, Waits}
use Rattle.shm_machine.specs.Stretched.{CallsMade, NoCall, OneMore, Reached, ReadTo, StoppedAt, WrittenTo, calls_for, load_on, next_len, store_on}
use Rattle.shm_machine.specs.declared.refusal.Refusal.{Refusal}
use Rattle.shm_machine.specs.declared.refusal.Refusal.TheVariants.{Refused, HostMemory, Spent, Lent}
use Rattle.shm_fault.proofs.Sound.{GoesOn-refl, GoesOn-trans}
use Rattle.shm_base.specs.declared.call.Call.TheVariants.{Load, Store}
use Rattle.shm_base.specs.declared.call.Reply.TheVariants.{Bytes, Done}
use Rattle.shm_base.specs.State.{Entry, Piece, Machine}
use Rattle.shm_base.specs.Access.{Place, places, all_writable, writable_places, byte_at, with_byte, loaded, stored}
use Rattle.shm_base.specs.History.{IsMove, is_refusal}
use Rattle.shm_base.specs.Callers.{Caller, caller_of}
use Rattle.shm_base.specs.Step.{step}
use Rattle.shm_machine.proofs.Fitting.{places-length}

-- PLACES

places-more : (pieces : List Piece) (a m n : ℕ) (ps qs : List Place) → places pieces a m ≡ Some ps → places pieces (a + m) n ≡ Some qs → places pieces a (m + n) ≡ Some (ps ++ qs)
places-more pieces a zero n ps qs is more = grind (arith, common_steps)
places-more pieces a (suc m) n ps qs is more =
    let size : suc m + n ≡ suc (m + n) = omega arith in
    rw size (grind (arith, common_steps, λ (xs : List Place). places-more pieces (a + 1) m n xs qs))

-- LOADS

pub record HasRead (s : Machine) (pid a m : ℕ) (bs : List ℕ) : Type 0 where
  pub caller : Caller
  pub is : caller_of s pid ≡ Some caller
  pub named : List Place
  pub found : places caller.pieces a m ≡ Some named
  pub bytes : loaded s.table named ≡ bs

has-read : (s : Machine) (n pid a m : ℕ) (bs : List ℕ) → (step s n pid (Load a m)).reply ≡ Bytes bs → HasRead s pid a m bs
has-read s n pid a m bs h = grind (arith, common_steps)

pub read_more : (s : Machine) (n k pid a m l : ℕ) (xs ys : List ℕ) → (step s n pid (Load a m)).reply ≡ Bytes xs → (step s k pid (Load (a + m) l)).reply ≡ Bytes ys
    → (step s n pid (Load a (m + l))).reply ≡ Bytes (xs ++ ys)
read_more s n k pid a m l xs ys first second =
    let r = has-read s n pid a m xs first in
    let q = has-read s k pid (a + m) l ys second in
    let all = places-more r.caller.pieces a m l r.named q.named r.found (grind (arith, r.is, q.is, q.found)) in
    rw (r.is, all, map-append (byte_at s.table) r.named q.named, r.bytes) (grind (arith, q.bytes, r.bytes))

-- at any place of the history
load-any : (s : Machine) (n k pid a m : ℕ) (bs : List ℕ) → (step s n pid (Load a m)).reply ≡ Bytes bs → (step s k pid (Load a m)).reply ≡ Bytes bs
load-any s n k pid a m bs h = grind (arith, common_steps, has-read)

pub record Loads (s t : Machine) (n pid a m : ℕ) (bs : List ℕ) : Type 0 where
  pub reply : (step s n pid (Load a m)).reply ≡ Bytes bs
  pub state : t ≡ s

pub loads : (s t : Machine) (n pid a m : ℕ) (bs : List ℕ) → IsMove s n (record { pid = pid; call = Load a m; reply = Bytes bs }) t → Loads s t n pid a m bs
loads s t n pid a m bs is = grind (arith, common_steps)

-- STORES

all-writable : (ps qs : List Place) → all_writable ps ≡ true → all_writable qs ≡ true → all_writable (ps ++ qs) ≡ true
all-writable [] qs h k = k
all-writable (p ∷ ps) qs h k = grind (arith, common_steps, all-writable ps qs)

record IsWritable (pieces : List Piece) (a m : ℕ) (ps : List Place) : Type 0 where
  found : places pieces a m ≡ Some ps
  all : all_writable ps ≡ true

writable-by : (pieces : List Piece) (a m : ℕ) (ps : List Place) → writable_places pieces a m ≡ Some ps → IsWritable pieces a m ps
writable-by pieces a m ps h = grind (arith, common_steps)

writable-more : (pieces : List Piece) (a m n : ℕ) (ps qs : List Place) → writable_places pieces a m ≡ Some ps → writable_places pieces (a + m) n ≡ Some qs → writable_places pieces a (m + n) ≡ Some (ps ++ qs)
writable-more pieces a m n ps qs first second = grind (arith, common_steps, writable-by, places-more, all-writable)

stored-more : (table : List Entry) (ps qs : List Place) (bs cs : List ℕ) → length ps ≡ length bs → stored table (ps ++ qs) (bs ++ cs) ≡ stored (stored table ps bs) qs cs
stored-more table (p ∷ ps) qs (b ∷ bs) cs same = grind (arith, stored-more (with_byte table p b) ps qs bs cs)
stored-more table ps qs bs cs same = grind (arith, common_steps)

record HasStored (s : Machine) (pid a : ℕ) (bs : List ℕ) (t : Machine) : Type 0 where
  caller : Caller
  is : caller_of s pid ≡ Some caller
  named : List Place
  found : writable_places caller.pieces a (length bs) ≡ Some named
  after : record s { table = stored s.table named bs } ≡ t

abbrev Stores : Machine → ℕ → ℕ → ℕ → List ℕ → Machine → Type 0
Stores s n pid a bs t = step s n pid (Store bs a) ≡ record { reply = Done; state = t }

store-by : (s : Machine) (n pid a : ℕ) (bs : List ℕ) (t : Machine) → Stores s n pid a bs t → HasStored s pid a bs t
store-by s n pid a bs t h = grind (arith, common_steps)

-- at any place of the history
store-any : (s t : Machine) (n k pid a : ℕ) (bs : List ℕ) → Stores s n pid a bs t → Stores s k pid a bs t
store-any s t n k pid a bs h = grind (arith, common_steps, store-by)

pub write_more : (s t u : Machine) (n k pid a : ℕ) (bs cs : List ℕ) → Stores s n pid a bs t → Stores t k pid (a + length bs) cs u → Stores s n pid a (bs ++ cs) u
write_more s t u n k pid a bs cs first second =
    let r = store-by s n pid a bs t first in
    let q = store-by t k pid (a + length bs) cs u second in
    let runners : caller_of t pid ≡ caller_of s pid = ap (λ (m : Machine). caller_of m pid) (sym r.after) in
    let there : writable_places r.caller.pieces (a + length bs) (length cs) ≡ Some q.named = grind (arith, r.is, q.is, runners, q.found) in
    let all : writable_places r.caller.pieces a (length (bs ++ cs)) ≡ Some (r.named ++ q.named) = rw length-append (writable-more r.caller.pieces a (length bs) (length cs) r.named q.named r.found there) in
    let long : length r.named ≡ length bs = grind (arith, writable-by r.caller.pieces a (length bs) r.named r.found, places-length) in
    rw (r.is, all, stored-more s.table r.named q.named bs cs long) (grind (arith, r.after, q.after))

pub stores : (s t : Machine) (n pid a : ℕ) (bs : List ℕ) → IsMove s n (record { pid = pid; call = Store bs a; reply = Done }) t → Stores s n pid a bs t
stores s t n pid a bs is = grind (arith, common_steps)

-- LOCKED PAGES

-- pages of locked segments stay resident, and nothing becomes locked
pub record KeepsLocked (a b : StoreView) : Type 0 where
  pub kept : LockedPagesStay a b
  pub locks : LocksNothing a b

locked-trans : (a b c : StoreView) → KeepsLocked a b → KeepsLocked b c → KeepsLocked a c
locked-trans a b c p q = record {
  kept = λ seg page was is there. q.kept seg page (q.locks seg is) is (p.kept seg page was (q.locks seg is) there);
  locks = λ seg is. p.locks seg (q.locks seg is);
}

-- WHAT A CALL LEAVES, ONCE WAY WAS MADE FOR IT

pub record Advances (now : SystemState) (pid : ℕ) (call : ProcessCall) (reply : Reply) (after : SystemState) : Type 0 where
  pub move : IsMove now.machine (time_of now) (record { pid = pid; call = call; reply = reply }) after.machine
  pub counted : after.calls ≡ now.calls + 1
  pub opening : after.opening ≡ now.opening
  pub clock : after.clock ≡ now.clock
  pub goes_on : GoesOn now.memory.swap after.memory.swap
  pub locked : KeepsLocked now.memory after.memory
  pub stay : LoansStay (paged now.memory) (paged after.memory)

pub advances : (rs : List PageRef) (now after : SystemState) (pid : ℕ) (call : ProcessCall) (reply : Reply) → is_lock call ≡ false → AccessMade rs now pid call reply after → Advances now pid call reply after
advances rs now after pid call reply plain m =
    let mid = m.mid in
    let rest = m.ready.rest in
    let keeps = m.ready.ready.keeps in
    let r = m.access in
    record {
      move = subst (λ (s : SystemState). IsMove s.machine (time_of s) (record { pid = pid; call = call; reply = reply }) after.machine) rest r.move;
      counted = r.counted ∙ ap (λ (s : SystemState). s.calls + 1) rest;
      opening = r.opening ∙ ap (λ (s : SystemState). s.opening) rest;
      clock = r.clock ∙ ap (λ (s : SystemState). s.clock) rest;
      goes_on = GoesOn-trans now.memory.swap mid.memory.swap after.memory.swap keeps.goes_on r.keeps.goes_on;
      locked = locked-trans now.memory mid.memory after.memory (record { kept = keeps.kept; locks = keeps.locks }) (record { kept = r.keeps.kept; locks = r.locked plain });
      stay = m.stay;
    }

-- what a call that stopped it leaves
pub record Leaves (s t : StoreView) : Type 0 where
  pub locked : KeepsLocked s t
  pub stay : LoansStay (paged s) (paged t)

leaves-same : (m : StoreView) → Leaves m m
leaves-same m = record { locked = record { kept = λ seg page was is there. there; locks = λ seg is. is }; stay = stay-refl (paged m) }

leaves-waits : (rs : List PageRef) (why : NotReady) (s t : SystemState) → Waits rs why s t → Leaves s.memory t.memory
leaves-waits rs why s t w = record { locked = record { kept = w.ready.keeps.kept; locks = w.ready.keeps.locks }; stay = w.ready.stay }

leaves-made : (rs : List PageRef) (s t : SystemState) (pid : ℕ) (call : ProcessCall) (reply : Reply) → is_lock call ≡ false → AccessMade rs s pid call reply t → Leaves s.memory t.memory
leaves-made rs s t pid call reply plain m = let a = advances rs s t pid call reply plain m in record { locked = a.locked; stay = a.stay }

leaves-refused : (rs : List PageRef) (s t : SystemState) (pid : ℕ) (call : ProcessCall) (refusal : Refusal) → is_lock call ≡ false → AccessedBy rs s pid call (Err refusal) t → Leaves s.memory t.memory
leaves-refused rs s t pid call (Refused e) plain (inl m) = leaves-made rs s t pid call (replies.Refused e) plain m
leaves-refused rs s t pid call (Refused e) plain (inr n) = leaves-waits rs ready.Sigbus s t n.1
leaves-refused rs s t pid call HostMemory plain n = absurd n
leaves-refused rs s t pid call Spent plain n = rw n.1 (leaves-same s.memory)
leaves-refused rs s t pid call Lent plain w = leaves-waits rs ready.Lent s t w

pub leaves-stopped : (stood after : SystemState) (pid addr len : ℕ) (puts : Bool) (call : ProcessCall) (refusal : Refusal) → is_lock call ≡ false → StoppedAt stood pid addr len puts call refusal after → Leaves stood.memory after.memory
leaves-stopped stood after pid addr len puts call refusal plain (inl a) = leaves-refused (pages_asked stood.machine pid addr len puts) stood after pid call refusal plain a.1
leaves-stopped stood after pid addr len puts call refusal plain (inr n) = rw n.2 (leaves-same stood.memory)

pub leaves-trans : (a b c : StoreView) → Leaves a b → Leaves b c → Leaves a c
leaves-trans a b c p q = record { locked = locked-trans a b c p.locked q.locked; stay = stay-trans (paged a) (paged b) (paged c) p.stay q.stay }

-- ONE CALL MORE

-- every call but the first begins at a page boundary
abbrev IsNext : ℕ → ℕ → Type 0
IsNext addr done = 0 < done → (addr + done) % 4096 ≡ 0

calls-some : (addr n : ℕ) → 0 < n → calls_for addr n ≡ (addr % 4096 + n + 4095) / 4096
calls-some addr zero some = absurd (omega (arith, some))
calls-some addr (suc n) some = refl

calls-next : (addr done len : ℕ) → IsNext addr done → 0 < len → len ≤ 4096 - (addr + done) % 4096 → calls_for addr (done + len) ≡ calls_for addr done + 1
calls-next addr zero len next some few =
    let at : addr + zero ≡ addr = omega arith in
    let near : len ≤ 4096 - addr % 4096 = rw at at few in
    let now : calls_for addr (zero + len) ≡ (addr % 4096 + (zero + len) + 4095) / 4096 = calls-some addr (zero + len) (omega (arith, some)) in
    omega (arith, near, now, some)
calls-next addr (suc d) len next some few =
    let at : (addr + suc d) % 4096 ≡ 0 = next (omega arith) in
    let now = calls-some addr (suc d + len) (omega arith) in
    let was = calls-some addr (suc d) (omega arith) in
    omega (arith, at, few, some, now, was)

reached-next : (before now after : SystemState) (addr done len pid : ℕ) (call : ProcessCall) (reply : Reply) → Reached before addr done now → Advances now pid call reply after → IsNext addr done → 0 < len → len ≤ 4096 - (addr + done) % 4096 → Reached before addr (done + len) after
reached-next before now after addr done len pid call reply r moves next some few = record {
  calls = moves.counted ∙ ap (λ n. n + 1) r.calls ∙ omega (arith, calls-next addr done len next some few);
  opening = moves.opening ∙ r.opening;
  clock = moves.clock ∙ r.clock;
  goes_on = GoesOn-trans before.memory.swap now.memory.swap after.memory.swap r.goes_on moves.goes_on;
}

-- whole pages were done where there is more to do
abbrev pub AreWhole : ℕ → ℕ → ℕ → Type 0
AreWhole addr done size = (done ≤ size) × (done < size → IsNext addr done)

whole-next : (addr done size : ℕ) → AreWhole addr done size → done < size → AreWhole addr (done + next_len (addr + done) (size - done)) size
whole-next addr done size whole lt = (
  omega (arith, lt),
  λ less _. omega (arith, lt, less),
)

-- the next call takes up where these ended
made-next : (pid addr size done len : ℕ) (puts : Bool) (next : ℕ → ℕ → ProcessCall) (before now after : SystemState) (reply : Reply) → len ≡ next_len (addr + done) (size - done) → CallsMade pid addr size puts next before done now
    → is_refusal reply ≡ false → AccessMade (pages_asked now.machine pid (addr + done) len puts) now pid (next done len) reply after → CallsMade pid addr size puts next before (done + len) after
made-next pid addr size done len puts next before now after reply len-is made done-so access =
    subst (λ n. CallsMade pid addr size puts next before (done + n) after) (sym len-is)
    (OneMore done now reply after made done-so (subst (λ n. AccessMade (pages_asked now.machine pid (addr + done) n puts) now pid (next done n) reply after) len-is access))

pub record ReadSo (before : SystemState) (pid addr : ℕ) (old : List ℕ) (done : ℕ) (new : List ℕ) (now : SystemState) : Type 0 where
  pub whole : AreWhole addr done (length old)
  pub size : length new ≡ length old
  pub rest : drop done new ≡ drop done old
  pub bytes : 0 < done → (step before.machine (time_of before) pid (Load addr done)).reply ≡ Bytes (take done new)
  pub reached : Reached before addr done now
  pub machine : now.machine ≡ before.machine
  pub made : CallsMade pid addr (length old) false (load_on addr) before done now
  pub leaves : Leaves before.memory now.memory

reached-none : (before : SystemState) (addr : ℕ) → Reached before addr 0 before
reached-none before addr = record { calls = omega arith; opening = refl; clock = refl; goes_on = GoesOn-refl before.memory.swap }

-- nothing was read yet
pub read_none : (before : SystemState) (pid addr : ℕ) (old : List ℕ) → ReadSo before pid addr old 0 old before
read_none before pid addr old = record {
  whole = (omega arith, λ less some. absurd (omega (arith, some)));
  size = refl;
  rest = refl;
  bytes = λ some. absurd (omega (arith, some));
  reached = reached-none before addr;
  machine = refl;
  made = NoCall;
  leaves = leaves-same before.memory;
}

-- one more part was read
read-one : (m : Machine) (first now pid addr room done len : ℕ) (new xs : List ℕ) → (0 < done → (step m first pid (Load addr done)).reply ≡ Bytes (take done new)) → (step m now pid (Load (addr + done) len)).reply ≡ Bytes xs
    → take (done + len) (put_mid done room new xs) ≡ take done new ++ xs → (step m first pid (Load addr (done + len))).reply ≡ Bytes (take (done + len) (put_mid done room new xs))
read-one m first now pid addr room zero len new xs before next front = grind (arith, common_steps, load-any m now first pid addr len xs)
read-one m first now pid addr room (suc d) len new xs before next front = grind (arith, read_more m first now pid addr (suc d) len (take (suc d) new) xs)

pub read_next : (before now after : SystemState) (pid addr : ℕ) (old new xs : List ℕ) (done len room : ℕ) → ReadSo before pid addr old done new now → done < length old → len ≡ next_len (addr + done) (length old - done) → room ≡ len
    → AccessMade (pages_asked now.machine pid (addr + done) len false) now pid (Load (addr + done) len) (Bytes xs) after → length xs ≡ len → ReadSo before pid addr old (done + len) (put_mid done room new xs) after
read_next before now after pid addr old new xs done len room so lt len-is room-is access size =
    let moves = advances (pages_asked now.machine pid (addr + done) len false) now after pid (Load (addr + done) len) (Bytes xs) refl access in
    let l = loads now.machine after.machine (time_of now) pid (addr + done) len xs moves.move in
    let within : done ≤ length new = omega (arith, so.size, lt) in
    let fits : done + room ≤ length new = omega (arith, so.size, lt, room-is, len-is) in
    let held : length xs ≡ room = size ∙ sym room-is in
    let front : take (done + len) (put_mid done room new xs) ≡ take done new ++ xs = take-put_mid done room new xs (done + len) (ap (λ n. done + n) (sym size)) within in
    let next : (step before.machine (time_of now) pid (Load (addr + done) len)).reply ≡ Bytes xs = ap (λ (m : Machine). (step m (time_of now) pid (Load (addr + done) len)).reply) (sym so.machine) ∙ l.reply in
    record {
      whole = rw len-is (whole-next addr done (length old) so.whole lt);
      size = length-put_mid done room new xs fits held ∙ so.size;
      rest = drop-put_mid done room new xs (done + len) (omega (arith, room-is)) within held ∙ drop_on done len new old so.rest;
      bytes = λ some. read-one before.machine (time_of before) (time_of now) pid addr room done len new xs so.bytes next front;
      reached = reached-next before now after addr done len pid (Load (addr + done) len) (Bytes xs) so.reached moves (so.whole.1 lt) (omega (arith, lt, len-is)) (omega (arith, len-is));
      machine = l.state ∙ so.machine;
      made = made-next pid addr (length old) done len false (load_on addr) before now after (Bytes xs) len-is so.made refl access;
      leaves = leaves-trans before.memory now.memory after.memory so.leaves (record { locked = moves.locked; stay = moves.stay });
    }
  where
    drop_on : (done len : ℕ) (xs ys : List ℕ) → drop done xs ≡ drop done ys → drop (done + len) xs ≡ drop (done + len) ys
    drop_on done len xs ys same = grind (arith, drop-drop {A = ℕ} len done)

pub record WrittenSo (before : SystemState) (pid addr : ℕ) (bytes : List ℕ) (done : ℕ) (now : SystemState) : Type 0 where
  pub whole : AreWhole addr done (length bytes)
  pub none : done ≡ 0 → now.machine ≡ before.machine
  pub stored : 0 < done → Stores before.machine (time_of before) pid addr (take done bytes) now.machine
  pub reached : Reached before addr done now
  pub made : CallsMade pid addr (length bytes) true (store_on bytes addr) before done now
  pub leaves : Leaves before.memory now.memory

-- nothing was written yet
pub write_none : (before : SystemState) (pid addr : ℕ) (bytes : List ℕ) → WrittenSo before pid addr bytes 0 before
write_none before pid addr bytes = record {
  whole = (omega arith, λ less some. absurd (omega (arith, some)));
  none = λ zero-is. refl;
  stored = λ some. absurd (omega (arith, some));
  reached = reached-none before addr;
  made = NoCall;
  leaves = leaves-same before.memory;
}

pub write_next : (before now after : SystemState) (pid addr : ℕ) (bytes xs : List ℕ) (done len : ℕ) → WrittenSo before pid addr bytes done now → done < length bytes → len ≡ next_len (addr + done) (length bytes - done)
    → xs ≡ take len (drop done bytes) → AccessMade (pages_asked now.machine pid (addr + done) (length xs) true) now pid (Store xs (addr + done)) Done after → WrittenSo before pid addr bytes (done + len) after
write_next before now after pid addr bytes xs done len so lt len-is is access =
    let moves = advances (pages_asked now.machine pid (addr + done) (length xs) true) now after pid (Store xs (addr + done)) Done refl access in
    let left : len ≤ length (drop done bytes) = rw (length-drop done bytes) (omega (arith, len-is)) in
    let long : length xs ≡ len = ap length is ∙ length-take-le len (drop done bytes) left in
    let sized = subst (λ n. AccessMade (pages_asked now.machine pid (addr + done) n true) now pid (Store xs (addr + done)) Done after) long access in
    let own = subst (λ ys. AccessMade (pages_asked now.machine pid (addr + done) len true) now pid (Store ys (addr + done)) Done after) is sized in
    let some : 0 < len = omega (arith, lt, len-is) in
    record {
      whole = rw len-is (whole-next addr done (length bytes) so.whole lt);
      none = λ zero-is. absurd (omega (arith, zero-is, some));
      stored = λ more. rw (take-add done len bytes, ← is) (one done lt so.none so.stored (stores now.machine after.machine (time_of now) pid (addr + done) xs moves.move));
      reached = reached-next before now after addr done len pid (Store xs (addr + done)) Done so.reached moves (so.whole.1 lt) some (omega (arith, len-is));
      made = made-next pid addr (length bytes) done len true (store_on bytes addr) before now after Done len-is so.made refl own;
      leaves = leaves-trans before.memory now.memory after.memory so.leaves (record { locked = moves.locked; stay = moves.stay });
    }
  where
    one : (done : ℕ) → done < length bytes → (done ≡ 0 → now.machine ≡ before.machine) → (0 < done → Stores before.machine (time_of before) pid addr (take done bytes) now.machine) → Stores now.machine (time_of now) pid (addr + done) xs after.machine
        → Stores before.machine (time_of before) pid addr (take done bytes ++ xs) after.machine
    one zero below none before-stored next =
        let at : addr + zero ≡ addr = omega arith in
        let there : Stores now.machine (time_of now) pid addr xs after.machine = rw at at next in
        let first : Stores before.machine (time_of now) pid addr xs after.machine = rw (none refl) at there in
        store-any before.machine after.machine (time_of now) (time_of before) pid addr xs first
    one (suc d) below none before-stored next = grind (arith, length-take-le (suc d) bytes, write_more before.machine now.machine after.machine (time_of before) (time_of now) pid addr (take (suc d) bytes) xs)

-- STOPPED

-- a part that is as it was
pub unread : (a k : ℕ) (xs ys : List ℕ) → ys ≡ take k (drop a xs) → put_mid a k xs ys ≡ xs
unread a k xs ys same = rw same (ap (λ zs. take a xs ++ zs) (take-append-drop k (drop a xs)) ∙ take-append-drop a xs)

pub read_stopped : (before now after : SystemState) (pid addr : ℕ) (old new : List ℕ) (done len : ℕ) (refusal : Refusal) → ReadSo before pid addr old done new now → done < length old → len ≡ next_len (addr + done) (length old - done)
    → StoppedAt now pid (addr + done) len false (Load (addr + done) len) refusal after → ReadTo before pid addr old (record { done = done; stopped = Some refusal }) new after
read_stopped before now after pid addr old new done len refusal so lt len-is stopped =
    let all = leaves-trans before.memory now.memory after.memory so.leaves (leaves-stopped now after pid (addr + done) len false (Load (addr + done) len) refusal refl stopped) in
    record {
      within = so.whole.0;
      rest = so.rest;
      bytes = so.bytes;
      stood = now;
      reached = so.reached;
      machine = so.machine;
      made = so.made;
      ended = (lt, subst (λ n. StoppedAt now pid (addr + done) n false (Load (addr + done) n) refusal after) len-is stopped);
      kept = all.locked.kept;
      locks = all.locked.locks;
      stay = all.stay;
    }

pub write_stopped : (before now after : SystemState) (pid addr : ℕ) (bytes : List ℕ) (done len : ℕ) (refusal : Refusal) → WrittenSo before pid addr bytes done now → done < length bytes → len ≡ next_len (addr + done) (length bytes - done)
    → StoppedAt now pid (addr + done) len true (Store (take len (drop done bytes)) (addr + done)) refusal after → WrittenTo before pid addr bytes (record { done = done; stopped = Some refusal }) after
write_stopped before now after pid addr bytes done len refusal so lt len-is stopped =
    let all = leaves-trans before.memory now.memory after.memory so.leaves (leaves-stopped now after pid (addr + done) len true (Store (take len (drop done bytes)) (addr + done)) refusal refl stopped) in
    record {
      within = so.whole.0;
      stood = now;
      reached = so.reached;
      none = so.none;
      stored = so.stored;
      made = so.made;
      ended = (lt, subst (λ n. StoppedAt now pid (addr + done) n true (Store (take n (drop done bytes)) (addr + done)) refusal after) len-is stopped);
      kept = all.locked.kept;
      locks = all.locked.locks;
      stay = all.stay;
    }
