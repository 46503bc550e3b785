-- By how much each move changes how many pieces there are.
use Rattle.shm_laws.proofs.Names.{ChangesItsOwn, Cred, Mprotect, Munmap, ◌≤◌, occupied-cut, protects_pieces, rounded, stops_midway, ◌≡◌, ◌≢◌, ◌⊎◌, ℕ, ◌+◌, ◌*◌, ◌<◌, ◌==◌, ℤ, pos, Bool, true, false, not, if◌then◌else◌, List, [], ◌∷◌, Option, Some, slice_set, refl, sym, ap, ◌∙◌, inl, inr, arith, common_steps, filter, subst, flat_map-cons, none-some, ShmidDs, ProcessCall, Shmat, Shmdt, Fork, Exec, Exit, Addr, Done, Event, AtFlags, Piece, Live, Runner, Machine, Look, look, occupied, cut, origin_of, is_named, without_named, pieces_of, attach_count, Caller, Outcome, caller_of, acts, step_by, is_remap, stat, is_refusal, IsMove, one_more, pieces_of-inserted, pieces_of-filter, sum-set, piece_count, hands_pieces, CountsPieces, IsFreeFor, Stands, pieces_of_caller, caller-at, caller-set, count-named, protected-keeps}
use Rattle.shm_base.specs.declared.call.Call.TheVariants as calls
use Rattle.shm_base.specs.declared.call.Reply.TheVariants as replies
use Rattle.shm_laws.proofs.Callers.{caller-there}
use Rattle.shm_laws.proofs.Handing.{Takes, Attaches, Leaves, Unmaps, Protects, Hands, none-stay, hands-acts}
use Rattle.shm_laws.proofs.Looks.{found-own, one-segment}
use Rattle.shm_laws.proofs.Refusing.{by-move}
use Rattle.shm_laws.proofs.Stepping.{Bare, unborn-bare}

-- PIECES THAT ARE CUT OR NAMED

-- where nothing lies nothing is cut
cut-free : (from to : ℕ) (ps : List Piece) → occupied ps from to ≡ false → cut from to ps ≡ ps
cut-free from to [] free = refl
cut-free from to (p ∷ ps) free = grind (arith, common_steps, flat_map-cons, cut-free from to ps)

-- of other segments none is named
named-other : (addr seg j : ℕ) (ps : List Piece) → j ≢ seg → pieces_of j (without_named addr seg ps) ≡ pieces_of j ps
named-other addr seg j [] apart = refl
named-other addr seg j (p ∷ ps) apart = grind (arith, common_steps, one_more, named-other addr seg j ps apart)

-- of the segment that is named one at least is
named-fewer : (addr : ℕ) (ps : List Piece) (p : Piece) → origin_of addr ps ≡ Some p → pieces_of p.seg (without_named addr p.seg ps) < pieces_of p.seg ps
named-fewer addr [] p found = absurd (none-some p found)
named-fewer addr (q ∷ qs) p found =
    let rest = named-fewer addr qs p in
    let own = one_more p.seg q qs in
    let fewer = pieces_of-filter p.seg (λ r. not (is_named addr p.seg r)) qs in
    let kept = one_more p.seg q (without_named addr p.seg qs) in
    grind (arith, common_steps)

-- ONE CALL

module _ (s : Machine) (pid : ℕ) (c : Caller) (live : caller_of s pid ≡ Some c) (bare : Bare s.runners) (call : ProcessCall) (o : Outcome) where
  -- the caller's pieces go and others come
  swap : (r : Runner) (j : ℕ) → attach_count (slice_set s.runners c.index r) j + pieces_of j c.pieces ≡ attach_count s.runners j + pieces_of j r.pieces
  swap r j = sum-set (λ (y : Runner). pieces_of j y.pieces) s.runners c.index r (record { pid = pid; life = Live c.cred; pieces = c.pieces }) (caller-at pid s.runners c live).there

  mine : (j : ℕ) → piece_count s pid j ≡ pieces_of j c.pieces
  mine j = ap (λ h. pieces_of j (pieces_of_caller h)) live

  -- nothing lies in the range, because the call asked for that, or because it was so
  range-free : (k : Attaches s c call o) (id addr base : ℕ) (flags : AtFlags) → call ≡ Shmat (pos id) addr flags → o.reply ≡ Addr base
      → (is_remap flags ≡ false) ⊎ IsFreeFor s pid id base → occupied c.pieces k.place.base (k.place.base + 4096 * k.place.pages) ≡ false
  range-free k id addr base flags asked answer (inl plain) = let same : flags ≡ k.flags = cc (asked, k.asked) in k.there.lies.free (subst (λ f. is_remap f ≡ false) same plain)
  range-free k id addr base flags asked answer (inr f) =
      let named : id ≡ k.place.seg = cc (asked, k.asked) in
      let one : f.segment ≡ k.there.segment = one-segment s k.place.seg f.segment k.there.segment (subst (λ n. Stands s n f.segment) named f.stands) k.there.stands in
      cc (f.free, answer, k.answer, one, k.there.whole, ap pieces_of_caller live)

  attached-counts : (k : Attaches s c call o) → occupied c.pieces k.place.base (k.place.base + 4096 * k.place.pages) ≡ false → (j : ℕ) → attach_count o.state.runners j ≡ attach_count s.runners j + (if k.place.seg == j then 1 else 0)
  attached-counts k free j = grind (arith, cut-free, pieces_of-inserted, swap)

  attach-counts : Hands s c call o → (id addr base : ℕ) (flags : AtFlags) → call ≡ Shmat (pos id) addr flags → o.reply ≡ Addr base
      → (is_remap flags ≡ false) ⊎ IsFreeFor s pid id base → (j : ℕ) → attach_count o.state.runners j ≡ attach_count s.runners j + (if id == j then 1 else 0)
  attach-counts h id addr base flags asked answer free j =
      let k : Attaches s c call o = grind arith in
      let named : id ≡ k.place.seg = cc (asked, k.asked) in
      rw named (attached-counts k (range-free k id addr base flags asked answer free) j)

  fork-counts : Hands s c call o → (child : ℕ) → call ≡ Fork child → o.reply ≡ Done → (j : ℕ) → attach_count o.state.runners j ≡ attach_count s.runners j + piece_count s pid j
  fork-counts h child asked answer j = grind (arith, common_steps, unborn-bare, sum-set, mine)

  left-counts : Hands s c call o → (call ≡ Exec) ⊎ (call ≡ Exit) → o.reply ≡ Done → (j : ℕ) → attach_count o.state.runners j + piece_count s pid j ≡ attach_count s.runners j
  left-counts h which answer j = grind (arith, common_steps, none-stay, swap, mine)

  abbrev Loses : Type 0
  Loses = (id : ℕ) × (attach_count o.state.runners id < attach_count s.runners id) × ((j : ℕ) → j ≢ id → attach_count o.state.runners j ≡ attach_count s.runners j)

  detach-counts : Hands s c call o → (addr : ℕ) → call ≡ Shmdt addr → o.reply ≡ Done → Loses
  detach-counts h addr asked answer = let k : Leaves s c call o = grind arith in by k k.taken
    where
      by : (k : Leaves s c call o) → Takes c call k.stays → Loses
      by k (inr t) = absurd (grind arith)
      by k (inl (a, p, e, found, stays)) =
          let all = λ (j : ℕ). swap (record { pid = c.pid; life = k.life; pieces = filter k.stays c.pieces }) j in
          (p.seg, rw k.runners (grind (arith, stays, all p.seg, named-fewer a c.pieces p found)), λ j apart. rw k.runners (grind (arith, stays, all j, named-other a p.seg j c.pieces apart)))

  -- only the caller's pieces change, and it has these
  own-change : (cred : Cred) (ps : List Piece) → o.state.runners ≡ slice_set s.runners c.index (record { pid = c.pid; life = Live cred; pieces = ps })
      → ChangesItsOwn s pid o.state × (pieces_of_caller (caller_of o.state pid) ≡ ps)
  own-change cred ps is =
      let after : caller_of o.state pid ≡ Some (record { index = c.index; pid = c.pid; cred = cred; pieces = ps }) = rw is (caller-set pid s.runners c cred ps live) in
      (λ j. grind (arith, swap (record { pid = c.pid; life = Live cred; pieces = ps }) j, mine j, after, is), ap pieces_of_caller after)

  unmap-counts : Hands s c call o → (addr len : ℕ) → call ≡ Munmap addr len → o.reply ≡ Done
      → ChangesItsOwn s pid o.state × (occupied (pieces_of_caller (caller_of o.state pid)) addr (addr + rounded len) ≡ false)
  unmap-counts h addr len asked answer =
      let k : Unmaps s c call o = grind arith in
      let change = own-change c.cred (cut k.addr (k.addr + rounded k.len) c.pieces) k.runners in
      let free : occupied (pieces_of_caller (caller_of o.state pid)) k.addr (k.addr + rounded k.len) ≡ false = rw change.1 (occupied-cut k.addr (k.addr + rounded k.len) c.pieces) in
      (change.0, cc (free, k.asked, asked))

  protect-counts : Hands s c call o → (addr len : ℕ) (w : Bool) → call ≡ Mprotect addr len w
      → ChangesItsOwn s pid o.state × ((j : ℕ) → 1 ≤ attach_count s.runners j → 1 ≤ attach_count o.state.runners j)
  protect-counts h addr len w asked =
      let k : Protects s c call o = grind arith in
      let ps = (protects_pieces s.limits.most_pieces k.writable k.addr k.len c.pieces).pieces in (
        (own-change c.cred ps k.runners).0,
        λ j some. rw k.runners (count-named s.runners c.index (record { pid = c.pid; life = Live c.cred; pieces = ps }) (record { pid = c.pid; life = Live c.cred; pieces = c.pieces }) (caller-there s pid c live)
            (λ id had. protected-keeps s.limits.most_pieces k.writable k.addr k.len id c.pieces had) j some),
      )

  quiet-counts : Hands s c call o → (hands_pieces call ≡ false) ⊎ ((is_refusal o.reply ≡ true) × (stops_midway call ≡ false)) → (j : ℕ) → attach_count o.state.runners j ≡ attach_count s.runners j
  quiet-counts h why j = grind (arith, common_steps, swap)

-- WHAT STAT SHOWS

abbrev Shows : Machine → ℤ → ShmidDs → Type 0
Shows s id d = (n : ℕ) × (id ≡ pos n) × (d.nattch ≡ attach_count s.runners n)

stat-shows : (s : Machine) (c : Caller) (m : ℕ) (d : ShmidDs) (l : Look) → look s.table (pos m) ≡ l → (stat s c l).reply ≡ replies.Stat d → Shows s (pos m) d
stat-shows s c m d l is told = (m, refl, grind (arith, found-own s.table m))

stat-by : (s : Machine) (n : ℕ) (id : ℤ) (d : ShmidDs) (o : Option Caller) → (step_by s n (calls.Stat id) o).reply ≡ replies.Stat d → Shows s id d
stat-by s n id d o told = grind (arith, common_steps, stat-shows)

-- EACH MOVE

-- a refusal counts nothing
counts-refused : (s : Machine) (e : Event) (t : Machine) → is_refusal e.reply ≡ true → t.runners ≡ s.runners → CountsPieces s e t
counts-refused s e t refused same = grind (arith, common_steps)

pub counts-move : (s : Machine) (n : ℕ) (e : Event) (t : Machine) → Bare s.runners → IsMove s n e t → CountsPieces s e t
counts-move s n e t bare =
    by-move s n e t (λ r u. CountsPieces s (record { pid = e.pid; call = e.call; reply = r }) u)
    (λ c is.
    let o = acts s n c e.call in
    let k = hands-acts s n c e.call in
    record {
      shown = λ id d asked told. stat-by s n id d (Some c) (ap (λ (a : ProcessCall). (acts s n c a).reply) (sym asked) ∙ told);
      attached = attach-counts s e.pid c is bare e.call o k;
      forked = fork-counts s e.pid c is bare e.call o k;
      left = left-counts s e.pid c is bare e.call o k;
      detached = detach-counts s e.pid c is bare e.call o k;
      unmapped = unmap-counts s e.pid c is bare e.call o k;
      protected = protect-counts s e.pid c is bare e.call o k;
      quiet = quiet-counts s e.pid c is bare e.call o k;
    })
    (λ r no. counts-refused s _ s no refl)
