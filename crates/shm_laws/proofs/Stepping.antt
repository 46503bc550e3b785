-- The four kinds of step on the segments: still, a sweep after a detach, a creation, a removal.
use Rattle.shm_laws.proofs.Names.{pieces_of, Cred, Mprotect, Munmap, Setuid, cut, mprotect, protects_pieces, rest_is_attached, unmapped_to, unmaps, with_cred, ◌≡◌, ◌⊎◌, ℕ, ◌+◌, ◌*◌, ◌%◌, ◌≤◌, ◌==◌, ℤ, pos, negsuc, Bool, false, not, nat_lt, List, [], ◌∷◌, length, replicate, get_or, Option, Some, None, slice_get, slice_set, refl, sym, ap, subst, ◌∙◌, inl, inr, arith, common_steps, get-set_other, slice_get-get_or, GetFlags, AtFlags, ProcessCall, Shmget, Shmat, Shmdt, Stat, Set, Rmid, Lock, Unlock, Fork, Exec, Exit, Swapoff, Reply, Id, Done, Addr, Event, owns, Place, places, stored, Segment, Entry, Piece, Unborn, Live, Ended, Runner, Machine, pages_of, Look, Found, Removed, Invalid, identifier, destroyed_at, free_index, with_segment, look, cut_segments, origin_of, attach_count, change, attached, marked, detach_all, swept, Outcome, gives, segments_of, Caller, caller_of, acts, new_segment, shmget, pieces_with, with_pieces, detaches, forks, unborn_from, stat, controls, sets, removes, locks, unlocks, takes_away, swapoff, first_runner, child_at, life_in, IsSame, Put, put, pieces_of_caller, Errno, rests, attach_all, inherited, fork_marks, locks_as, unlocked, is_no_owner, attaches_if, Placed, placed, lock_refusal, locks_unless, Reach, reach, Result, Ok, Err, cond_both, IsFree, by-shmget, pick, count-named, protected-keeps}
use Rattle.shm_laws.proofs.Accessing.{Changes, accesses}
use Rattle.shm_laws.proofs.Turning.{IsAlike, Turned, unchanged, puts_in, turned-refl, turned-trans, turned-change, turned-attach, turned-detach, turned-stored, set-got}
use Rattle.shm_laws.proofs.Looks.{entry-found}

-- PROCESSES THAT ARE NOT BORN HAVE NO PIECES

abbrev pub Bare : List Runner → Type 0
Bare rs = (k : ℕ) (r : Runner) → slice_get rs k ≡ Some r → r.life ≡ Unborn → r.pieces ≡ []

pub bare-set : (rs : List Runner) (i : ℕ) (x : Runner) → Bare rs → (x.life ≡ Unborn → ⊥) → Bare (slice_set rs i x)
bare-set rs i x h born k r is u = grind (arith, common_steps, inl, ap, set-got, inr, sym, get-set_other)

-- a child that may be born
pub unborn-bare : (child i : ℕ) (rs : List Runner) → unborn_from 0 child rs ≡ Some i → Bare rs → (old : Runner) × (slice_get rs i ≡ Some old) × (old.pieces ≡ [])
unborn-bare child i rs found bare =
    let k = child_at child i rs found in
    let there = slice_get-get_or rs i first_runner k.within in
    (get_or rs i first_runner, there, bare i (get_or rs i first_runner) there (sym (ap life_in there) ∙ k.unborn))

-- THE KINDS

-- no segment is made or destroyed, and none loses its last piece; the bytes at each index become these
pub record StillTo (over : ℕ → List ℕ → List ℕ) (s t : Machine) : Type 0 where
  pub turned : (i : ℕ) → Turned (over i) s.table t.table i
  pub kept : (id : ℕ) → 1 ≤ attach_count s.runners id → 1 ≤ attach_count t.runners id
  pub bare : Bare s.runners → Bare t.runners

pub record SweepTo (s t : Machine) : Type 0 where
  pub middle : List Entry
  pub turned : (i : ℕ) → Turned unchanged s.table middle i
  pub table : t.table ≡ swept t.runners middle
  pub bare : Bare s.runners → Bare t.runners

pub record MakeTo (like : Segment → Type 0) (s : Machine) (reply : Reply) (t : Machine) : Type 0 where
  pub index : ℕ
  pub segment : Segment
  pub free : free_index s.table ≡ Some index
  pub answer : reply ≡ Id (pos (identifier index (destroyed_at s.table index)))
  pub fresh : segment.dest ≡ false
  pub zeros : (n : ℕ) × (segment.bytes ≡ replicate n 0)
  pub made : like segment
  pub table : t.table ≡ with_segment s.table index segment
  pub runners : t.runners ≡ s.runners

pub record RemoveTo (s t : Machine) (id : ℕ) : Type 0 where
  pub segment : Segment
  pub found : look s.table (pos id) ≡ Found (id % 32768) segment
  pub table : t.table ≡ swept s.runners (change s.table (id % 32768) marked)
  pub runners : t.runners ≡ s.runners

-- which segment a call removed
abbrev pub name_of : ℤ → Option ℕ
name_of (pos n) = Some n
name_of (negsuc n) = None

abbrev pub removed_by : Reply → ℤ → Option ℕ
removed_by Done id = name_of id
removed_by _ id = None

abbrev pub removed : ProcessCall → Reply → Option ℕ
removed (Rmid id) reply = removed_by reply id
removed _ reply = None

pub record RemovesBy (s : Machine) (r : Option ℕ) (t : Machine) : Type 0 where
  pub id : ℕ
  pub named : r ≡ Some id
  pub removes : RemoveTo s t id

-- no byte is put
abbrev pub idle : ℕ → List ℕ → List ℕ
idle i bytes = bytes

abbrev pub IsIdle : (ℕ → List ℕ → List ℕ) → Type 0
IsIdle over = (i : ℕ) (bytes : List ℕ) → over i bytes ≡ bytes

-- so the bytes change, and so does a segment that is made
abbrev pub Kind : (ℕ → List ℕ → List ℕ) → (Segment → Type 0) → Machine → Option ℕ → Reply → Machine → Type 0
Kind over like s r reply t = ((r ≡ None) × (StillTo over s t ⊎ (IsIdle over × (SweepTo s t ⊎ MakeTo like s reply t)))) ⊎ (IsIdle over × RemovesBy s r t)

-- what becomes of the bytes at each index, where these are put from an address on
abbrev over_places : Option (List Place) → List ℕ → ℕ → List ℕ → List ℕ
over_places None vs i bytes = bytes
over_places (Some qs) vs i bytes = puts_in i qs vs bytes

abbrev pub over_put : List Piece → Option Put → ℕ → List ℕ → List ℕ
over_put ps None i bytes = bytes
over_put ps (Some p) i bytes = over_places (places ps p.from (length p.bytes)) p.bytes i bytes

abbrev pub overlay : Machine → Event → ℕ → List ℕ → List ℕ
overlay s e = over_put (pieces_of_caller (caller_of s e.pid)) (put e.call e.reply)

-- the segment that a call makes: with the key of the call, which no segment had, and the bytes of its pages
pub record MadeBy (t : List Entry) (c : Caller) (call : ProcessCall) (y : Segment) : Type 0 where
  pub mode : ℕ
  pub flags : GetFlags
  pub asked : call ≡ Shmget y.key y.size mode flags
  pub free : (y.key ≡ 0) ⊎ IsFree t y.key
  pub some : 1 ≤ y.size
  pub pages : length y.bytes ≡ 4096 * pages_of y.size
  pub process : y.cpid ≡ c.pid
  pub user : y.perm.cuid ≡ c.cred.uid
  pub group : y.perm.cgid ≡ c.cred.gid

abbrev pub made_by : List Entry → Option Caller → ProcessCall → Segment → Type 0
made_by t None call y = ⊥
made_by t (Some c) call y = MadeBy t c call y

-- what a move is
abbrev pub Moved : Machine → Event → Machine → Type 0
Moved s e t = Kind (overlay s e) (made_by s.table (caller_of s e.pid) e.call) s (removed e.call e.reply) e.reply t

-- WHERE NO SEGMENT IS REMOVED

pub still : (like : Segment → Type 0) (s : Machine) (reply : Reply) → Kind idle like s None reply s
still like s reply = inl (refl, inl (record { turned = turned-refl s.table; kept = λ id some. some; bare = λ h. h }))

quiet : (over : ℕ → List ℕ → List ℕ) (like : Segment → Type 0) (s : Machine) (reply : Reply) (t : Machine) → ((i : ℕ) → Turned (over i) s.table t.table i) → t.runners ≡ s.runners → Kind over like s None reply t
quiet over like s reply t turned same =
    inl (refl, inl (record { turned = turned; kept = λ id some. rw same some; bare = λ h. rw same h }))

sweeps : (like : Segment → Type 0) (s : Machine) (reply : Reply) (t : Machine) (middle : List Entry) → ((i : ℕ) → Turned unchanged s.table middle i) → t.table ≡ swept t.runners middle
    → (Bare s.runners → Bare t.runners) → Kind idle like s None reply t
sweeps like s reply t middle turned table bare = inl (refl, inr (λ i bytes. refl, inl (record { middle = middle; turned = turned; table = table; bare = bare })))

locked-head : (uid : ℕ) (y : Segment) → IsSame y (locks_as uid y)
locked-head uid y = grind (arith, common_steps)

locked-alike : (uid : ℕ) (y : Segment) → IsAlike y (locks_as uid y)
locked-alike uid y = grind (arith, common_steps)

locked-bytes : (uid : ℕ) (y : Segment) → (locks_as uid y).bytes ≡ y.bytes
locked-bytes uid y = grind (arith, common_steps)

same_head : (x y : Segment) → y.size ≡ x.size → y.cpid ≡ x.cpid → y.perm.cuid ≡ x.perm.cuid → y.perm.cgid ≡ x.perm.cgid → IsSame x y
same_head x y a b c d = record { size = a; cpid = b; cuid = c; cgid = d }

living : (c : Caller) (ps : List Piece) (rs : List Runner) → Bare rs → Bare (with_pieces rs c ps)
living c ps rs h = bare-set rs c.index (record { pid = c.pid; life = Live c.cred; pieces = ps }) h (λ (e : Live c.cred ≡ Unborn). cc e)

module _ (like : Segment → Type 0) (s : Machine) (n : ℕ) (c : Caller) where
  abbrev Plain : Machine → Outcome → Type 0
  Plain u o = Kind idle like u None o.reply o.state

  kind-made : (key size mode i : ℕ) → free_index s.table ≡ Some i → like (new_segment n c key size mode)
      → Plain s (gives (record s { table = with_segment s.table i (new_segment n c key size mode) }) (Id (pos (identifier i (destroyed_at s.table i)))))
  kind-made key size mode i is made = grind (arith, common_steps)

  -- what is asked for has a size
  abbrev Likes : ℕ → ℕ → ℕ → Type 0
  Likes key size mode = 1 ≤ size → like (new_segment n c key size mode)

  kind-shmget : (key size mode : ℕ) (flags : GetFlags) → ((key ≡ 0) ⊎ IsFree s.table key → Likes key size mode) → Plain s (shmget s n c key size mode flags)
  kind-shmget key size mode flags made =
      by-shmget s n c size mode (λ k o. ((k ≡ 0) ⊎ IsFree s.table k → Likes k size mode) → Plain s o)
      (λ k e other likes. still like s _) (λ k i x named found permitted likes. still like s _)
      (λ k i free some is likes. kind-made k size mode i is (likes free some)) key flags made

  kind-attaches : (flags : AtFlags) (r : Result Placed Errno) → Plain s (attaches_if s n c flags r)
  kind-attaches flags (Err e) = still like s _
  kind-attaches flags (Ok p) =
      let to : ℕ = p.base + 4096 * p.pages in
      let lost : List ℕ = cut_segments p.base to c.pieces in
      let gone : List Entry = detach_all n c.pid s.table lost in
      let kept : List ℕ = rests s p.base to c.pieces in
      let old : List Entry = attach_all n c.pid gone kept in
      let rs : List Runner = with_pieces s.runners c (pieces_with c flags p) in
      let after : Machine = record s { table = swept rs (change old p.seg (attached n c.pid)); runners = rs } in
      sweeps like s (Addr p.base) after (change old p.seg (attached n c.pid))
      (λ i. turned-trans unchanged unchanged s.table old (change old p.seg (attached n c.pid)) i (turned-trans unchanged unchanged s.table gone old i (turned-detach n c.pid lost s.table i) (turned-attach n c.pid kept gone i)) (turned-change (attached n c.pid) (λ y. same_head y (attached n c.pid y) refl refl refl refl) (λ y. record { key = refl; dest = refl }) (λ y. refl) old p.seg i))
      refl (living c (pieces_with c flags p) s.runners)

  kind-detaches : (addr : ℕ) (o : Option Piece) → Plain s (detaches s n c addr o)
  kind-detaches addr None = still like s _
  kind-detaches addr (Some p) = sweeps like s _ _ _ (turned-detach n c.pid (p.seg ∷ []) s.table) refl (living c _ s.runners)

  -- one process changes, and keeps a piece of each segment
  one-set : (reply : Reply) (table : List Entry) (i : ℕ) (old new : Runner) → slice_get s.runners i ≡ Some old → ((id : ℕ) → 1 ≤ pieces_of id old.pieces → 1 ≤ pieces_of id new.pieces) → (new.life ≡ Unborn → ⊥)
      → ((j : ℕ) → Turned unchanged s.table table j) → Kind idle like s None reply (record s { table = table; runners = slice_set s.runners i new })
  one-set reply table i old new there keeps born turned =
      inl (refl, inl (record { turned = turned; kept = count-named s.runners i new old there keeps; bare = λ h. bare-set s.runners i new h born }))

  turned-inherited : (i : ℕ) → Turned unchanged s.table (inherited s n c) i
  turned-inherited i = cond_both (fork_marks s.limits.rules) _ _ (λ t. Turned unchanged s.table t i) (λ h. turned-attach n c.pid (segments_of c) s.table i) (λ h. turned-refl s.table i)

  kind-forks : (child : ℕ) (o : Option ℕ) → Bare s.runners → unborn_from 0 child s.runners ≡ o → Plain s (forks s n c child o)
  kind-forks child None bare is = still like s _
  kind-forks child (Some i) bare is =
      let old = unborn-bare child i s.runners is bare in
      one-set _ _ i old.0 (record { pid = child; life = Live c.cred; pieces = c.pieces }) old.1 (λ j some. absurd (let none = ap (pieces_of j) old.2 in omega (arith, none, some)))
      (λ (e : Live c.cred ≡ Unborn). cc e) turned-inherited

  kind-stat : (l : Look) → Plain s (stat s c l)
  kind-stat l = grind (arith, common_steps, still, pick)

  kind-controls : (act : ℕ → Segment → Outcome) → ((i : ℕ) (x : Segment) → Plain s (act i x)) → (l : Look) → Plain s (controls s c act l)
  kind-controls act acts Invalid = still like s _
  kind-controls act acts Removed = still like s _
  kind-controls act acts (Found i x) = pick (Plain s) (not (owns c.cred x.perm)) _ _ (still like s _) (acts i x)

  kind-sets : (uid gid mode i : ℕ) (x : Segment) → Plain s (sets s n uid gid mode i x)
  kind-sets uid gid mode i x =
      pick (Plain s) (is_no_owner s uid gid) _ _ (still like s _)
      (quiet idle like s _ _ (turned-change (λ (y : Segment). record y { perm = record y.perm { uid = uid; gid = gid; mode = mode % 512 }; ctime = n }) (λ y. same_head y _ refl refl refl refl) (λ y. record { key = refl; dest = refl }) (λ y. refl) s.table i) refl)

  kind-locks : (i : ℕ) (o : Option Errno) → Plain s (locks_unless s c i o)
  kind-locks i (Some e) = still like s _
  kind-locks i None =
      quiet idle like s _ _ (turned-change (locks_as c.cred.uid) (λ y. locked-head c.cred.uid y) (λ y. locked-alike c.cred.uid y) (λ y. locked-bytes c.cred.uid y) s.table i) refl

  kind-unlocks : (i : ℕ) (x : Segment) → Plain s (unlocks s i x)
  kind-unlocks i x = quiet idle like s _ _ (turned-change unlocked (λ y. same_head y _ refl refl refl refl) (λ y. record { key = refl; dest = refl }) (λ y. refl) s.table i) refl

  abbrev Puts : ProcessCall → Outcome → Type 0
  Puts call o = Kind (over_put c.pieces (put call o.reply)) like s None o.reply o.state

  kind-access : (call : ProcessCall) (r : Reach) → reach call ≡ Some r → Puts call (acts s n c call)
  kind-access call r is = by (accesses s n c call r is).changes
    where
      o : Outcome
      o = acts s n c call

      by : Changes s c (put call o.reply) o.state → Puts call o
      by (inl k) = rw (k.0, k.1) (still like s _)
      by (inr k) =
          rw (k.puts, k.state)
          (quiet _ like s _ _ (λ i. subst (λ o. Turned (over_places o k.what.bytes i) s.table (stored s.table k.spots k.what.bytes) i) (sym k.found) (turned-stored k.spots k.what.bytes s.table i)) refl)

  kind-takes : (area : ℕ) (o : Option (Option ℕ)) → Plain s (takes_away s area o)
  kind-takes area o = grind (arith, common_steps, still, pick, quiet, turned-refl)

  kind-swapoff : (area : ℕ) → Plain s (swapoff s c area)
  kind-swapoff area = pick (Plain s) (not (c.cred.uid == 0)) _ _ (still like s _) (kind-takes area (slice_get s.areas area))

  kind-unmaps : (addr : ℕ) (r : Result ℕ Errno) → Plain s (unmaps s n c addr r)
  kind-unmaps addr (Err e) = still like s _
  kind-unmaps addr (Ok to) =
      let lost : List ℕ = cut_segments addr to c.pieces in
      let gone : List Entry = detach_all n c.pid s.table lost in
      let kept : List ℕ = rests s addr to c.pieces in
      let middle : List Entry = attach_all n c.pid gone kept in
      let rs : List Runner = with_pieces s.runners c (cut addr to c.pieces) in
      pick (Plain s) (nat_lt s.limits.most_pieces (length (cut addr to c.pieces))) _ _ (still like s _)
      (sweeps like s Done (record s { table = swept rs middle; runners = rs }) middle
      (λ i. turned-trans unchanged unchanged s.table gone middle i (turned-detach n c.pid lost s.table i) (turned-attach n c.pid kept gone i))
      refl (living c (cut addr to c.pieces) s.runners))

  abbrev There : Type 0
  There = slice_get s.runners c.index ≡ Some (record { pid = c.pid; life = Live c.cred; pieces = c.pieces })

  kind-protects : There → (w : Bool) (addr len : ℕ) → Plain s (mprotect s n c addr len w)
  kind-protects there w addr len =
      let x = protects_pieces s.limits.most_pieces w addr len c.pieces in
      one-set _ _ c.index _ (record { pid = c.pid; life = Live c.cred; pieces = x.pieces }) there (λ id some. protected-keeps s.limits.most_pieces w addr len id c.pieces some) (λ (e : Live c.cred ≡ Unborn). cc e)
      (λ i. cond_both (rest_is_attached s.limits.rules) _ _ (λ t. Turned unchanged s.table t i) (λ h. turned-attach n c.pid x.split s.table i) (λ h. turned-refl s.table i))

  kind-setuid : There → (cred : Cred) → Plain s (gives (record s { runners = with_cred s.runners c cred }) Done)
  kind-setuid there cred =
      one-set _ _ c.index _ (record { pid = c.pid; life = Live cred; pieces = c.pieces }) there (λ id some. some) (λ (e : Live cred ≡ Unborn). cc e) (turned-refl s.table)

  -- a removal
  kind-rmid : (id : ℕ) (l : Look) → look s.table (pos id) ≡ l → let o = controls s c (removes s) l in Kind idle like s (removed_by o.reply (pos id)) o.reply o.state
  kind-rmid id l is = grind (arith, common_steps, still, entry-found, pick)

  -- each call
  pub kind-acts : There → (call : ProcessCall) → Bare s.runners → ((key size mode : ℕ) (flags : GetFlags) → call ≡ Shmget key size mode flags → (key ≡ 0) ⊎ IsFree s.table key → Likes key size mode)
      → let o = acts s n c call in Kind (over_put c.pieces (put call o.reply)) like s (removed call o.reply) o.reply o.state
  kind-acts there (Shmget key size mode flags) bare made = kind-shmget key size mode flags (made key size mode flags refl)
  kind-acts there (Shmat id addr flags) bare made = kind-attaches flags (placed s c id addr flags)
  kind-acts there (Shmdt addr) bare made = kind-detaches addr (origin_of addr c.pieces)
  kind-acts there (Stat id) bare made = kind-stat (look s.table id)
  kind-acts there (Set id uid gid mode) bare made = kind-controls (sets s n uid gid mode) (kind-sets uid gid mode) (look s.table id)
  kind-acts there (Rmid (pos id)) bare made = kind-rmid id (look s.table (pos id)) refl
  kind-acts there (Rmid (negsuc id)) bare made = still like s _
  kind-acts there (Lock id) bare made = kind-controls (locks s c) (λ i x. kind-locks i (lock_refusal s.limits c.cred s.table x)) (look s.table id)
  kind-acts there (Unlock id) bare made = kind-controls (unlocks s) kind-unlocks (look s.table id)
  kind-acts there (Fork child) bare made = kind-forks child (unborn_from 0 child s.runners) bare refl
  kind-acts there Exec bare made = sweeps like s _ _ _ (turned-detach n c.pid (segments_of c) s.table) refl (living c [] s.runners)
  kind-acts there Exit bare made = sweeps like s _ _ _ (turned-detach n c.pid (segments_of c) s.table) refl (λ h. bare-set s.runners c.index (record { pid = c.pid; life = Ended; pieces = [] }) h (λ (e : Ended ≡ Unborn). cc e))
  kind-acts there (Swapoff area) bare made = kind-swapoff area
  kind-acts there (Munmap addr len) bare made = kind-unmaps addr (unmapped_to addr len)
  kind-acts there (Mprotect addr len w) bare made = kind-protects there w addr len
  kind-acts there (Setuid uid gid) bare made = kind-setuid there (record { uid = uid; gid = gid })
  kind-acts there call bare made = kind-access call _ refl
