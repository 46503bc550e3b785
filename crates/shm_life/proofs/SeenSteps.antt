-- A call does the same to a machine and to that machine seen with other times and hidden bytes.
use Rattle.shm_life.proofs.Names.{◌≡◌, ℕ, ◌+◌, ◌*◌, ◌%◌, ◌^◌, ◌==◌, ℤ, pos, Bool, false, not, nat_lt, if◌then◌else◌, List, [], ◌∷◌, length, Option, Some, None, slice_get, slice_set, refl, ap, ◌∙◌, arith, Result, Ok, Err, w64, to_le_bytes, from_le_bytes, common_steps, length-replicate, Place, loaded, only_writable, places, same_bytes, stored, writable_places, within, Caller, Outcome, gives, refuses, with_end, with_pieces, ProcessCall, Look, Found, Removed, Invalid, find_key, identifier, look, lock_refusal, locks_as, unlocked, Protected, after_cut, after_split, done_or, protects, protects_pieces, rests, unmapped_to, unmaps, grants, wish_of, fork_marks, rest_is_attached, after_detach, attach_all, attached, change, detach_all, reserved, swept, cut, cut_segments, origin_of, Entry, Live, Machine, Piece, Runner, Segment, pages_of, acts, attaches_if, base_for, compare_exchange, controls, creates, creates_small, detaches, exchange, forks, gets, huge_errno, inherited, is_misplaced, is_no_owner, load, locks, locks_unless, new_segment, number_at, pieces_with, placed, placed_found, removes, segments_of, sets, shmat, shmget, stat, store, takes_away, unborn_from, unlocks, wants_creation, wants_no_other, xadd, Shmget, Shmat, Shmdt, Stat, Set, Rmid, Lock, Unlock, Load, Store, Xadd, Exchange, CompareExchange, Fork, Exec, Exit, Swapoff, Munmap, Mprotect, Setuid, Placed, Reply, Addr, Bytes, Done, Id, Number, Errno, Eacces, Eexist, Einval, Enomem, Enospc, Eperm, AtFlags, GetFlags}
use Rattle.shm_base.specs.declared.call.Reply.TheVariants as replies
use Rattle.shm_life.proofs.Seeing.{AreHidden, Match, attach-seen, change-seen, count-seen, detach-seen, find-seen, free-seen, loaded-seen, locked-seen, locked_by-seen, look-seen, made-seen, reserved-seen, seen, seen-destroyed, seen-pages, seen_table, seen_look, stored-seen, swept-seen}

-- the machine with other times, and with the bytes of some segments hidden
abbrev pub see : (ℕ → ℕ) → (ℕ → ℕ → Bool) → Machine → Machine
see time hidden s = record s { table = seen_table time hidden s.table }

-- a reply with other times
abbrev pub told : (ℕ → ℕ) → Reply → Reply
told time (replies.Stat ds) = replies.Stat (record ds { atime = time ds.atime; dtime = time ds.dtime; ctime = time ds.ctime })
told time reply = reply

abbrev pub seen_outcome : (ℕ → ℕ) → (ℕ → ℕ → Bool) → Outcome → Outcome
seen_outcome time hidden o = record { reply = told time o.reply; state = see time hidden o.state }

-- the places of a write are those of the access
writable-found : (o : Option (List Place)) (qs : List Place) → only_writable o ≡ Some qs → o ≡ Some qs
writable-found o qs found = grind arith

-- time 0, which means never, stays 0
module _ (time : ℕ → ℕ) (hidden : ℕ → ℕ → Bool) (never : time 0 ≡ 0) (s : Machine) (n : ℕ) (c : Caller) where
  abbrev T : List Entry
  T = s.table

  abbrev V : List Entry → List Entry
  V t = seen_table time hidden t

  abbrev B : Machine
  B = see time hidden s

  abbrev out : Outcome → Outcome
  out o = seen_outcome time hidden o

  -- both fail, or both continue
  both : (b d : Bool) (o p x y : Outcome) → b ≡ d → o ≡ out x → p ≡ out y → (if b then o else p) ≡ out (if d then x else y)
  both b d o p x y same h k = grind (arith, common_steps)

  -- a test that refuses, or continues
  tests : (e : Errno) (b d : Bool) (p y : Outcome) → b ≡ d → p ≡ out y → (if b then refuses B e else p) ≡ out (if d then refuses s e else y)
  tests e b d p y same k = both b d (refuses B e) p (refuses s e) y same refl k

  -- a table or another
  either : (b : Bool) (t u v w : List Entry) → t ≡ V v → u ≡ V w → (if b then t else u) ≡ V (if b then v else w)
  either b t u v w h k = grind (arith, common_steps)

  -- SHMGET

  new-seen : (key size mode : ℕ) (b : Bool) → seen time b (new_segment n c key size mode) ≡ new_segment (time n) c key size mode
  new-seen key size mode b = grind (arith, never, length-replicate {A = ℕ})

  out-small : (key size mode : ℕ) (o : Option Errno) → creates_small B (time n) c key size mode o ≡ out (creates_small s n c key size mode o)
  out-small key size mode o = grind (arith, common_steps, reserved-seen, count-seen, free-seen, arith, new-seen, seen-destroyed, made-seen)

  out-creates : (key size mode : ℕ) (flags : GetFlags) → creates B (time n) c key size mode flags ≡ out (creates s n c key size mode flags)
  out-creates key size mode flags =
      tests Einval (not (within 1 s.limits.shmmax size)) _ _ _ refl
      (tests Enospc (nat_lt s.limits.shmall (reserved (V T) + pages_of size)) _ _ _ (ap (λ r. nat_lt s.limits.shmall (r + pages_of size)) (reserved-seen time hidden T)) (out-small key size mode (huge_errno s c flags)))

  out-gets : (key size mode : ℕ) (flags : GetFlags) (b : Bool) (l : Look) → gets B (time n) c key size mode flags (seen_look time b l) ≡ out (gets s n c key size mode flags l)
  out-gets key size mode flags b (Found i x) =
      tests Eexist (wants_no_other flags) _ _ _ refl
      (tests Einval (nat_lt x.size size) _ _ _ refl
      (tests Eacces (not (grants c.cred x.perm (wish_of s.limits.rules mode))) _ _ _ refl (λ j. record { reply = Id (pos (identifier i (seen-destroyed time hidden T i j))); state = B })))
  out-gets key size mode flags b Removed = both (wants_creation flags) _ _ _ _ _ refl (out-creates key size mode flags) refl
  out-gets key size mode flags b Invalid = both (wants_creation flags) _ _ _ _ _ refl (out-creates key size mode flags) refl

  out-shmget : (key size mode : ℕ) (flags : GetFlags) → shmget B (time n) c key size mode flags ≡ out (shmget s n c key size mode flags)
  out-shmget key size mode flags =
      let f = find-seen time hidden key T in
      both (key == 0) (key == 0) _ _ _ _ refl (out-creates 0 size mode flags) (ap (gets B (time n) c key size mode flags) f.1 ∙ out-gets key size mode flags f.0 (find_key T key))

  -- A RANGE IS TAKEN OUT

  out-cut : (from to : ℕ) → after_cut B (time n) c from to ≡ V (after_cut s n c from to)
  out-cut from to =
      let lost = cut_segments from to c.pieces in
      let kept = rests s from to c.pieces in
      ap (λ t. attach_all (time n) c.pid t kept) (detach-seen time hidden n c.pid lost T) ∙ attach-seen time hidden n c.pid kept (detach_all n c.pid T lost)

  -- SHMAT

  found-seen : (flags : AtFlags) (addr : ℕ) (b : Bool) (l : Look) → placed_found B c flags addr (seen_look time b l) ≡ placed_found s c flags addr l
  found-seen flags addr b Invalid = refl
  found-seen flags addr b Removed = refl
  found-seen flags addr b (Found i x) =
      let count = seen-destroyed time hidden T i in
      let pages = seen-pages time b x in
      let base : base_for B c (seen time b x) flags addr ≡ base_for s c x flags addr = grind arith in
      grind arith

  placed-seen : (id : ℤ) (addr : ℕ) (flags : AtFlags) → placed B c id addr flags ≡ placed s c id addr flags
  placed-seen id addr flags =
      let l = look-seen time hidden T id in
      ap (λ r. if is_misplaced s addr flags then Err Einval else r) (ap (placed_found B c flags addr) l.1 ∙ found-seen flags addr l.0 (look T id))

  out-attaches : (flags : AtFlags) (r : Result Placed Errno) → attaches_if B (time n) c flags r ≡ out (attaches_if s n c flags r)
  out-attaches flags (Err e) = refl
  out-attaches flags (Ok p) = λ j. record { reply = Addr p.base; state = record s { table = table j; runners = rs } }
    where
      rs : List Runner
      rs = with_pieces s.runners c (pieces_with c flags p)

      to : ℕ
      to = p.base + 4096 * p.pages

      gone : List Entry
      gone = after_cut s n c p.base to

      table : swept rs (change (after_cut B (time n) c p.base to) p.seg (attached (time n) c.pid)) ≡ V (swept rs (change gone p.seg (attached n c.pid)))
      table =
          ap (λ t. swept rs (change t p.seg (attached (time n) c.pid))) (out-cut p.base to)
          ∙ ap (swept rs) (change-seen time hidden (attached (time n) c.pid) (attached n c.pid) (λ b x. refl) gone p.seg)
          ∙ swept-seen time hidden 0 rs (change gone p.seg (attached n c.pid))

  out-shmat : (id : ℤ) (addr : ℕ) (flags : AtFlags) → shmat B (time n) c id addr flags ≡ out (shmat s n c id addr flags)
  out-shmat id addr flags = ap (attaches_if B (time n) c flags) (placed-seen id addr flags) ∙ out-attaches flags (placed s c id addr flags)

  -- MUNMAP AND MPROTECT

  out-unmaps : (from : ℕ) (r : Result ℕ Errno) → unmaps B (time n) c from r ≡ out (unmaps s n c from r)
  out-unmaps from (Err e) = refl
  out-unmaps from (Ok to) =
      let rs = with_pieces s.runners c (cut from to c.pieces) in
      let table : swept rs (after_cut B (time n) c from to) ≡ V (swept rs (after_cut s n c from to)) = ap (swept rs) (out-cut from to) ∙ swept-seen time hidden 0 rs (after_cut s n c from to) in
      tests Enomem (nat_lt s.limits.most_pieces (length (cut from to c.pieces))) _ _ _ refl (λ j. record { reply = Done; state = record s { table = table j; runners = rs } })

  done-told : (o : Option Errno) → done_or o ≡ told time (done_or o)
  done-told o = grind arith

  out-protects : (x : Protected) → protects B (time n) c x ≡ out (protects s n c x)
  out-protects x =
      let table : after_split B (time n) c x.split ≡ V (after_split s n c x.split) = either (rest_is_attached s.limits.rules) _ _ _ _ (attach-seen time hidden n c.pid x.split T) refl in
      λ j. record { reply = done-told x.refusal j; state = record s { table = table j; runners = with_pieces s.runners c x.pieces } }

  -- DETACHING, FORK AND CONTROL

  out-after : (rs : List Runner) (lost : List ℕ) → gives (after_detach B (time n) c.pid rs lost) Done ≡ out (gives (after_detach s n c.pid rs lost) Done)
  out-after rs lost =
      ap (λ (t : List Entry). gives (record s { table = t; runners = rs }) Done) (ap (swept rs) (detach-seen time hidden n c.pid lost T) ∙ swept-seen time hidden 0 rs (detach_all n c.pid T lost))

  out-detaches : (addr : ℕ) (o : Option Piece) → detaches B (time n) c addr o ≡ out (detaches s n c addr o)
  out-detaches addr None = refl
  out-detaches addr (Some p) = out-after _ (p.seg ∷ [])

  out-forks : (child : ℕ) (o : Option ℕ) → forks B (time n) c child o ≡ out (forks s n c child o)
  out-forks child None = refl
  out-forks child (Some i) =
      let table : inherited B (time n) c ≡ V (inherited s n c) = either (fork_marks s.limits.rules) _ _ _ _ (attach-seen time hidden n c.pid (segments_of c) T) refl in
      λ j. record { reply = Done; state = record s { table = table j; runners = slice_set s.runners i (record { pid = child; life = Live c.cred; pieces = c.pieces }) } }

  out-stat : (b : Bool) (l : Look) → stat B c (seen_look time b l) ≡ out (stat s c l)
  out-stat b l = grind (arith, common_steps, seen-destroyed time hidden T)

  out-changed : (i : ℕ) (f g : Segment → Segment) → Match time f g → gives (record B { table = change (V T) i f }) Done ≡ out (gives (record s { table = change T i g }) Done)
  out-changed i f g same = λ j. record { reply = Done; state = record s { table = change-seen time hidden f g same T i j } }

  out-controls : (f g : ℕ → Segment → Outcome) → ((b : Bool) (i : ℕ) (x : Segment) → f i (seen time b x) ≡ out (g i x)) → (b : Bool) (l : Look) → controls B c f (seen_look time b l) ≡ out (controls s c g l)
  out-controls f g acts b l = grind (arith, acts)

  out-look : (f g : ℕ → Segment → Outcome) → ((b : Bool) (i : ℕ) (x : Segment) → f i (seen time b x) ≡ out (g i x)) → (id : ℤ) → controls B c f (look (V T) id) ≡ out (controls s c g (look T id))
  out-look f g acts id = let l = look-seen time hidden T id in ap (controls B c f) l.1 ∙ out-controls f g acts l.0 (look T id)

  out-removes : (b : Bool) (i : ℕ) (x : Segment) → removes B i (seen time b x) ≡ out (removes s i x)
  out-removes b i x = grind (arith, common_steps, change-seen, refl, swept-seen, arith)

  locks-seen : (uid : ℕ) → Match time (locks_as uid) (locks_as uid)
  locks-seen uid b x = grind (arith, common_steps)

  refusal-seen : (b : Bool) (x : Segment) → lock_refusal s.limits c.cred (V T) (seen time b x) ≡ lock_refusal s.limits c.cred T x
  refusal-seen b x = grind (arith, common_steps, locked-seen, locked_by-seen, seen-pages)

  out-locked : (i : ℕ) (o : Option Errno) → locks_unless B c i o ≡ out (locks_unless s c i o)
  out-locked i (Some e) = refl
  out-locked i None = out-changed i (locks_as c.cred.uid) (locks_as c.cred.uid) (locks-seen c.cred.uid)

  out-locks : (b : Bool) (i : ℕ) (x : Segment) → locks B c i (seen time b x) ≡ out (locks s c i x)
  out-locks b i x = ap (locks_unless B c i) (refusal-seen b x) ∙ out-locked i (lock_refusal s.limits c.cred T x)

  out-sets : (uid gid mode : ℕ) (b : Bool) (i : ℕ) (x : Segment) → sets B (time n) uid gid mode i (seen time b x) ≡ out (sets s n uid gid mode i x)
  out-sets uid gid mode b i x = tests Einval (is_no_owner s uid gid) _ _ _ refl (out-changed i _ _ (λ b x. refl))

  -- ACCESSES

  -- the access reaches no hidden byte
  abbrev IsClear : Option (List Place) → Type 0
  IsClear o = (qs : List Place) → o ≡ Some qs → AreHidden hidden false T qs

  out-load : (o : Option (List Place)) → IsClear o → load B o ≡ out (load s o)
  out-load None clear = refl
  out-load (Some qs) clear = ap (λ bytes. gives B (Bytes bytes)) (loaded-seen time hidden T qs (clear qs refl))

  out-stores : (qs : List Place) (bytes : List ℕ) (r : Reply) → AreHidden hidden false T qs → r ≡ told time r
      → gives (record B { table = stored (V T) qs bytes }) r ≡ out (gives (record s { table = stored T qs bytes }) r)
  out-stores qs bytes r clear same = λ j. record { reply = same j; state = record s { table = stored-seen time hidden T qs bytes clear j } }

  out-store : (bytes : List ℕ) (o : Option (List Place)) → IsClear o → store B bytes o ≡ out (store s bytes o)
  out-store bytes None clear = refl
  out-store bytes (Some qs) clear = out-stores qs bytes Done (clear qs refl) refl

  out-xadd : (add : ℕ) (o : Option (List Place)) → IsClear o → xadd B add o ≡ out (xadd s add o)
  out-xadd add None clear = refl
  out-xadd add (Some qs) clear =
      let old : number_at B qs ≡ number_at s qs = ap (from_le_bytes w64) (loaded-seen time hidden T qs (clear qs refl)) in
      ap (λ m. gives (record B { table = stored (V T) qs (to_le_bytes w64 ((m + add) % 2 ^ 64)) }) (Number m)) old
      ∙ out-stores qs (to_le_bytes w64 ((number_at s qs + add) % 2 ^ 64)) (Number (number_at s qs)) (clear qs refl) refl

  out-exchange : (bytes : List ℕ) (o : Option (List Place)) → IsClear o → exchange B bytes o ≡ out (exchange s bytes o)
  out-exchange bytes None clear = refl
  out-exchange bytes (Some qs) clear =
      ap (λ old. gives (record B { table = stored (V T) qs bytes }) (Bytes old)) (loaded-seen time hidden T qs (clear qs refl))
      ∙ out-stores qs bytes (Bytes (loaded T qs)) (clear qs refl) refl

  out-compare : (expected desired : List ℕ) (o : Option (List Place)) → IsClear o → compare_exchange B expected desired o ≡ out (compare_exchange s expected desired o)
  out-compare expected desired None clear = refl
  out-compare expected desired (Some qs) clear =
      ap (λ old. if same_bytes old expected then gives (record B { table = stored (V T) qs desired }) (Bytes old) else gives B (Bytes old)) (loaded-seen time hidden T qs (clear qs refl))
      ∙ both (same_bytes (loaded T qs) expected) (same_bytes (loaded T qs) expected) _ _ _ _ refl (out-stores qs desired (Bytes (loaded T qs)) (clear qs refl) refl) refl

  out-takes : (area : ℕ) (o : Option (Option ℕ)) → takes_away B area o ≡ out (takes_away s area o)
  out-takes area o = let same = reserved-seen time hidden T in grind arith

  module _ (clear : (a len : ℕ) → IsClear (places c.pieces a len)) where
    clear-write : (a len : ℕ) → IsClear (writable_places c.pieces a len)
    clear-write a len qs is = clear a len qs (writable-found (places c.pieces a len) qs is)

    -- at the other time, the reply differs only in times, and the machine that is left is seen
    pub acts-seen : (call : ProcessCall) → acts B (time n) c call ≡ out (acts s n c call)
    acts-seen (Shmget key size mode flags) = out-shmget key size mode flags
    acts-seen (Shmat id addr flags) = out-shmat id addr flags
    acts-seen (Shmdt addr) = out-detaches addr (origin_of addr c.pieces)
    acts-seen (Stat id) = let l = look-seen time hidden T id in ap (stat B c) l.1 ∙ out-stat l.0 (look T id)
    acts-seen (Set id uid gid mode) = out-look (sets B (time n) uid gid mode) (sets s n uid gid mode) (out-sets uid gid mode) id
    acts-seen (Rmid id) = out-look (removes B) (removes s) out-removes id
    acts-seen (Lock id) = out-look (locks B c) (locks s c) out-locks id
    acts-seen (Unlock id) = out-look (unlocks B) (unlocks s) (λ b i x. out-changed i unlocked unlocked (λ b x. refl)) id
    acts-seen (Load a len) = out-load (places c.pieces a len) (clear a len)
    acts-seen (Store bytes a) = out-store bytes (writable_places c.pieces a (length bytes)) (clear-write a (length bytes))
    acts-seen (Xadd a add) = out-xadd add (writable_places c.pieces a 8) (clear-write a 8)
    acts-seen (Exchange bytes a) = out-exchange bytes (writable_places c.pieces a (length bytes)) (clear-write a (length bytes))
    acts-seen (CompareExchange expected desired a) = out-compare expected desired (writable_places c.pieces a (length desired)) (clear-write a (length desired))
    acts-seen (Fork child) = out-forks child (unborn_from 0 child s.runners)
    acts-seen Exec = out-after (with_pieces s.runners c []) (segments_of c)
    acts-seen Exit = out-after (with_end s.runners c) (segments_of c)
    acts-seen (Munmap addr len) = out-unmaps addr (unmapped_to addr len)
    acts-seen (Mprotect addr len w) = out-protects (protects_pieces s.limits.most_pieces w addr len c.pieces)
    acts-seen (Setuid uid gid) = refl
    acts-seen (Swapoff area) = tests Eperm (not (c.cred.uid == 0)) _ _ _ refl (out-takes area (slice_get s.areas area))
