-- Each piece descends from a shmat that had permission, and each move refuses processes without it.
use Rattle.std.proofs.lemmas.Bool.Decides.{nat_tests}
use Rattle.shm_laws.proofs.Names.{IsProtected, Protected, ShareTheirPages, protects_pieces, rounded, ◌≤◌, ◌≡◌, ◌⊎◌, ℕ, ◌+◌, ◌*◌, ◌%◌, ◌<◌, ℤ, true, false, not, List, [], ◌∷◌, ◌++◌, length, get_or, Some, slice_set, refl, sym, ap, subst, ◌∙◌, inl, inr, arith, true≢false, All, Contains, none-some, slice_get_within, get_or_from_slice_get, All-nil, All-filter, All-map, All-weaker, All-contains, Contains-get_or, common_steps, ProcessCall, Done, Event, Place, covers, Segment, Piece, Live, Runner, Machine, Opening, start_of, runner_at_start, look, parts, cut, Caller, Outcome, caller_of, acts, pieces_with, controls, is_refusal, IsMove, IsHistory, all-slice_set, HasPiece, EachPiece, IsPart, IsGranted, IsInherited, GoesBack, Granted, Kept, Inherited, Reach, StaysInside, controlled, OwnerAsks, KeepsOut, MayAsk, ShmidDs, pos, negsuc, stat, wish_of, grants, not-false, Look, Found, Removed, Invalid, Stands, Swapoff, swapoff, IsUserZero, ◌==◌, Set, Rmid, Lock, Unlock, sets, removes, locks, unlocks, piece_for, CallerAt, caller-at, all-flat_map, all-inserted, protected-comes, Comes, IsAligned, pick_by, is-zero}
use Rattle.shm_laws.proofs.Accessing.{lies-in, place-of, writable-at, Finds, accesses}
use Rattle.shm_laws.proofs.Handing.{Attaches, Protects, Hands, by-hands, hands-acts}
use Rattle.shm_laws.proofs.Parting.{part_refl, all-parts, shares}
use Rattle.shm_laws.proofs.Looks.{found-own}
use Rattle.shm_laws.proofs.Refusing.{by-move}
use Rattle.shm_laws.proofs.Fates.{IsMachineSound}
use Rattle.shm_laws.proofs.Getting.{GetsBy, gets-move}
use Rattle.shm_base.specs.declared.call.Call.TheVariants as calls
use Rattle.shm_base.specs.declared.call.Reply.TheVariants as replies

-- WHERE A PIECE COMES FROM IN A MOVE

pub each-has : (law : ℕ → Piece → Type 0) (s : Machine) (pid : ℕ) (p : Piece) → EachPiece law s → HasPiece s pid p → law pid p
each-has law s pid p each h = grind (arith, common_steps)

pub has-own : (s : Machine) (r : Runner) → Contains s.runners r → All (HasPiece s r.pid) r.pieces
has-own s r is = λ k d lt. record { process = r; is = is; named = refl; has = Contains-get_or r.pieces k d lt }

abbrev pub IsPieceKept : Machine → ℕ → Piece → Type 0
IsPieceKept s pid p = (q : Piece) × HasPiece s pid q × IsPart p q

-- and no page of it lies beyond those of a piece that the process had
pub record IsPieceProtected (s : Machine) (e : Event) (pid : ℕ) (p : Piece) : Type 0 where
  pub of : Piece
  pub has : HasPiece s pid of
  pub protected : IsProtected s e pid p of
  pub reach : (r : Piece) × HasPiece s pid r × ShareTheirPages p r × (p.first_page + p.pages ≤ r.first_page + r.pages)

abbrev pub IsPieceGiven : Machine → Event → ℕ → Piece → Type 0
IsPieceGiven s e pid p = IsPieceKept s pid p ⊎ (IsInherited s e pid p ⊎ (IsGranted s e pid p ⊎ IsPieceProtected s e pid p))

abbrev AllGiven : Machine → Event → List Runner → Type 0
AllGiven s e rs = All (λ (r : Runner). All (IsPieceGiven s e r.pid) r.pieces) rs

abbrev pub Aligned : Machine → Type 0
Aligned s = EachPiece (λ pid p. IsAligned p) s

kept-all : (s : Machine) (e : Event) → AllGiven s e s.runners
kept-all s e = λ k d lt.
    let r = get_or s.runners k d in
    All-weaker (HasPiece s r.pid) (IsPieceGiven s e r.pid) (λ p h. inl (p, h, part_refl p)) r.pieces (has-own s r (Contains-get_or s.runners k d lt))

module _ (s : Machine) (pid : ℕ) (c : Caller) (is : caller_of s pid ≡ Some c) where
  abbrev me : Runner
  me = record { pid = pid; life = Live c.cred; pieces = c.pieces }

  there : CallerAt pid s.runners c
  there = caller-at pid s.runners c is

  pub me-is : Contains s.runners me
  me-is = (c.index, slice_get_within s.runners c.index me there.there, get_or_from_slice_get s.runners c.index me me there.there)

  pub mine : All (HasPiece s pid) c.pieces
  mine = has-own s me me-is

  module _ (call : ProcessCall) (o : Outcome) (aligned : Aligned s) where
    abbrev e : Event
    e = record { pid = pid; call = call; reply = o.reply }

    pages : All IsAligned c.pieces
    pages = All-contains (λ (r : Runner). All IsAligned r.pieces) s.runners me aligned me-is

    given-set : (i : ℕ) (r : Runner) → All (IsPieceGiven s e r.pid) r.pieces → AllGiven s e (slice_set s.runners i r)
    given-set i r own = all-slice_set (λ (q : Runner). All (IsPieceGiven s e q.pid) q.pieces) s.runners i r (kept-all s e) own

    given-cut : (from to : ℕ) → from % 4096 ≡ 0 → to % 4096 ≡ 0 → All (IsPieceGiven s e pid) (cut from to c.pieces)
    given-cut from to page-from page-to =
        all-flat_map (λ p. HasPiece s pid p × IsAligned p) (IsPieceGiven s e pid) (parts from to)
        (λ p h. All-weaker (λ q. IsPart q p) (IsPieceGiven s e pid) (λ q part. inl (p, h.0, part)) (parts from to p) (all-parts from to page-from page-to p h.1))
        c.pieces (λ j d lt. (mine j d lt, pages j d lt))

    given-attaches : (k : Attaches s c call o) → All (IsPieceGiven s e c.pid) (pieces_with c k.flags k.place)
    given-attaches k = own
      where
        new : IsPieceGiven s e pid (piece_for k.flags k.place)
        new =
            inr (inr (inl (record {
              own = refl;
              addr = k.addr;
              flags = k.flags;
              call = k.asked;
              reply = k.answer;
              asked = refl;
              may_write = refl;
              caller = c;
              live = is;
              segment = k.there.segment;
              stands = k.there.stands;
              permitted = k.there.permitted;
              page = k.there.lies.page pages;
              whole = (refl, k.there.whole);
            })))

        own : All (IsPieceGiven s e c.pid) (pieces_with c k.flags k.place)
        own = let page = k.there.lies.page pages in rw there.own (all-inserted (IsPieceGiven s e pid) _ _ new (given-cut k.place.base (k.place.base + 4096 * k.place.pages) page (omega (arith, page))))

    kept-own : All (IsPieceGiven s e pid) c.pieces
    kept-own = All-weaker (HasPiece s pid) (IsPieceGiven s e pid) (λ p h. inl (p, h, part_refl p)) c.pieces mine

    given-protects : (k : Protects s c call o) → All (IsPieceGiven s e pid) (protects_pieces s.limits.most_pieces k.writable k.addr k.len c.pieces).pieces
    given-protects k = all
      where
        has : (p : Piece) → Contains c.pieces p → HasPiece s pid p
        has p h = All-contains (HasPiece s pid) c.pieces p mine h

        from : (p : Piece) → Comes c.pieces p → IsPieceGiven s e pid p
        from p x =
            inr (inr (inr (record {
              of = x.of;
              has = has x.of x.is;
              protected = record {
                own = refl;
                addr = k.addr;
                len = k.len;
                writable = k.writable;
                call = k.asked;
                attach = shares p x.of x.attach;
                may_write = x.may_write;
                limited = x.limited;
                there = λ a h. let r = x.there a h in (r.0, has r.0 r.1, r.2, shares p r.0 r.3);
              };
              reach = (x.reach.0, has x.reach.0 x.reach.1, shares p x.reach.0 x.reach.2, x.reach.3);
            })))

        all : All (IsPieceGiven s e pid) (protects_pieces s.limits.most_pieces k.writable k.addr k.len c.pieces).pieces
        all = All-weaker (Comes c.pieces) (IsPieceGiven s e pid) from _ (protected-comes s.limits.most_pieces k.writable k.addr k.len c.pieces pages)

    given-hands : Hands s c call o → AllGiven s e o.state.runners
    given-hands =
        by-hands s c call o (AllGiven s e) (λ i r. All (IsPieceGiven s e r.pid) r.pieces) (kept-all s e) given-set given-attaches
        (λ k. rw there.own (All-filter k.stays (IsPieceGiven s e pid) c.pieces kept-own))
        (λ k j d lt. inr (inl (record { call = k.asked; reply = k.answer; parent = mine j d lt })))
        (λ k. rw there.own (given-cut k.addr (k.addr + rounded k.len) k.page (omega (arith, k.page))))
        (λ k. rw there.own (given-protects k)) (λ k. rw there.own kept-own)

pub given-move : (s : Machine) (n : ℕ) (e : Event) (t : Machine) → Aligned s → IsMove s n e t → EachPiece (IsPieceGiven s e) t
given-move s n e t aligned =
    by-move s n e t (λ r u. AllGiven s (record { pid = e.pid; call = e.call; reply = r }) u.runners)
    (λ c is. given-hands s e.pid c is e.call (acts s n c e.call) aligned (hands-acts s n c e.call)) (λ r no. kept-all s _)

-- what is given holds where it held of what it is given from
each-given : (law next : ℕ → Piece → Type 0) (s : Machine) (e : Event) (t : Machine)
    → ((pid : ℕ) (p : Piece) → IsPieceGiven s e pid p → next pid p) → EachPiece (IsPieceGiven s e) t → EachPiece next t
each-given law next s e t each given = grind (arith, common_steps)

-- WHOLE HISTORIES

pub each-start : (law : ℕ → Piece → Type 0) (o : Opening) → EachPiece law (start_of o)
each-start law o =
    All-map (λ (r : Runner). All (law r.pid) r.pieces) runner_at_start o.processes (λ k d lt. All-nil (law (get_or o.processes k d).pid))

pub goes-on : (o : Opening) (before : List Event) (s : Machine) (e : Event) (t : Machine) → IsHistory o before s → Aligned s → EachPiece (GoesBack o before) s → IsMove s (length before + 1) e t → EachPiece (GoesBack o (before ++ e ∷ [])) t
goes-on o before s e t h aligned now m = each-given (GoesBack o before) (GoesBack o (before ++ e ∷ [])) s e t back (given-move s (length before + 1) e t aligned m)
  where
    back : (pid : ℕ) (p : Piece) → IsPieceGiven s e pid p → GoesBack o (before ++ e ∷ []) pid p
    back pid p (inl k) = Kept before s e pid p k.0 h k.1 k.2 (each-has (GoesBack o before) s pid k.0 now k.1)
    back pid p (inr (inl k)) = Inherited before s e pid p h k (each-has (GoesBack o before) s e.pid p now k.parent)
    back pid p (inr (inr (inl k))) = Granted before s e pid p h k
    back pid p (inr (inr (inr k))) = Protected before s e pid p k.of h k.has k.protected (each-has (GoesBack o before) s pid k.of now k.has)

-- WHO IS KEPT OUT

-- the process may read the segment
abbrev Reads : Machine → ℕ → ℤ → Type 0
Reads s pid id = (m : ℕ) × (id ≡ pos m) × MayAsk s pid m (record { read = true; write = false; execute = false })

module _ (s : Machine) (n pid : ℕ) (c : Caller) (live : caller_of s pid ≡ Some c) where
  abbrev At : Reach → Type 0
  At r = (k : ℕ) → k < r.len → (p : Piece) × HasPiece s pid p × (covers p (r.from + k) ≡ true) × (r.writes ≡ true → p.writable ≡ true)

  abbrev Inside : ProcessCall → Outcome → Type 0
  Inside call o = StaysInside s (record { pid = pid; call = call; reply = o.reply })

  inside-acts : (call : ProcessCall) → Inside call (acts s n c call)
  inside-acts call clear r reached = by (accesses s n c call r reached).finds
    where
      by : (is_refusal (acts s n c call).reply ≡ true) ⊎ Finds s c r (acts s n c call).reply → At r
      by (inl refused) k lt = absurd (true≢false (sym refused ∙ clear))
      by (inr f) k lt =
          let spot = place-of c.pieces r.from r.len f.spots f.found k lt in
          let l = lies-in c.pieces (r.from + k) spot.spot spot.is in
          let has : HasPiece s pid l.piece = All-contains (HasPiece s pid) c.pieces l.piece (mine s pid c live) l.is in
          (l.piece, has, l.covered, λ w. ap (λ (q : Place). q.writable) (sym l.spot) ∙ writable-at f.spots k spot.spot (f.writable w) spot.at)

  asks : (id : ℤ) (act : ℕ → Segment → Outcome) → (controls s c act (look s.table id)).reply ≡ Done → OwnerAsks s pid id
  asks id act done = grind (arith, common_steps, found-own)

  abbrev Asks : ProcessCall → Outcome → Type 0
  Asks call o = (id : ℤ) → controlled call ≡ Some id → o.reply ≡ Done → OwnerAsks s pid id

  asked : (own : ℤ) (act : ℕ → Segment → Outcome) → (id : ℤ) → Some own ≡ Some id → (controls s c act (look s.table own)).reply ≡ Done → OwnerAsks s pid id
  asked own act id is done = let same : own ≡ id = cc is in subst (OwnerAsks s pid) same (asks own act done)

  asks-acts : (call : ProcessCall) → Asks call (acts s n c call)
  asks-acts (Set own uid gid mode) id is = asked own (sets s n uid gid mode) id is
  asks-acts (Rmid own) id is = asked own (removes s) id is
  asks-acts (Lock own) id is = asked own (locks s c) id is
  asks-acts (Unlock own) id is = asked own (unlocks s) id is
  asks-acts call id is = absurd (none-some _ is)

  -- who may read is shown the segment
  reads-found : (m : ℕ) (d : ShmidDs) (l : Look) → look s.table (pos m) ≡ l → (stat s c l).reply ≡ replies.Stat d → Reads s pid (pos m)
  reads-found m d Invalid is told = absurd (cc told)
  reads-found m d Removed is told = absurd (cc told)
  reads-found m d (Found i x) is told =
      pick_by (λ (o : Outcome). o.reply ≡ replies.Stat d → Reads s pid (pos m)) (not (grants c.cred x.perm (record { read = true; write = false; execute = false }))) _ _ (λ h shown. absurd (cc shown))
      (λ h shown. (
        m,
        refl,
        record {
          caller = c;
          live = live;
          segment = x;
          stands = is ∙ ap (λ k. Found k x) (found-own s.table m i x is).0;
          permitted = not-false (grants c.cred x.perm (record { read = true; write = false; execute = false })) h;
        },
      )) told

  reads : (id : ℤ) (d : ShmidDs) → (stat s c (look s.table id)).reply ≡ replies.Stat d → Reads s pid id
  reads (pos m) d told = reads-found m d (look s.table (pos m)) refl told
  reads (negsuc m) d told = absurd (cc told)

  reads-acts : (call : ProcessCall) (id : ℤ) (d : ShmidDs) → call ≡ calls.Stat id → (acts s n c call).reply ≡ replies.Stat d → Reads s pid id
  reads-acts call id d asked told = reads id d (ap (λ a. (acts s n c a).reply) (sym asked) ∙ told)

  -- who takes an area away
  takes : (area : ℕ) → (swapoff s c area).reply ≡ Done → IsUserZero s pid
  takes area done =
      pick_by (λ (o : Outcome). o.reply ≡ Done → IsUserZero s pid) (not (c.cred.uid == 0)) _ _ (λ h said. absurd (cc said))
      (λ h said. (c, live, is-zero c.cred.uid (not-false (c.cred.uid == 0) h))) done

  takes-acts : (call : ProcessCall) (area : ℕ) → call ≡ Swapoff area → (acts s n c call).reply ≡ Done → IsUserZero s pid
  takes-acts call area asked done = takes area (ap (λ a. (acts s n c a).reply) (sym asked) ∙ done)

-- all of it except the reply of a shmget
record Keeps (s : Machine) (e : Event) : Type 0 where
  inside : StaysInside s e
  owner : (id : ℤ) → controlled e.call ≡ Some id → e.reply ≡ Done → OwnerAsks s e.pid id
  stat : (id : ℤ) (d : ShmidDs) → e.call ≡ calls.Stat id → e.reply ≡ replies.Stat d → Reads s e.pid id
  swapoff : (area : ℕ) → e.call ≡ Swapoff area → e.reply ≡ Done → IsUserZero s e.pid

keeps : (s : Machine) (n : ℕ) (e : Event) (t : Machine) → IsMove s n e t → Keeps s e
keeps s n e t =
    by-move s n e t (λ r u. Keeps s (record { pid = e.pid; call = e.call; reply = r }))
    (λ c is. record { inside = inside-acts s n e.pid c is e.call; owner = asks-acts s n e.pid c is e.call; stat = reads-acts s n e.pid c is e.call; swapoff = takes-acts s n e.pid c is e.call })
    (λ r no. record {
      inside = λ clear x reached k lt. absurd (true≢false (sym no ∙ clear));
      owner = λ id is done. absurd (true≢false (sym no ∙ ap is_refusal done));
      stat = λ id d asked told. absurd (true≢false (sym no ∙ ap is_refusal told));
      swapoff = λ area asked done. absurd (true≢false (sym no ∙ ap is_refusal done));
    })

-- a process that gets an existing segment had the permissions that the mode asks for
got-granted : (s : Machine) (pid key mode id : ℕ) (t : Machine) (x : Segment) → Stands s id x → GetsBy s pid key mode (pos id) t → MayAsk s pid id (wish_of s.limits.rules mode)
got-granted s pid key mode id t x stood g = grind (arith, common_steps, nat_tests)

pub keeps-out : (s : Machine) (n : ℕ) (e : Event) (t : Machine) → IsMachineSound s → IsMove s n e t → KeepsOut s e t
keeps-out s n e t sound m =
    let k = keeps s n e t m in
    record {
      inside = k.inside;
      owner = k.owner;
      stat = k.stat;
      swapoff = k.swapoff;
      get = λ key size mode id flags x asked told stood. got-granted s e.pid key mode id t x stood (gets-move s n e t sound.short m key size mode flags (pos id) asked told);
    }
