-- A call of a live process never fails with ESRCH.
use Rattle.shm_threads.proofs.Names.{◌≡◌, ◌≢◌, ◌+◌, ◌-◌, ◌*◌, ◌%◌, ◌^◌, ◌==◌, ◌&&◌, ℕ, ℤ, Bool, true, false, not, nat_le, nat_lt, List, ◌∷◌, length, Option, Some, None, Result, Ok, Err, ⊤, is_some, if◌then◌else◌, ok_or, sym, ap, ◌∙◌, refl, arith, inl, inr, true≢false, common_steps, ProcessCall, IsMove, is_failure, Found, Invalid, Look, Removed, destroyed_at, identifier, look, grants, pieces_are_enomem, removed_is_invalid, end_of, Protected, done_or, has_protection, munmap, protects_from, protects_piece, protects_pieces, rounded, turned, unmaps, choose_beside, covering, cut, end_address, inside, Machine, Piece, Segment, pages_in, pages_of, Caller, Outcome, caller_of, acts, at_wish, attaches_if, base_for, fixed_base, host_ranges, if_few, is_full, is_misplaced, is_taken, outside_errno, pieces_beside, placed, placed_at, placed_found, shmat, shmget, step_by, Mprotect, Munmap, Shmat, Shmget, Event, Placed, Reply, Refused, Errno, Enomem, Esrch, AtFlags, GetFlags, by-shmget, pick}
use Rattle.std.specs.Prelude.{suc, zero}

abbrev is_lost : Reply → Bool
is_lost (Refused Esrch) = true
is_lost _ = false

-- the caller is found
abbrev IsFound : Outcome → Type 0
IsFound o = is_lost o.reply ≡ false

other-found : (e : Errno) → e ≢ Esrch → is_lost (Refused e) ≡ false
other-found e other = grind arith

pick_errno : (s : Machine) (b : Bool) (e f : Errno) → is_lost (Refused e) ≡ false → is_lost (Refused f) ≡ false → is_lost (Refused (if b then e else f)) ≡ false
pick_errno s true e f p q = p
pick_errno s false e f p q = q

-- a refusal that is not ESRCH
abbrev IsNamed : {A : Type 0} → Result A Errno → Type 0
IsNamed (Err e) = is_lost (Refused e) ≡ false
IsNamed (Ok a) = ⊤

if-named : {A : Type 0} (b : Bool) (r q : Result A Errno) → IsNamed r → IsNamed q → IsNamed (if b then r else q)
if-named true r q h k = h
if-named false r q h k = k

-- A PROTECTION

abbrev IsAnswered : Protected → Type 0
IsAnswered x = is_lost (done_or x.refusal) ≡ false

either : (b : Bool) (x y : Protected) → IsAnswered x → IsAnswered y → IsAnswered (if b then x else y)
either true x y h k = h
either false x y h k = k

answered-piece : (most : ℕ) (w : Bool) (at to : ℕ) (ps : List Piece) (next : ℕ → List Piece → Protected) → ((above : ℕ) (qs : List Piece) → IsAnswered (next above qs)) → (o : Option Piece)
    → IsAnswered (protects_piece most w at to ps next o)
answered-piece most w at to ps next rest None = refl
answered-piece most w at to ps next rest (Some p) =
    let qs = turned w at to p ps in
    let x = next (end_of p) qs in
    either (w && not p.may_write) _ _ refl
    (either (has_protection w p) _ _ (rest (end_of p) ps)
    (either (nat_lt most (length qs)) _ _ refl
    (either (nat_lt (length ps) (length qs)) (record x { split = p.seg ∷ x.split }) x (rest (end_of p) qs) (rest (end_of p) qs))))

answered-from : (k most : ℕ) (w : Bool) (to at : ℕ) (ps : List Piece) → IsAnswered (protects_from k most w to at ps)
answered-from zero most w to at ps = refl
answered-from (suc k) most w to at ps = either (nat_le to at) _ _ refl (answered-piece most w at to ps (protects_from k most w to) (answered-from k most w to) (covering at ps))

answered : (most : ℕ) (w : Bool) (addr len : ℕ) (ps : List Piece) → IsAnswered (protects_pieces most w addr len ps)
answered most w addr len ps =
    either (not (addr % 4096 == 0)) _ _ refl
    (either (len == 0) _ _ refl (either (nat_le (2 ^ 64) (addr + rounded len)) _ _ refl (answered-from (pages_of len) most w (addr + rounded len) addr ps)))

-- ANY CALL

module _ (s : Machine) (n : ℕ) (c : Caller) where
  found-shmget : (key size mode : ℕ) (flags : GetFlags) → IsFound (shmget s n c key size mode flags)
  found-shmget key size mode flags =
      by-shmget s n c size mode (λ k. IsFound) (λ k e other. other-found e other) (λ k i x named found permitted. refl) (λ k i free some is. refl) key flags

  -- THE PLACE OF AN ATTACH

  few : (p : Placed) → IsNamed (if_few s c p)
  few p = if-named (nat_lt s.limits.most_pieces (length (pieces_beside c p) + 1)) _ _ (pick_errno s (pieces_are_enomem s.limits.rules) _ _ refl refl) tt

  named-at : (seg pages : ℕ) (r : Result ℕ Errno) → IsNamed r → IsNamed (placed_at s c seg pages r)
  named-at seg pages (Err e) h = h
  named-at seg pages (Ok base) h = few (record { seg = seg; pages = pages; base = base })

  named-chosen : (o : Option ℕ) → IsNamed (ok_or o Enomem)
  named-chosen None = refl
  named-chosen (Some base) = tt

  named-fixed : (x : Segment) (flags : AtFlags) (base : ℕ) → IsNamed (fixed_base s c x flags base)
  named-fixed x flags base =
      if-named (is_taken s c x flags base) _ _ refl
      (if-named (is_full s c) _ _ refl (if-named (not (inside base (pages_in x))) (Err (outside_errno s c (base + 4096 * pages_in x))) (Ok base) (grind (arith, common_steps)) tt))

  named-base : (x : Segment) (flags : AtFlags) (addr : ℕ) → IsNamed (base_for s c x flags addr)
  named-base x flags addr = if-named (addr == 0) _ _ (named-chosen (choose_beside c.pieces (host_ranges s c) (pages_in x))) (named-fixed x flags (addr - addr % 4096))

  named-found : (flags : AtFlags) (addr : ℕ) (l : Look) → IsNamed (placed_found s c flags addr l)
  named-found flags addr Invalid = refl
  named-found flags addr Removed = pick_errno s (removed_is_invalid s.limits.rules) _ _ refl refl
  named-found flags addr (Found i x) =
      if-named (not (grants c.cred x.perm (at_wish s flags))) _ _ refl (named-at (identifier i (destroyed_at s.table i)) (pages_in x) (base_for s c x flags addr) (named-base x flags addr))

  found-attaches : (flags : AtFlags) (r : Result Placed Errno) → IsNamed r → IsFound (attaches_if s n c flags r)
  found-attaches flags (Err e) h = h
  found-attaches flags (Ok p) h = refl

  found-shmat : (id : ℤ) (addr : ℕ) (flags : AtFlags) → IsFound (shmat s n c id addr flags)
  found-shmat id addr flags =
      found-attaches flags (placed s c id addr flags) (if-named (is_misplaced s addr flags) _ _ refl (named-found flags addr (look s.table id)))

  -- THE OTHER CALLS

  found-unmaps : (from : ℕ) (b : Bool) (r q : Result ℕ Errno) → IsFound (unmaps s n c from r) → IsFound (unmaps s n c from q) → IsFound (unmaps s n c from (if b then r else q))
  found-unmaps from true r q h k = h
  found-unmaps from false r q h k = k

  found-munmap : (addr len : ℕ) → IsFound (munmap s n c addr len)
  found-munmap addr len =
      found-unmaps addr (not (addr % 4096 == 0)) _ _ refl
      (found-unmaps addr (len == 0) _ _ refl
      (found-unmaps addr (nat_lt end_address (addr + len)) _ _ refl (pick IsFound (nat_lt s.limits.most_pieces (length (cut addr (addr + rounded len) c.pieces))) _ _ refl refl)))

  found-acts : (call : ProcessCall) → IsFound (acts s n c call)
  found-acts (Shmget key size mode flags) = found-shmget key size mode flags
  found-acts (Shmat id addr flags) = found-shmat id addr flags
  found-acts (Munmap addr len) = found-munmap addr len
  found-acts (Mprotect addr len w) = answered s.limits.most_pieces w addr len c.pieces
  found-acts call = grind (arith, common_steps)

found-failure : (call : ProcessCall) (r : Reply) → is_failure call r ≡ true → is_lost r ≡ false
found-failure call r failure = grind arith

found-by : (s : Machine) (n : ℕ) (call : ProcessCall) (o : Option Caller) → is_some o ≡ true → IsFound (step_by s n call o)
found-by s n call None some = absurd (cc some)
found-by s n call (Some c) some = found-acts s n c call

pub found : (s : Machine) (n : ℕ) (e : Event) (t : Machine) → IsMove s n e t → is_some (caller_of s e.pid) ≡ true → e.reply ≢ Refused Esrch
found s n e t move calls lost = true≢false (sym (ap is_lost lost) ∙ by move)
  where
    by : IsMove s n e t → is_lost e.reply ≡ false
    by (inl step) = ap (λ (o : Outcome). is_lost o.reply) (sym step) ∙ found-by s n e.call (caller_of s e.pid) calls
    by (inr excused) = found-failure e.call e.reply excused.failure
