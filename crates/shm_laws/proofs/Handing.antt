-- What each call does to processes: nothing; or the caller attaches a segment, loses pieces, has a child, unmaps or protects a
-- range, or gets other credentials.
use Rattle.shm_laws.proofs.Names.{subst, cut, Cred, Munmap, Mprotect, Setuid, Outcome, stops_midway, unmaps, unmapped_to, rounded, protects_pieces, with_cred, ◌≡◌, ◌⊎◌, ℕ, ◌+◌, ◌%◌, ◌≤◌, ℤ, pos, Bool, true, false, not, nat_lt, List, [], ◌∷◌, length, Option, Some, None, slice_set, refl, ap, ◌∙◌, inl, inr, arith, common_steps, filter, Errno, ProcessCall, Shmget, Shmat, Shmdt, Fork, Exec, Exit, Addr, Done, AtFlags, Piece, Life, Live, Ended, Machine, origin_of, is_named, is_refusal, refuses, Caller, acts, pieces_with, with_pieces, detaches, forks, unborn_from, hands_pieces, attaches_if, Placed, placed, Runner, Result, Ok, Err, by-shmget, pick_by}
use Rattle.shm_laws.proofs.Placing.{IsPlaced, few-enough, is-placed}

-- SEVEN THINGS

pub record Attaches (s : Machine) (c : Caller) (call : ProcessCall) (o : Outcome) : Type 0 where
  pub addr : ℕ
  pub flags : AtFlags
  pub place : Placed
  pub asked : call ≡ Shmat (pos place.seg) addr flags
  pub there : IsPlaced s c flags place
  pub answer : o.reply ≡ Addr place.base
  pub runners : o.state.runners ≡ with_pieces s.runners c (pieces_with c flags place)

-- by a shmdt that named the piece, or all of them
abbrev pub Takes : Caller → ProcessCall → (Piece → Bool) → Type 0
Takes c call stays =
    ((addr : ℕ) × (p : Piece) × (call ≡ Shmdt addr) × (origin_of addr c.pieces ≡ Some p) × (stays ≡ (λ q. not (is_named addr p.seg q))))
    ⊎ (((call ≡ Exec) ⊎ (call ≡ Exit)) × (stays ≡ (λ q. false)))

pub record Leaves (s : Machine) (c : Caller) (call : ProcessCall) (o : Outcome) : Type 0 where
  pub life : Life
  pub stays : Piece → Bool
  pub taken : Takes c call stays
  pub who : (life ≡ Live c.cred) ⊎ (life ≡ Ended)
  pub answer : o.reply ≡ Done
  pub runners : o.state.runners ≡ slice_set s.runners c.index (record { pid = c.pid; life = life; pieces = filter stays c.pieces })

pub record Forks (s : Machine) (c : Caller) (call : ProcessCall) (o : Outcome) : Type 0 where
  pub child : ℕ
  pub index : ℕ
  pub asked : call ≡ Fork child
  pub answer : o.reply ≡ Done
  pub unborn : unborn_from 0 child s.runners ≡ Some index
  pub runners : o.state.runners ≡ slice_set s.runners index (record { pid = child; life = Live c.cred; pieces = c.pieces })

pub record Unmaps (s : Machine) (c : Caller) (call : ProcessCall) (o : Outcome) : Type 0 where
  pub addr : ℕ
  pub len : ℕ
  pub asked : call ≡ Munmap addr len
  pub page : addr % 4096 ≡ 0
  pub few : length (cut addr (addr + rounded len) c.pieces) ≤ s.limits.most_pieces
  pub answer : o.reply ≡ Done
  pub runners : o.state.runners ≡ with_pieces s.runners c (cut addr (addr + rounded len) c.pieces)

-- also if it is refused
pub record Protects (s : Machine) (c : Caller) (call : ProcessCall) (o : Outcome) : Type 0 where
  pub addr : ℕ
  pub len : ℕ
  pub writable : Bool
  pub asked : call ≡ Mprotect addr len writable
  pub runners : o.state.runners ≡ with_pieces s.runners c (protects_pieces s.limits.most_pieces writable addr len c.pieces).pieces

pub record Credits (s : Machine) (c : Caller) (call : ProcessCall) (o : Outcome) : Type 0 where
  pub cred : Cred
  pub asked : call ≡ Setuid cred.uid cred.gid
  pub answer : o.reply ≡ Done
  pub runners : o.state.runners ≡ with_cred s.runners c cred

-- nothing, of a call that hands no pieces out, or of one that was refused
pub record Rests (s : Machine) (call : ProcessCall) (o : Outcome) : Type 0 where
  pub why : (hands_pieces call ≡ false) ⊎ (is_refusal o.reply ≡ true)
  pub plain : stops_midway call ≡ false
  pub runners : o.state.runners ≡ s.runners

abbrev pub Hands : Machine → Caller → ProcessCall → Outcome → Type 0
Hands s c call o =
    Rests s call o ⊎ (Attaches s c call o ⊎ (Leaves s c call o ⊎ (Forks s c call o ⊎ (Unmaps s c call o ⊎ (Protects s c call o ⊎ Credits s c call o)))))

-- what holds of the processes before a call holds after it if each kind of change to one of them keeps it
module _ (s : Machine) (c : Caller) (call : ProcessCall) (o : Outcome) (P : List Runner → Type 0) (Q : ℕ → Runner → Type 0) (same : P s.runners) (set : (i : ℕ) (r : Runner) → Q i r → P (slice_set s.runners i r))
    (attaches : (k : Attaches s c call o) → Q c.index (record { pid = c.pid; life = Live c.cred; pieces = pieces_with c k.flags k.place }))
    (leaves : (k : Leaves s c call o) → Q c.index (record { pid = c.pid; life = k.life; pieces = filter k.stays c.pieces }))
    (forks : (k : Forks s c call o) → Q k.index (record { pid = k.child; life = Live c.cred; pieces = c.pieces }))
    (unmaps : (k : Unmaps s c call o) → Q c.index (record { pid = c.pid; life = Live c.cred; pieces = cut k.addr (k.addr + rounded k.len) c.pieces }))
    (protects : (k : Protects s c call o) → Q c.index (record { pid = c.pid; life = Live c.cred; pieces = (protects_pieces s.limits.most_pieces k.writable k.addr k.len c.pieces).pieces }))
    (credits : (k : Credits s c call o) → Q c.index (record { pid = c.pid; life = Live k.cred; pieces = c.pieces })) where
  pub by-hands : Hands s c call o → P o.state.runners
  by-hands (inl k) = rw k.runners same
  by-hands (inr (inl k)) = rw k.runners (set _ _ (attaches k))
  by-hands (inr (inr (inl k))) = rw k.runners (set _ _ (leaves k))
  by-hands (inr (inr (inr (inl k)))) = rw k.runners (set _ _ (forks k))
  by-hands (inr (inr (inr (inr (inl k))))) = rw k.runners (set _ _ (unmaps k))
  by-hands (inr (inr (inr (inr (inr (inl k)))))) = rw k.runners (set _ _ (protects k))
  by-hands (inr (inr (inr (inr (inr (inr k)))))) = rw k.runners (set _ _ (credits k))

-- EACH CALL

pub none-stay : (ps : List Piece) → [] ≡ filter (λ (p : Piece). false) ps
none-stay [] = refl
none-stay (p ∷ ps) = none-stay ps

module _ (s : Machine) (n : ℕ) (c : Caller) where
  -- a refusal
  refused : (call : ProcessCall) (e : Errno) → stops_midway call ≡ false → Hands s c call (refuses s e)
  refused call e plain = inl (record { why = inr refl; plain = plain; runners = refl })

  -- a call that hands no pieces out
  rests : (call : ProcessCall) (o : Outcome) → hands_pieces call ≡ false → stops_midway call ≡ false → o.state.runners ≡ s.runners → Hands s c call o
  rests call o why plain same = inl (record { why = inl why; plain = plain; runners = same })

  hands-attaches : (id : ℤ) (addr : ℕ) (flags : AtFlags) (r : Result Placed Errno) → placed s c id addr flags ≡ r → Hands s c (Shmat id addr flags) (attaches_if s n c flags r)
  hands-attaches id addr flags (Err e) is = refused _ _ refl
  hands-attaches id addr flags (Ok p) is =
      let k = is-placed s c id addr flags p is in
      inr (inl (record { addr = addr; flags = flags; place = p; asked = ap (λ i. Shmat i addr flags) k.0; there = k.1; answer = refl; runners = refl }))

  hands-detaches : (addr : ℕ) (o : Option Piece) → origin_of addr c.pieces ≡ o → Hands s c (Shmdt addr) (detaches s n c addr o)
  hands-detaches addr None is = refused _ _ refl
  hands-detaches addr (Some p) is =
      inr (inr (inl (record { life = Live c.cred; stays = λ q. not (is_named addr p.seg q); taken = inl (addr, p, refl, is, refl); who = inl refl; answer = refl; runners = refl })))

  hands-all : (call : ProcessCall) (o : Outcome) (life : Life) → (life ≡ Live c.cred) ⊎ (life ≡ Ended) → (call ≡ Exec) ⊎ (call ≡ Exit) → o.reply ≡ Done → o.state.runners ≡ slice_set s.runners c.index (record { pid = c.pid; life = life; pieces = [] }) → Hands s c call o
  hands-all call o life who which done is =
      inr (inr (inl (record {
        life = life;
        stays = λ q. false;
        taken = inr (which, refl);
        who = who;
        answer = done;
        runners = is ∙ ap (λ ps. slice_set s.runners c.index (record { pid = c.pid; life = life; pieces = ps })) (none-stay c.pieces);
      })))

  hands-forks : (child : ℕ) (o : Option ℕ) → unborn_from 0 child s.runners ≡ o → Hands s c (Fork child) (forks s n c child o)
  hands-forks child None is = refused _ _ refl
  hands-forks child (Some i) is = inr (inr (inr (inl (record { child = child; index = i; asked = refl; answer = refl; unborn = is; runners = refl }))))

  hands-unmaps : (addr len : ℕ) (r : Result ℕ Errno) → unmapped_to addr len ≡ r → Hands s c (Munmap addr len) (unmaps s n c addr r)
  hands-unmaps addr len (Err e) is = refused _ _ refl
  hands-unmaps addr len (Ok to) is =
      let ends : (to ≡ addr + rounded len) × (addr % 4096 ≡ 0) = grind (arith, common_steps, is) in
      pick_by (Hands s c (Munmap addr len)) (nat_lt s.limits.most_pieces (length (cut addr to c.pieces))) _ _ (λ h. refused _ _ refl)
      (λ h. inr (inr (inr (inr (inl (record {
        addr = addr;
        len = len;
        asked = refl;
        page = ends.1;
        few = subst (λ b. length (cut addr b c.pieces) ≤ s.limits.most_pieces) ends.0 (few-enough s.limits.most_pieces (length (cut addr to c.pieces)) h);
        answer = refl;
        runners = ap (λ b. with_pieces s.runners c (cut addr b c.pieces)) ends.0;
      }))))))

  -- the other calls leave the pieces of all processes

  abbrev Leave : Outcome → Type 0
  Leave o = o.state.runners ≡ s.runners

  pub hands-acts : (call : ProcessCall) → Hands s c call (acts s n c call)
  hands-acts (Shmget key size mode flags) = rests _ _ refl refl (by-shmget s n c size mode (λ k. Leave) (λ k e other. refl) (λ k i x named found permitted. refl) (λ k i free some is. refl) key flags)
  hands-acts (Shmat id addr flags) = hands-attaches id addr flags (placed s c id addr flags) refl
  hands-acts (Shmdt addr) = hands-detaches addr (origin_of addr c.pieces) refl
  hands-acts (Fork child) = hands-forks child (unborn_from 0 child s.runners) refl
  hands-acts Exec = hands-all Exec _ (Live c.cred) (inl refl) (inl refl) refl refl
  hands-acts Exit = hands-all Exit _ Ended (inr refl) (inr refl) refl refl
  hands-acts (Munmap addr len) = hands-unmaps addr len (unmapped_to addr len) refl
  hands-acts (Mprotect addr len w) = inr (inr (inr (inr (inr (inl (record { addr = addr; len = len; writable = w; asked = refl; runners = refl }))))))
  hands-acts (Setuid uid gid) = inr (inr (inr (inr (inr (inr (record { cred = record { uid = uid; gid = gid }; asked = refl; answer = refl; runners = refl }))))))
  hands-acts call = rests _ _ refl refl (grind arith)
