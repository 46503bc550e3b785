-- A call changes the pieces of no process but the one for which it is counted.
use Rattle.shm_life.proofs.Names.{◌≡◌, ◌≢◌, ℕ, ◌==◌, Bool, true, false, nat_lt, List, length, Option, Some, None, if◌then◌else◌, slice_get, slice_set, inl, inr, refl, sym, ap, subst, ◌∙◌, arith, cases_eq, get_or, slice_get-get_or, common_steps, IfSome, Result, Ok, Err, pieces_by, as_caller, caller-at, caller-set, caller_from-first, child_at, first-apart, first_runner, Caller, Outcome, caller_of, with_cred, ProcessCall, IsMove, unmapped_to, unmaps, pieces_of_caller, cut, origin_of, Live, Machine, Piece, Runner, acts, attaches_if, detaches, forks, placed, shmget, step, step_by, unborn_from, Shmget, Shmat, Shmdt, Store, Exchange, Fork, Exec, Exit, Munmap, Mprotect, Setuid, Placed, Reply, Errno, GetFlags, Cred, Act, Nothing, Put, PutIfEqual, Add, call_of, ChangesAreCounted, changed_by, changes_of, counted_after, counted_for}
use Rattle.shm_life.proofs.Asking.{by-shmget, pick}

-- EACH CALL

module _ (s : Machine) (n : ℕ) (c : Caller) where
  -- no process changes
  abbrev Rests : Outcome → Type 0
  Rests o = o.state.runners ≡ s.runners

  rests-shmget : (key size mode : ℕ) (flags : GetFlags) → Rests (shmget s n c key size mode flags)
  rests-shmget key size mode flags = by-shmget s n c size mode (λ k. Rests) (λ k e other. refl) (λ k i x named found permitted. refl) (λ k i free some is. refl) key flags

  -- the process with this pid is left as it was
  module _ (p : ℕ) (found : caller_of s c.pid ≡ Some c) where
    abbrev Leaves : Outcome → Type 0
    Leaves o = pieces_by p o.state.runners ≡ pieces_by p s.runners

    same : (o : Outcome) → Rests o → Leaves o
    same o rests = ap (pieces_by p) rests

    apart : (i : ℕ) (old x : Runner) → slice_get s.runners i ≡ Some old → old.pid ≢ p → x.pid ≢ p → pieces_by p (slice_set s.runners i x) ≡ pieces_by p s.runners
    apart i old x there was is =
        ap pieces_of_caller
        (caller_from-first 0 p (slice_set s.runners i x) ∙ first-apart (as_caller p) 0 p i s.runners old x there was is ∙ sym (caller_from-first 0 p s.runners))

    -- if it is another's
    elsewhere : (x : Runner) → x.pid ≡ c.pid → c.pid ≢ p → pieces_by p (slice_set s.runners c.index x) ≡ pieces_by p s.runners
    elsewhere x own other =
        apart c.index (record { pid = c.pid; life = Live c.cred; pieces = c.pieces }) x (caller-at c.pid s.runners c found).there other (λ e. other (sym own ∙ e))

    -- the caller keeps its pieces
    credited : (cred : Cred) → pieces_by c.pid (with_cred s.runners c cred) ≡ pieces_by c.pid s.runners
    credited cred =
        ap pieces_of_caller (caller-set c.pid s.runners c cred c.pieces found) ∙ sym (ap pieces_of_caller found)

    leaves-setuid : (cred : Cred) → pieces_by p (with_cred s.runners c cred) ≡ pieces_by p s.runners
    leaves-setuid cred =
        elim (cases_eq c.pid p) [
          | inl same ↦ subst (λ (q : ℕ). pieces_by q (with_cred s.runners c cred) ≡ pieces_by q s.runners) same (credited cred)
          | inr other ↦ elsewhere _ refl other
        ]

    leaves-attaches : (flags : _) (r : Result Placed Errno) → c.pid ≢ p → Leaves (attaches_if s n c flags r)
    leaves-attaches flags (Err e) other = refl
    leaves-attaches flags (Ok place) other = elsewhere _ refl other

    leaves-detaches : (addr : ℕ) (o : Option Piece) → c.pid ≢ p → Leaves (detaches s n c addr o)
    leaves-detaches addr None other = refl
    leaves-detaches addr (Some q) other = elsewhere _ refl other

    leaves-unmaps : (addr : ℕ) (r : Result ℕ Errno) → c.pid ≢ p → Leaves (unmaps s n c addr r)
    leaves-unmaps addr (Err e) other = refl
    leaves-unmaps addr (Ok to) other = pick Leaves (nat_lt s.limits.most_pieces (length (cut addr to c.pieces))) _ _ refl (elsewhere _ refl other)

    leaves-forks : (child : ℕ) (o : Option ℕ) → unborn_from 0 child s.runners ≡ o → child ≢ p → Leaves (forks s n c child o)
    leaves-forks child None is other = refl
    leaves-forks child (Some i) is other =
        let k = child_at child i s.runners is in
        apart i (get_or s.runners i first_runner) _ (slice_get-get_or s.runners i first_runner k.within) (λ e. other (sym k.named ∙ e)) other

    -- a call that is not counted for it
    leaves-acts : (call : ProcessCall) → (changed_by c.pid call ≡ Some p → ⊥) → Leaves (acts s n c call)
    leaves-acts (Shmget key size mode flags) never = same (acts s n c (Shmget key size mode flags)) (rests-shmget key size mode flags)
    leaves-acts (Shmat id addr flags) never = leaves-attaches flags (placed s c id addr flags) (λ e. never (ap (λ q. Some q) e))
    leaves-acts (Shmdt addr) never = leaves-detaches addr (origin_of addr c.pieces) (λ e. never (ap (λ q. Some q) e))
    leaves-acts (Fork child) never = leaves-forks child (unborn_from 0 child s.runners) refl (λ e. never (ap (λ q. Some q) e))
    leaves-acts Exec never = elsewhere _ refl (λ e. never (ap (λ q. Some q) e))
    leaves-acts Exit never = elsewhere _ refl (λ e. never (ap (λ q. Some q) e))
    leaves-acts (Munmap addr len) never = leaves-unmaps addr (unmapped_to addr len) (λ e. never (ap (λ q. Some q) e))
    leaves-acts (Mprotect addr len writable) never = elsewhere _ refl (λ e. never (ap (λ q. Some q) e))
    leaves-acts (Setuid uid gid) never = leaves-setuid (record { uid = uid; gid = gid })
    leaves-acts call never = same (acts s n c call) (grind (arith, common_steps))

-- THE STEP

leaves-by :
    (s : Machine) (n pid p : ℕ) (call : ProcessCall) (o : Option Caller) → caller_of s pid ≡ o → (changed_by pid call ≡ Some p → ⊥)
    → pieces_by p (step_by s n call o).state.runners ≡ pieces_by p s.runners
leaves-by s n pid p call None is never = refl
leaves-by s n pid p call (Some c) is never =
    let own = (caller-at pid s.runners c is).own in
    leaves-acts s n c p (subst (λ (q : ℕ). caller_of s q ≡ Some c) (sym own) is) call (subst (λ (q : ℕ). changed_by q call ≡ Some p → ⊥) (sym own) never)

leaves-step : (s : Machine) (n pid p : ℕ) (call : ProcessCall) → (changed_by pid call ≡ Some p → ⊥) → pieces_by p (step s n pid call).state.runners ≡ pieces_by p s.runners
leaves-step s n pid p call never = leaves-by s n pid p call (caller_of s pid) refl never

-- a count rose for the process whose pieces the call may have changed
pub told :
    (s t : Machine) (n pid : ℕ) (call : ProcessCall) (reply : Reply) (old new : List ℕ) → IsMove s n (record { pid = pid; call = call; reply = reply }) t
    → IfSome (changed_by pid call) (λ q. changes_of q new ≢ changes_of q old) → ChangesAreCounted old s new t
told s t n pid call reply old new (inr excused) rises p is = ap (λ (m : Machine). pieces_by p m.runners) excused.unchanged
told s t n pid call reply old new (inl step-is) rises p is =
    sym (ap (λ (o : Outcome). pieces_by p o.state.runners) step-is) ∙ leaves-step s n pid p call (λ named. never named)
  where
    never : changed_by pid call ≡ Some p → ⊥
    never named = let rose = subst (λ (o : Option ℕ). IfSome o (λ q. changes_of q new ≢ changes_of q old)) named rises in rose is

-- ACCESSES

-- an access is no call that may change pieces
plain : (pid addr room : ℕ) (act : Act) → changed_by pid (call_of act addr room) ≡ None
plain pid addr room Nothing = refl
plain pid addr room (Put bytes) = either (length bytes.now == room)
  where
    either : (b : Bool) → changed_by pid (if b then Exchange bytes.now addr else Store bytes.now addr) ≡ None
    either true = refl
    either false = refl
plain pid addr room (PutIfEqual expected bytes) = refl
plain pid addr room (Add more) = refl

pub access_counts : (pid addr room : ℕ) (act : Act) (counts : List ℕ) → counts ≡ counted_after pid (call_of act addr room) counts
access_counts pid addr room act counts = sym (ap (λ (o : Option ℕ). counted_for o counts) (plain pid addr room act))

pub access_rises : (pid addr room : ℕ) (act : Act) (P : ℕ → Type 0) → IfSome (changed_by pid (call_of act addr room)) P
access_rises pid addr room act P = rw (plain pid addr room act) tt
