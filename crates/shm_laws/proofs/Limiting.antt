-- No call changes the limits of a machine.
use Rattle.shm_laws.proofs.Names.{Errno, ◌≡◌, ℕ, refl, common_steps, arith, AtFlags, ProcessCall, Shmget, Shmat, Event, Machine, Outcome, Caller, acts, IsMove, attaches_if, Placed, placed, Result, Ok, Err, by-shmget}
use Rattle.shm_laws.proofs.Refusing.{by-move}

module _ (s : Machine) (n : ℕ) (c : Caller) where
  abbrev Limited : Outcome → Type 0
  Limited o = o.state.limits ≡ s.limits

  limited-attaches : (flags : AtFlags) (r : Result Placed Errno) → Limited (attaches_if s n c flags r)
  limited-attaches flags (Err e) = refl
  limited-attaches flags (Ok p) = refl

  pub limited-acts : (call : ProcessCall) → Limited (acts s n c call)
  limited-acts (Shmget key size mode flags) = by-shmget s n c size mode (λ k. Limited) (λ k e other. refl) (λ k i x named found permitted. refl) (λ k i free some is. refl) key flags
  limited-acts (Shmat id addr flags) = limited-attaches flags (placed s c id addr flags)
  limited-acts call = grind (arith, common_steps)

pub limits-stay : (s : Machine) (n : ℕ) (e : Event) (t : Machine) → IsMove s n e t → t.limits ≡ s.limits
limits-stay s n e t = by-move s n e t (λ r u. u.limits ≡ s.limits) (λ c is. limited-acts s n c e.call) (λ r no. refl)
