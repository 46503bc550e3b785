-- A reply that is not a refusal is of its call's kind.
use Rattle.std.proofs.Common.{◌≡◌, ℕ, zero, suc, ◌+◌, ℤ, true, false, if◌then◌else◌, List, length, Option, Some, None, refl, true≢false, arith}
use Rattle.std.proofs.lemmas.Grind.{common_steps}
use Rattle.shm_base.specs.declared.flags.GetFlags.{GetFlags}
use Rattle.shm_base.specs.declared.flags.AtFlags.{AtFlags}
use Rattle.shm_base.specs.Calls.{ProcessCall}
use Rattle.shm_base.specs.declared.call.Call.TheVariants.{Shmget, Shmat, Load, Exchange, CompareExchange}
use Rattle.shm_base.specs.declared.call.Reply.{Reply}
use Rattle.shm_base.specs.declared.call.Event.{Event}
use Rattle.shm_base.specs.State.{Piece, Machine}
use Rattle.shm_base.specs.declared.errno.Errno.{Errno}
use Rattle.shm_base.specs.declared.errno.Errno.TheVariants.{Esrch}
use Rattle.shm_base.specs.declared.call.Placed.{Placed}
use Rattle.shm_base.specs.declared.call.Reply.TheVariants.{Addr}
use Rattle.std.specs.Prelude.{◌==◌, Result, Ok, Err}
use Rattle.shm_base.specs.Access.{Place, places, writable_places}
use Rattle.shm_base.specs.History.{is_refusal, is_failure, IsMove}
use Rattle.shm_base.specs.Callers.{Outcome, Caller, caller_of, gives, refuses}
use Rattle.shm_base.specs.Step.{acts, step_by, attaches_if, placed, shmget}
use Rattle.shm_life.proofs.Asking.{by-shmget}
use Rattle.shm_machine.specs.Answered.{fits}

record Fine (call : ProcessCall) (o : Outcome) : Type 0 where
  fit : is_refusal o.reply ≡ false → fits call o.reply ≡ true

refused : (call : ProcessCall) (s : Machine) (e : Errno) → Fine call (refuses s e)
refused call s e = record { fit = λ plain. absurd (true≢false plain) }

given : (call : ProcessCall) (s : Machine) (r : Reply) → fits call r ≡ true → Fine call (gives s r)
given call s r h = record { fit = λ plain. h }

module _ (s : Machine) (n : ℕ) (c : Caller) where
  fine-shmget : (key size mode : ℕ) (flags : GetFlags) → Fine (Shmget key size mode flags) (shmget s n c key size mode flags)
  fine-shmget key size mode flags =
      let call : ProcessCall = Shmget key size mode flags in
      by-shmget s n c size mode (λ k. Fine call) (λ k e other. refused call s e) (λ k i x named found permitted. given call s _ refl) (λ k i free some is. given call _ _ refl) key flags

  fine-attaches : (id : ℤ) (addr : ℕ) (flags : AtFlags) (r : Result Placed Errno) → Fine (Shmat id addr flags) (attaches_if s n c flags r)
  fine-attaches id addr flags (Err e) = refused (Shmat id addr flags) s e
  fine-attaches id addr flags (Ok p) = given (Shmat id addr flags) _ (Addr p.base) refl

pub places-length : (pieces : List Piece) (a n : ℕ) (ps : List Place) → places pieces a n ≡ Some ps → length ps ≡ n
places-length pieces a zero ps is = grind (arith, common_steps)
places-length pieces a (suc n) ps is = grind (arith, common_steps, places-length pieces (a + 1) n)

writable-length : (pieces : List Piece) (a n : ℕ) (ps : List Place) → writable_places pieces a n ≡ Some ps → length ps ≡ n
writable-length pieces a n ps is = grind (arith, common_steps, places-length pieces a n)

fine-acts : (s : Machine) (n : ℕ) (c : Caller) (call : ProcessCall) → Fine call (acts s n c call)
fine-acts s n c (Shmget key size mode flags) = fine-shmget s n c key size mode flags
fine-acts s n c (Shmat id addr flags) = fine-attaches s n c id addr flags (placed s c id addr flags)
fine-acts s n c (Load addr len) = record { fit = grind (arith, common_steps, places-length c.pieces addr len) }
fine-acts s n c (Exchange new addr) = record { fit = grind (arith, common_steps, writable-length c.pieces addr (length new)) }
fine-acts s n c (CompareExchange expected new addr) = record { fit = grind (arith, common_steps, writable-length c.pieces addr (length new)) }
fine-acts s n c call = record { fit = grind (arith, common_steps) }

fine-by : (s : Machine) (n : ℕ) (call : ProcessCall) (o : Option Caller) → Fine call (step_by s n call o)
fine-by s n call None = refused call s Esrch
fine-by s n call (Some c) = fine-acts s n c call

-- a failure is named by a refusal
failure-refuses : (call : ProcessCall) (r : Reply) → is_failure call r ≡ true → is_refusal r ≡ true
failure-refuses call r h = grind (arith, common_steps)

pub move_fits : (s t : Machine) (n : ℕ) (e : Event) → IsMove s n e t → is_refusal e.reply ≡ false → fits e.call e.reply ≡ true
move_fits s t n e m h = grind (arith, common_steps, (fine-by s n e.call (caller_of s e.pid)).fit, failure-refuses e.call e.reply)
