-- Accesses of bytes by a process.
use Rattle.std.specs.Prelude.{ℕ, ◌≡◌, ◌==◌, Bool, true, if◌then◌else◌, List, [], ◌∷◌, length, Option, Some, None, Result, Err, is_some, IfErr, OnOk, OnErr}
use Rattle.std.specs.Int.{w64, from_le_bytes}
use Rattle.shm_base.specs.Access.{Place, loaded}
use Rattle.shm_base.specs.Callers.{Caller}
use Rattle.shm_base.specs.Calls.{ProcessCall}
use Rattle.shm_base.specs.declared.call.Call.TheVariants.{Load, Store, Xadd, Exchange, CompareExchange}
use Rattle.shm_base.specs.declared.call.Reply.{Reply}
use Rattle.shm_base.specs.declared.call.Reply.TheVariants.{Bytes, Number, Done}
use Rattle.shm_base.specs.declared.errno.Errno.{Errno}
use Rattle.shm_base.specs.declared.errno.Errno.TheVariants.{Esrch, Sigbus, Sigsegv}
use Rattle.shm_base.specs.declared.paging.Span.{Span}
use Rattle.shm_base.specs.State.{Entry}
use Rattle.shm_attach.specs.Spans.{wanted_in}
use Rattle.shm_fault.specs.Acting.{place_after, put_by, size_of, writes}
use Rattle.shm_fault.specs.declared.act.Act.{Act}
use Rattle.shm_fault.specs.declared.act.Act.TheVariants.{Nothing, Put, PutIfEqual, Add}
use Rattle.shm_segments.specs.Table.{table_with}
use Rattle.shm_slots.specs.Cause.{had_cause}
use Rattle.shm_fault.specs.Store.{StoreView}
use Rattle.shm_segments.specs.View.{KeepsMemory}
use Rattle.shm_life.specs.MachineView.{MachineView}
use Rattle.shm_life.specs.Paging.{ComeIn, ComeInUpTo, page_spans}

-- the span of an access to one page, if the page's frame is known
abbrev pub sole_resident : List Span → Option Span
sole_resident [] = None
sole_resident (p ∷ []) = if is_some p.frame then Some p else None
sole_resident (p ∷ q ∷ ps) = None

-- a pager failed: the error is SIGBUS, and it has a cause
pub record IsBusError (e : Errno) (before after : StoreView) : Type 0 where
  pub told : e ≡ Sigbus
  pub cause : had_cause before.swap after.swap ≡ true

-- an access of these pages that was to leave this table: it did, or a pager failed and the flat machine is as it was
pub record LeavesOrFails
    {T : Type 0} (table : List Entry) (puts : Bool) (ps : List Span) (before : MachineView) (r : Result T Errno)
    (after : MachineView) : Type 0 where
  pub written : OnOk r (after.flat ≡ record before.flat { table = table })
  pub same : OnErr r (after.flat ≡ before.flat)
  pub keeps : KeepsMemory before.memory after.memory
  pub err : IfErr r (λ e. IsBusError e before.memory after.memory)
  pub came : OnOk r (ComeIn puts ps before.memory after.memory)
  pub stopped : OnErr r (ComeInUpTo ps before.memory after.memory)

-- An act at these places was done, or a pager failed and no byte changed. If it was done and the place for the old bytes is as long
-- as they are, it has them.
pub record Does
    (act : Act) (places : List Place) (before after : List ℕ) (s : MachineView) (r : Result (Unit {0}) Errno)
    (t : MachineView) : Type 0 where
  pub there : OnOk r (after ≡ place_after (size_of act (length before)) (loaded s.flat.table places) before)
  pub kept : OnErr r (after ≡ before)
  pub leaves :
      let put = put_by act (loaded s.flat.table places) in
      LeavesOrFails (table_with s.flat.table places put) (is_some put) (page_spans places) s r t

-- nothing was done, for this reason
abbrev pub Refuses : Errno → List ℕ → List ℕ → MachineView → Result (Unit {0}) Errno → MachineView → Type 0
Refuses e before after s r t = (r ≡ Err e) × ((after ≡ before) × (t ≡ s))

abbrev pub DoesAt :
    Act → Option (List Place) → List ℕ → List ℕ → MachineView → Result (Unit {0}) Errno → MachineView → Type 0
DoesAt act None before after s r t = Refuses Sigsegv before after s r t
DoesAt act (Some places) before after s r t = Does act places before after s r t

abbrev pub DoesFor :
    Act → ℕ → Option Caller → List ℕ → List ℕ → MachineView → Result (Unit {0}) Errno → MachineView → Type 0
DoesFor act addr None before after s r t = Refuses Esrch before after s r t
DoesFor act addr (Some c) before after s r t =
    DoesAt act (wanted_in (writes act) c.pieces addr (size_of act (length before))) before after s r t

-- a process, if it is live, did an act at the bytes from an address on
pub record DoesBy
    (act : Act) (addr : ℕ) (who : Option Caller) (before after : List ℕ) (s : MachineView)
    (r : Result (Unit {0}) Errno) (t : MachineView) : Type 0 where
  pub by : DoesFor act addr who before after s r t

-- The call that an act at the bytes from an address on is, if the place for the old bytes has room for this many. Who puts bytes
-- and has room for the old ones exchanges them.
abbrev pub call_of : Act → ℕ → ℕ → ProcessCall
call_of Nothing addr room = Load addr room
call_of (Put bytes) addr room = if length bytes.now == room then Exchange bytes.now addr else Store bytes.now addr
call_of (PutIfEqual expected bytes) addr room = CompareExchange expected.now bytes.now addr
call_of (Add more) addr room = Xadd addr more

-- the reply to that call, with these old bytes
abbrev pub reply_of : Act → ℕ → List ℕ → Reply
reply_of Nothing room old = Bytes old
reply_of (Put bytes) room old = if length bytes.now == room then Bytes old else Done
reply_of (PutIfEqual expected bytes) room old = Bytes old
reply_of (Add more) room old = Number (from_le_bytes w64 old)
