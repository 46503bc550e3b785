-- Callers: live processes, with what a call of one leaves.
use Rattle.std.specs.Prelude.{ℕ, ◌+◌, ◌==◌, if◌then◌else◌, List, [], ◌∷◌, Option, Some, None, slice_set}
use Rattle.shm_base.specs.declared.owner.Cred.{Cred}
use Rattle.shm_base.specs.declared.errno.Errno.{Errno}
use Rattle.shm_base.specs.declared.call.Reply.{Reply}
use Rattle.shm_base.specs.declared.call.Reply.TheVariants.{Refused}
use Rattle.shm_base.specs.State.{Piece, Life, Unborn, Live, Ended, Runner, Machine}

-- a reply, and the state that the call leaves
pub record Outcome : Type 0 where
  pub reply : Reply
  pub state : Machine

abbrev pub gives : Machine → Reply → Outcome
gives s r = record { reply = r; state = s }

-- a refused call changes nothing
abbrev pub refuses : Machine → Errno → Outcome
refuses s e = record { reply = Refused e; state = s }

-- a live process, with its position in the list of processes
pub record Caller : Type 0 where
  pub index : ℕ
  pub pid : ℕ
  pub cred : Cred
  pub pieces : List Piece

abbrev pub caller_by : ℕ → ℕ → List Piece → Life → Option Caller
caller_by i pid pieces Unborn = None
caller_by i pid pieces (Live cred) = Some (record { index = i; pid = pid; cred = cred; pieces = pieces })
caller_by i pid pieces Ended = None

abbrev pub caller_from : ℕ → ℕ → List Runner → Option Caller
caller_from i pid [] = None
caller_from i pid (r ∷ rs) = if r.pid == pid then caller_by i pid r.pieces r.life else caller_from (i + 1) pid rs

abbrev pub caller_of : Machine → ℕ → Option Caller
caller_of s pid = caller_from 0 pid s.runners

-- the processes, with these pieces for the caller
abbrev pub with_pieces : List Runner → Caller → List Piece → List Runner
with_pieces rs c ps = slice_set rs c.index (record { pid = c.pid; life = Live c.cred; pieces = ps })

-- the processes, where the caller has ended
abbrev pub with_end : List Runner → Caller → List Runner
with_end rs c = slice_set rs c.index (record { pid = c.pid; life = Ended; pieces = [] })

-- the processes, with other credentials for the caller
abbrev pub with_cred : List Runner → Caller → Cred → List Runner
with_cred rs c cred = slice_set rs c.index (record { pid = c.pid; life = Live cred; pieces = c.pieces })
