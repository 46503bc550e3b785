-- Changes that the host makes between calls: a process joins or leaves, and a range is reserved or released. They are not calls.
use Rattle.std.specs.Prelude.{ℕ, ◌+◌, ◌%◌, ◌==◌, ◌&&◌, ◌||◌, nat_lt, Bool, true, false, not, nat_le, if◌then◌else◌, List, [], ◌∷◌, ◌++◌, length, Option, Some, None, Result, Ok, Err, slice_set, swap_remove, remove}
use Rattle.shm_base.specs.Bounds.{within}
use Rattle.shm_base.specs.Callers.{Caller, caller_of}
use Rattle.shm_base.specs.Space.{lowest_address, end_address, occupied, is_reserved, ranges_of}
use Rattle.shm_base.specs.State.{Life, Unborn, Live, Ended, Runner, Machine, runner_at_start}
use Rattle.shm_base.specs.declared.bounds.TheConstants.{LAST_PID}
use Rattle.shm_base.specs.declared.paging.TheConstants.{PAGE_SIZE}
use Rattle.shm_base.specs.declared.call.Process.{Process}
use Rattle.shm_base.specs.declared.guest.AdmitRefusal.{AdmitRefusal}
use Rattle.shm_base.specs.declared.guest.AdmitRefusal.TheVariants.{BadPid, PidTaken, TooManyProcesses}
use Rattle.shm_base.specs.declared.guest.DismissRefusal.{DismissRefusal}
use Rattle.shm_base.specs.declared.guest.HostRange.{HostRange}
use Rattle.shm_base.specs.declared.guest.RangeRefusal.{RangeRefusal}
use Rattle.shm_base.specs.declared.guest.RangeRefusal.TheVariants.{BadRange, RangeTaken, NoRange}
use Rattle.shm_base.specs.declared.guest.DismissRefusal.TheVariants.{NoProcess, StillLive}

-- a process with its position in the list of processes
pub record Standing : Type 0 where
  pub index : ℕ
  pub runner : Runner

-- the process with a pid, whether it is live or not
abbrev pub standing_from : ℕ → ℕ → List Runner → Option Standing
standing_from i pid [] = None
standing_from i pid (r ∷ rs) = if r.pid == pid then Some (record { index = i; runner = r }) else standing_from (i + 1) pid rs

abbrev pub standing : ℕ → List Runner → Option Standing
standing pid rs = standing_from 0 pid rs

abbrev pub is_live : Life → Bool
is_live Unborn = false
is_live (Live cred) = true
is_live Ended = false

abbrev pub is_ended : Life → Bool
is_ended Unborn = false
is_ended (Live cred) = false
is_ended Ended = true

-- A PROCESS JOINS

abbrev pub joins_beside : ℕ → Process → List Runner → Option Standing → Result (List Runner) AdmitRefusal
joins_beside most p rs None = if nat_le most (length rs) then Err TooManyProcesses else Ok (rs ++ runner_at_start p ∷ [])
joins_beside most p rs (Some x) = if not (is_ended x.runner.life) then Err PidTaken else Ok (slice_set rs x.index (runner_at_start p))

-- a new process joins at the end of the list, which has at most `most` processes; if an ended one has its pid, it takes that
-- one's position. It has no piece; it is live with its credentials, or a child that is not born yet
abbrev pub joins : ℕ → Process → List Runner → Result (List Runner) AdmitRefusal
joins most p rs = if not (within 1 LAST_PID p.pid) then Err BadPid else joins_beside most p rs (standing p.pid rs)

-- A PROCESS LEAVES

abbrev pub leaves_found : List Runner → Option Standing → Result (List Runner) DismissRefusal
leaves_found rs None = Err NoProcess
leaves_found rs (Some x) = if is_live x.runner.life then Err StillLive else Ok (swap_remove rs x.index x.runner)

-- a process that ended, or a child that is not born yet, leaves, and the last process of the list takes its position
abbrev pub leaves : ℕ → List Runner → Result (List Runner) DismissRefusal
leaves pid rs = leaves_found rs (standing pid rs)

-- THE MACHINE

-- the second value if the first is a success, else the first one's refusal
abbrev pub left_by : {T E X : Type 0} → Result T E → X → Result X E
left_by (Ok t) x = Ok x
left_by (Err e) x = Err e

abbrev pub with_runners : {E : Type 0} → Machine → Result (List Runner) E → Result Machine E
with_runners s (Ok rs) = Ok (record s { runners = rs })
with_runners s (Err e) = Err e

abbrev pub admits : Machine → Process → Result Machine AdmitRefusal
admits s p = with_runners s (joins s.limits.most_processes p s.runners)

abbrev pub dismisses : Machine → ℕ → Result Machine DismissRefusal
dismisses s pid = with_runners s (leaves pid s.runners)

-- RESERVED RANGES

-- whole pages of the addresses that can be attached, at least one
abbrev pub is_range : HostRange → Bool
is_range r =
    (r.from % PAGE_SIZE == 0) && (r.to % PAGE_SIZE == 0)
    && nat_lt r.from r.to
    && nat_le lowest_address r.from && nat_le r.to end_address

abbrev pub meets_piece : HostRange → Option Caller → Bool
meets_piece r None = false
meets_piece r (Some c) = occupied c.pieces r.from r.to

abbrev pub is_range_taken : Machine → HostRange → Bool
is_range_taken s r = meets_piece r (caller_of s r.pid) || is_reserved (ranges_of r.pid s.host_ranges) r.from r.to

-- the range is reserved for its process, of which nothing is asked: it may be born later
abbrev pub reserves : Machine → HostRange → Result Machine RangeRefusal
reserves s r =
    if not (is_range r) then Err BadRange else
    if is_range_taken s r then Err RangeTaken else
    Ok (record s { host_ranges = s.host_ranges ++ r ∷ [] })

abbrev pub is_same_range : HostRange → HostRange → Bool
is_same_range q r = (q.pid == r.pid) && (q.from == r.from) && (q.to == r.to)

-- the position of a reserved range
abbrev pub position_from : ℕ → HostRange → List HostRange → Option ℕ
position_from i r [] = None
position_from i r (q ∷ qs) = if is_same_range q r then Some i else position_from (i + 1) r qs

abbrev pub releases_at : Machine → Option ℕ → Result Machine RangeRefusal
releases_at s None = Err NoRange
releases_at s (Some i) = Ok (record s { host_ranges = remove s.host_ranges i })

-- exactly this range is no longer reserved
abbrev pub releases : Machine → HostRange → Result Machine RangeRefusal
releases s r = releases_at s (position_from 0 r s.host_ranges)
