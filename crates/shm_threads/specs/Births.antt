-- The processes that are born and those that have left.
use Rattle.std.specs.Prelude.{◌==◌, ◌&&◌, ℕ, Bool, true, false, not, List, map, if◌then◌else◌}
use Rattle.std.specs.List.{list_any}
use Rattle.shm_threads.specs.declared.births.ProcessState.{ProcessState}
use Rattle.shm_threads.specs.declared.strand.Made.{Made}
use Rattle.shm_threads.specs.declared.strand.Made.TheVariants.{Birth, End, Nothing}

abbrev pub with_birth : ℕ → ProcessState → ProcessState
with_birth pid p = if p.pid == pid then record p { is_born = true } else p

abbrev pub with_end : ℕ → ProcessState → ProcessState
with_end pid p = if p.pid == pid then record p { has_ended = true } else p

abbrev pub is_born_in : ℕ → List ProcessState → Bool
is_born_in pid ps = list_any (λ (p : ProcessState). p.pid == pid && p.is_born) ps

-- some process is born and has not left, so it may fork
abbrev pub may_fork_in : List ProcessState → Bool
may_fork_in ps = list_any (λ (p : ProcessState). p.is_born && not p.has_ended) ps

-- the states of the processes after a call: the child of a successful fork is born
abbrev pub births_after : Made → List ProcessState → List ProcessState
births_after (Birth child) ps = map (with_birth child) ps
births_after End ps = ps
births_after Nothing ps = ps

-- that is news for waiting threads
abbrev pub is_birth : Made → Bool
is_birth (Birth child) = true
is_birth End = false
is_birth Nothing = false
