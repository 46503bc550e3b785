-- The process of a caller.
use Rattle.shm_laws.proofs.Names.{◌≡◌, ℕ, Some, slice_get, Live, Machine, Caller, caller_of, caller-at}

pub caller-there : (s : Machine) (pid : ℕ) (c : Caller) → caller_of s pid ≡ Some c → slice_get s.runners c.index ≡ Some (record { pid = c.pid; life = Live c.cred; pieces = c.pieces })
caller-there s pid c found = let at = caller-at pid s.runners c found in rw at.own at.there
