-- The number by which a list of replies is hashed.
use Rattle.std.specs.Prelude.{ℕ, ◌+◌, ◌*◌, ◌%◌, ◌^◌, List, [], ◌∷◌}
use Rattle.std.specs.Hash as fed
use Rattle.shm_base.specs.declared.call.Reply.{Reply}
use Rattle.shm_base.specs.declared.call.Reply.TheVariants.{Bytes, Number}

abbrev pub mixed : ℕ → ℕ → ℕ
mixed h x = ((h + x) % 2 ^ 64) * 6364136223846793005 % 2 ^ 64

abbrev pub with_bytes : ℕ → List ℕ → ℕ
with_bytes h [] = h
with_bytes h (b ∷ bytes) = with_bytes (mixed h b) bytes

abbrev pub with_reply : ℕ → Reply → ℕ
with_reply h (Bytes bytes) = with_bytes h bytes
with_reply h (Number n) = mixed h n
with_reply h reply = mixed h 1

abbrev pub with_replies : ℕ → List Reply → ℕ
with_replies h [] = mixed h 257
with_replies h (r ∷ replies) = with_replies (with_reply h r) replies

-- the digest of one process's replies
abbrev pub list_digest : List Reply → ℕ
list_digest replies = with_replies 1 replies

-- what a hasher is fed for one process's replies
abbrev pub list_hash : List Reply → fed.HashWrites
list_hash replies = fed.u64 (list_digest replies)

-- and for an outcome
abbrev pub outcome_hash : List (List Reply) → fed.HashWrites
outcome_hash outcome = fed.slice list_hash outcome
