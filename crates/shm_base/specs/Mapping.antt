-- A process unmaps a range of its addresses (munmap(2)), or protects one (mprotect(2)). Lengths are rounded up to whole pages.
use Rattle.std.specs.Prelude.{ℕ, zero, suc, ◌+◌, ◌-◌, ◌*◌, ◌/◌, ◌%◌, ◌^◌, Bool, not, ◌&&◌, ◌==◌, nat_le, nat_lt, min, if◌then◌else◌, List, [], ◌∷◌, length, Option, Some, None, Result, Ok, Err}
use Rattle.std.specs.List.{flat_map}
use Rattle.shm_base.specs.State.{Entry, Piece, Machine, pages_of}
use Rattle.shm_base.specs.Access.{end_of}
use Rattle.shm_base.specs.Space.{end_address, covering, inserted, parts, cut, cut_segments, rest_segments}
use Rattle.shm_base.specs.Rules.{rest_is_attached}
use Rattle.shm_base.specs.Segments.{attach_all, detach_all, swept}
use Rattle.shm_base.specs.Callers.{Outcome, gives, refuses, Caller, with_pieces}
use Rattle.shm_base.specs.declared.errno.Errno.{Errno}
use Rattle.shm_base.specs.declared.errno.Errno.TheVariants.{Einval, Enomem, Eacces}
use Rattle.shm_base.specs.declared.call.Reply.{Reply}
use Rattle.shm_base.specs.declared.call.Reply.TheVariants.{Done, Refused}
use Rattle.shm_base.specs.declared.paging.TheConstants.{PAGE_SIZE}

abbrev pub rounded : ℕ → ℕ
rounded len = PAGE_SIZE * pages_of len

-- UNMAP

-- the segments that lost a part of a piece to the range, if a rule attaches the rest anew
abbrev pub rests : Machine → ℕ → ℕ → List Piece → List ℕ
rests s from to ps = if rest_is_attached s.limits.rules then rest_segments from to ps else []

-- the address at which the unmapped range ends, or the refusal
abbrev pub unmapped_to : ℕ → ℕ → Result ℕ Errno
unmapped_to addr len =
    if not (addr % PAGE_SIZE == 0) then Err Einval else
    if len == 0 then Err Einval else
    if nat_lt end_address (addr + len) then Err Einval else
    Ok (addr + rounded len)

-- the table after a range was taken out: its segments are detached, and those with a rest may be attached anew
abbrev pub after_cut : Machine → ℕ → Caller → ℕ → ℕ → List Entry
after_cut s n c from to =
    attach_all n c.pid (detach_all n c.pid s.table (cut_segments from to c.pieces)) (rests s from to c.pieces)

-- takes the range out, as a remap does; refused if too many pieces would be left
abbrev pub unmaps : Machine → ℕ → Caller → ℕ → Result ℕ Errno → Outcome
unmaps s n c from (Err e) = refuses s e
unmaps s n c from (Ok to) =
    if nat_lt s.limits.most_pieces (length (cut from to c.pieces)) then refuses s Enomem else
    let rs = with_pieces s.runners c (cut from to c.pieces) in
    gives (record s { table = swept rs (after_cut s n c from to); runners = rs }) Done

abbrev pub munmap : Machine → ℕ → Caller → ℕ → ℕ → Outcome
munmap s n c addr len = unmaps s n c addr (unmapped_to addr len)

-- PROTECT

-- q ends where p begins, and both are parts of one attach
abbrev pub goes_on : Piece → Piece → Bool
goes_on q p =
    (end_of q == p.base) && (q.seg == p.seg) && (q.base + PAGE_SIZE * p.first_page == p.base + PAGE_SIZE * q.first_page)

abbrev pub has_protection : Bool → Piece → Bool
has_protection w p = if w then p.writable else not p.writable

-- where the changed part begins, if it is the beginning of p: the piece below joins if it has this protection already
abbrev pub joined_below : Bool → Piece → Option Piece → ℕ
joined_below w p None = p.base
joined_below w p (Some q) = if goes_on q p && has_protection w q then q.base else p.base

-- where the changed part ends, if it is the end of p: the piece above joins if it has this protection already
abbrev pub joined_above : Bool → Piece → Option Piece → ℕ
joined_above w p None = end_of p
joined_above w p (Some q) = if goes_on p q && has_protection w q then end_of q else end_of p

-- The range of addresses that one step protects: from `at` to `to`, or to the end of the piece p. If that is a part of p, a
-- neighbour of the same attach with this protection joins it; a whole piece stays one of its own
abbrev pub low_end : Bool → ℕ → ℕ → Piece → List Piece → ℕ
low_end w at to p ps = if (at == p.base) && nat_lt to (end_of p) then joined_below w p (covering (at - 1) ps) else at

abbrev pub high_end : Bool → ℕ → ℕ → Piece → List Piece → ℕ
high_end w at to p ps = if nat_lt p.base at && nat_le (end_of p) to then joined_above w p (covering (end_of p) ps) else min to (end_of p)

-- the part of an attach between two addresses, with this protection
abbrev pub part_between : Bool → ℕ → ℕ → Piece → Piece
part_between w low high p =
    record p {
      base = low;
      first_page = (PAGE_SIZE * p.first_page + low - p.base) / PAGE_SIZE;
      pages = (high - low) / PAGE_SIZE;
      writable = w;
    }

-- the pieces without the range; only those of one segment are cut
abbrev pub own_cut : ℕ → ℕ → ℕ → List Piece → List Piece
own_cut id low high ps = flat_map (λ (p : Piece). if p.seg == id then parts low high p else p ∷ []) ps

abbrev pub replaced : Bool → ℕ → ℕ → Piece → List Piece → List Piece
replaced w low high p ps = inserted (part_between w low high p) (own_cut p.seg low high ps)

abbrev pub turned : Bool → ℕ → ℕ → Piece → List Piece → List Piece
turned w at to p ps = replaced w (low_end w at to p ps) (high_end w at to p ps) p ps

-- the pieces afterwards, the segments that got one more piece, and the refusal at which it stopped
pub record Protected : Type 0 where
  pub pieces : List Piece
  pub split : List ℕ
  pub refusal : Option Errno

abbrev pub stopped : List Piece → Errno → Protected
stopped ps e = record { pieces = ps; split = []; refusal = Some e }

abbrev pub ended : List Piece → Protected
ended ps = record { pieces = ps; split = []; refusal = None }

-- names the segment if the change made one more piece
abbrev pub with_split : ℕ → List Piece → List Piece → Protected → Protected
with_split id before after x = if nat_lt (length before) (length after) then record x { split = id ∷ x.split } else x

-- protects the piece at `at`, if there is one, and continues with `next` after its end
abbrev pub protects_piece : ℕ → Bool → ℕ → ℕ → List Piece → (ℕ → List Piece → Protected) → Option Piece → Protected
protects_piece most w at to ps next None = stopped ps Enomem
protects_piece most w at to ps next (Some p) =
    if w && not p.may_write then stopped ps Eacces else
    if has_protection w p then next (end_of p) ps else
    if nat_lt most (length (turned w at to p ps)) then stopped ps Enomem else
    with_split p.seg ps (turned w at to p ps) (next (end_of p) (turned w at to p ps))

-- up the range piece by piece, at most `k` of them; everything below a refusal stays changed
abbrev pub protects_from : ℕ → ℕ → Bool → ℕ → ℕ → List Piece → Protected
protects_from zero most w to at ps = ended ps
protects_from (suc k) most w to at ps =
    if nat_le to at then ended ps else
    protects_piece most w at to ps (protects_from k most w to) (covering at ps)

abbrev pub protects_pieces : ℕ → Bool → ℕ → ℕ → List Piece → Protected
protects_pieces most w addr len ps =
    if not (addr % PAGE_SIZE == 0) then stopped ps Einval else
    if len == 0 then ended ps else
    if nat_le (2 ^ 64) (addr + rounded len) then stopped ps Enomem else
    protects_from (pages_of len) most w (addr + rounded len) addr ps

-- the table after pieces were split; a rule may attach their segments anew
abbrev pub after_split : Machine → ℕ → Caller → List ℕ → List Entry
after_split s n c ids = if rest_is_attached s.limits.rules then attach_all n c.pid s.table ids else s.table

abbrev pub done_or : Option Errno → Reply
done_or None = Done
done_or (Some e) = Refused e

-- the one call that changes something when it is refused: the pieces below the refusal keep their new protection
abbrev pub protects : Machine → ℕ → Caller → Protected → Outcome
protects s n c x =
    record {
      reply = done_or x.refusal;
      state = record s { table = after_split s n c x.split; runners = with_pieces s.runners c x.pieces };
    }

abbrev pub mprotect : Machine → ℕ → Caller → ℕ → ℕ → Bool → Outcome
mprotect s n c addr len w = protects s n c (protects_pieces s.limits.most_pieces w addr len c.pieces)
