use Rattle.shm_life.proofs.Names.{◌≡◌, ◌≤◌, count_by, take, is_away}
use Rattle.shm_life.proofs.residency.away_among.Given as goal

abbrev pub invariant-loop-owner : goal.invariant-loop-owner
invariant-loop-owner g l =
    (l.count ≡ count_by (is_away l.fn.store l.fn.seg) (take l.owner-index l.fn.owners)) × (l.count ≤ l.owner-index)
