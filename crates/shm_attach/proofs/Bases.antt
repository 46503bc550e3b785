-- There is room for a new piece where it is placed.
use Rattle.shm_attach.proofs.Names.{◌+◌, ◌*◌, ◌≤◌, List, length, arith, common_steps, cut, IsRange, IsPlaceFor, MOST_PIECES, MOST_SHMALL}
use Rattle.shm_base.specs.State.{Piece}
use Rattle.shm_attach.proofs.Keeping.{occupied-cut}

pub place-range : (p : Piece) (ps : List Piece) → 1 ≤ p.pages → p.first_page + p.pages ≤ MOST_SHMALL → IsRange p.pages p.base → length (cut p.base (p.base + 4096 * p.pages) ps) + 1 ≤ MOST_PIECES
    → IsPlaceFor p (cut p.base (p.base + 4096 * p.pages) ps)
place-range p ps some few range room = grind (arith, common_steps, occupied-cut)
