use Rattle.shm_life.proofs.Names.{◌≡◌, false, ℕ, List, ◌∷◌, ap, sym, ◌∙◌, refl, attach_count, is_orphan, live, segment_seen, live-found, OrphansAmong}
use Rattle.shm_life.proofs.Sweeping.{fewer-left, fewer-destroyed, sweeps-destroyed, left-parts}
use Rattle.shm_life.proofs.sweep.sweep_one.Given.{Over}
use Rattle.shm_life.proofs.sweep.sweep_one.Goals as goal
use Rattle.shm_life.proofs.sweep.sweep_one.Goals.{After-is_orphan}

pub returns-then-is_orphan-clause-sweeps : goal.returns-then-is_orphan-clause-sweeps
returns-then-is_orphan-clause-sweeps g c =
    let t = c.args.segments.now.table in
    let rs = c.args.spaces.now.runners in
    let f = c.in-Some.found in
    let parts = left-parts f.head.dest (attach_count rs f.seg) (sym c.is_orphan.ensures.value ∙ c.if-is_orphan.true) in
    rw (c.destroy.ensures.table, ← c.in-Some.ensures.seg) (sweeps-destroyed rs t f.seg (segment_seen t f) c.in-Some.ensures.found.entry parts.0 parts.1)

-- those that may be left, by the identifier that was found
own : (g : Over) (c : After-is_orphan g) (rest : List ℕ) → OrphansAmong (c.args.seg ∷ rest) c.args.spaces.now.runners c.args.segments.now.table → OrphansAmong (c.in-Some.found.seg ∷ rest) c.args.spaces.now.runners c.args.segments.now.table
own g c rest among = rw c.in-Some.ensures.seg among

pub returns-then-is_orphan-clause-fewer : goal.returns-then-is_orphan-clause-fewer
returns-then-is_orphan-clause-fewer g c = λ rest among.
    let t = c.args.segments.now.table in
    let rs = c.args.spaces.now.runners in
    let own = own g (goal.at.returns-then-is_orphan-clause-fewer g c).After-is_orphan rest among in
    rw (c.destroy.ensures.table, ← c.in-Some.ensures.seg) (fewer-destroyed t c.in-Some.found.seg _ c.in-Some.ensures.found.entry refl rs rest c.requires own)

pub returns-else-is_orphan-clause-fewer : goal.returns-else-is_orphan-clause-fewer
returns-else-is_orphan-clause-fewer g c = λ rest among.
    let t = c.args.segments.now.table in
    let rs = c.args.spaces.now.runners in
    let f = c.in-Some.found in
    let own = own g (goal.at.returns-else-is_orphan-clause-fewer g c).After-is_orphan rest among in
    let none : is_orphan rs f.seg (live t f.seg) ≡ false = ap (is_orphan rs f.seg) (live-found t f c.in-Some.ensures.found) ∙ sym c.is_orphan.ensures.value ∙ c.if-is_orphan.false in
    fewer-left rs t f.seg rest c.requires none own
