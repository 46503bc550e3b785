use Rattle.shm_segments.proofs.Names.{rules, ◌≡◌, pos, Some, sym, ◌∙◌, to_z, of_z, w32, arith, entry_at, identifier, row_listed, held, common_steps}
use Rattle.shm_segments.proofs.Finding.{listed-row, unlisted-row, found_at, none-at}
use Rattle.shm_segments.proofs.segments.Segments.at.Goals as goal

pub returns-in-Some-clause-found : goal.returns-in-Some-clause-found
returns-in-Some-clause-found g c =
    let e = entry_at c.self.inside.table c.args.index in
    let listed : row_listed c.args.index e ≡ Some (c.in-Some.id, (c.in-Some.key, c.in-Some.head.now)) = sym (rw c.in-Some.is at c.row_at.ensures) in
    let r = listed-row c.args.index e (c.in-Some.id, (c.in-Some.key, c.in-Some.head.now)) listed in
    let signed : to_z w32 (of_z w32 c.in-Some.id) ≡ c.in-Some.id = search rules in
    let id : to_z w32 (of_z w32 c.in-Some.id) ≡ pos (identifier c.args.index e.destroyed) = signed ∙ r.1 in
    rw (← c.self.view_is, id)
    (found_at (held c.self.inside.store) c.self.inside.table c.args.index (record { key = c.in-Some.key; value = c.in-Some.head.now }) c.self.invariant.kept.agree c.self.invariant.kept.sizes r.0)

pub returns-in-None-clause-none : goal.returns-in-None-clause-none
returns-in-None-clause-none g c = grind (arith, common_steps, c.args.index, c.in-None.is, c.row_at.ensures, c.self.view_is, none-at, unlisted-row)
