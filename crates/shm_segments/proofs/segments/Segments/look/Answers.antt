use Rattle.shm_segments.proofs.Names.{rules, ◌≡◌, to_z, of_z, w32, Removed, Invalid, look, held, joined_table, IsFound, look_of, Err}
use Rattle.shm_segments.proofs.Looking.{found-under, look-removed, look-invalid}
use Rattle.shm_base.specs.Identifier as flat
use Rattle.shm_segments.proofs.segments.Segments.look.Given.{Over}
use Rattle.shm_segments.proofs.segments.Segments.look.Goals as goal
use Rattle.shm_segments.proofs.segments.Segments.look.Goals.{In-Ok}

under : (g : Over) (c : In-Ok g) → IsFound (joined_table (held c.self.inside.store) c.self.inside.table) c.in-Ok.found × (flat.look (joined_table (held c.self.inside.store) c.self.inside.table) c.args.id ≡ look_of (joined_table (held c.self.inside.store) c.self.inside.table) c.in-Ok.found)
under g c =
    let signed : to_z w32 (of_z w32 c.args.id) ≡ c.args.id = search rules in
    let e = c.in-Ok.ensures in
    found-under (held c.self.inside.store) c.self.inside.table c.in-Ok.found c.args.id c.self.invariant.kept.agree c.self.invariant.kept.sizes (rw signed at e.id) (rw signed at e.seg) (rw signed at e.key) (rw signed at e.head)

pub returns-in-Ok-clause-found : goal.returns-in-Ok-clause-found
returns-in-Ok-clause-found g c = rw (← c.self.view_is) (under g c).0

pub returns-in-Ok-clause-ok : goal.returns-in-Ok-clause-ok
returns-in-Ok-clause-ok g c = rw (← c.self.view_is) (under g c).1

pub returns-in-Err-Removed-clause-err : goal.returns-in-Err-Removed-clause-err
returns-in-Err-Removed-clause-err g c =
    let signed : to_z w32 (of_z w32 c.args.id) ≡ c.args.id = search rules in
    let looked : look c.self.inside.table c.args.id ≡ Err Removed = rw (c.in-Err-Removed.is, c.in-Err-Removed.field-0-is, signed) at c.found_under.ensures.err in
    rw (← c.self.view_is) (look-removed (held c.self.inside.store) c.self.inside.table c.args.id looked)

pub returns-in-Err-Invalid-clause-err : goal.returns-in-Err-Invalid-clause-err
returns-in-Err-Invalid-clause-err g c =
    let signed : to_z w32 (of_z w32 c.args.id) ≡ c.args.id = search rules in
    let looked : look c.self.inside.table c.args.id ≡ Err Invalid = rw (c.in-Err-Invalid.is, c.in-Err-Invalid.field-0-is, signed) at c.found_under.ensures.err in
    rw (← c.self.view_is) (look-invalid (held c.self.inside.store) c.self.inside.table c.args.id looked)
