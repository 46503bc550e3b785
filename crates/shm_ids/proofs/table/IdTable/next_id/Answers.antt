use Rattle.shm_ids.proofs.Names.{◌≡◌, ◌<◌, Some, None, if◌then◌else◌, nat_lt, arith, nat_tests, free_index, id_at, entry_at, identifier, true, false, refl, ap, pos, rules, to_z, of_z, w32, ◌∙◌}
use Rattle.shm_ids.proofs.Free.{least_free}
use Rattle.shm_ids.proofs.Rest.{few_entries}
use Rattle.shm_ids.proofs.Look.{identifier-mod}
use Rattle.shm_ids.proofs.table.IdTable.next_id.Given.{Over}
use Rattle.shm_ids.proofs.table.IdTable.next_id.Goals as goal
use Rattle.shm_ids.proofs.table.IdTable.next_id.Goals.{After-least-index, After-id_of}

-- what was found is the least free index, unless it is past the last
found : (g : Over) (c : After-least-index g) → free_index c.self.inside.entries.items ≡ (if nat_lt c.least-index.result 32768 then Some c.least-index.result else None)
found g c = least_free _ _ c.least-index.result c.self.invariant.0.known c.least-index.ensures (few_entries _ c.self.invariant.0.identifiers)

pub returns-then-index-ge-INDEXES-clause-value : goal.returns-then-index-ge-INDEXES-clause-value
returns-then-index-ge-INDEXES-clause-value g c =
    let f = found g (goal.at.returns-then-index-ge-INDEXES-clause-value g c).After-least-index in
    let past : nat_lt c.least-index.result 32768 ≡ false = grind (arith, nat_tests) in
    rw (← c.self.view_is, f, past) refl

at_least : (g : Over) (c : After-id_of g) → free_index c.self.inside.entries.items ≡ (if nat_lt c.least-index.result 32768 then Some c.least-index.result else None) → (free_index c.self.inside.entries.items ≡ Some c.least-index.result) × (c.id_of.result ≡ id_at c.self.inside.entries.items c.least-index.result) × (c.least-index.result < 32768)
at_least g c f =
    let small : nat_lt c.least-index.result 32768 ≡ true = grind (arith, nat_tests) in
    (f ∙ rw small refl, c.id_of.ensures ∙ ap (λ d. pos (identifier c.least-index.result d)) c.sequence_at.ensures, grind (arith, nat_tests))

pub returns-clause-value : goal.returns-clause-value
returns-clause-value g c =
    let a = at_least g (goal.at.returns-clause-value g c).After-id_of (found g (goal.at.returns-clause-value g c).After-least-index) in
    let signed : to_z w32 (of_z w32 c.id_of.result) ≡ c.id_of.result = search rules in
    rw (signed, ← c.self.view_is, a.0, a.1) refl

pub returns-clause-index : goal.returns-clause-index
returns-clause-index g c =
    let a = at_least g (goal.at.returns-clause-index g c).After-id_of (found g (goal.at.returns-clause-index g c).After-least-index) in
    let signed : to_z w32 (of_z w32 c.id_of.result) ≡ c.id_of.result = search rules in
    let own = identifier-mod c.least-index.result (entry_at c.self.inside.entries.items c.least-index.result).destroyed a.2 in
    rw (signed, ← c.self.view_is, a.0, a.1, own) refl
