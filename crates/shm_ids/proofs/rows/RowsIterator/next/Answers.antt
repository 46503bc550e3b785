use Rattle.shm_ids.proofs.Names.{◌∙◌, arith}
use Rattle.shm_ids.proofs.Rest.{identifiers_rest, identifiers_wear, passed}
use Rattle.shm_ids.proofs.rows.RowsIterator.next.Goals as goal

pub id_of-requires-clause-sequence : goal.id_of-requires-clause-sequence
id_of-requires-clause-sequence g c =
    let wear = rw c.in-Some-row.is at (identifiers_wear _ _ c.in-Some.entry.now c.in-Some.rest.now c.in-Some.ensures.cases.0 c.loop-entry.invariant.0) in
    omega (arith, wear)

pub invariant_of-self : goal.invariant_of-self
invariant_of-self g c = identifiers_rest _ _ c.in-Some.entry.now c.in-Some.rest.now c.in-Some.ensures.cases.0 c.loop-entry.invariant.0

pub loop-entry-preserved : goal.loop-entry-preserved
loop-entry-preserved g c = (
  identifiers_rest _ _ c.in-Some.entry.now c.in-Some.rest.now c.in-Some.ensures.cases.0 c.loop-entry.invariant.0,
  passed _ _ c.in-Some.entry.now c.in-Some.rest.now c.in-Some.ensures.cases.0 c.in_default-row.is ∙ c.loop-entry.invariant.1,
)
