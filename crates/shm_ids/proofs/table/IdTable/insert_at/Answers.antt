use Rattle.shm_ids.proofs.Names.{◌+◌, ◌≤◌, Sound, ◌≡◌, refl, ap, ◌∙◌, arith, rules, common_steps, to_z, of_z, w32, index_of}
use Rattle.shm_ids.proofs.Entries.{with_row-few}
use Rattle.shm_ids.proofs.Steps.{SameIndexes, Sound-same, Sound-put, Next, next, least_next}
use Rattle.shm_ids.proofs.Rest.{few_entries}
use Rattle.shm_ids.proofs.Look.{look-id_at}
use Rattle.shm_ids.proofs.Counts.{row_count-with_row, row_count-le-length}
use Rattle.shm_ids.proofs.table.IdTable.insert_at.Given.{Over}
use Rattle.shm_ids.proofs.table.IdTable.insert_at.Goals as goal
use Rattle.shm_ids.proofs.table.IdTable.insert_at.Goals.{After-reserve}

-- the index that the identifier names is the least free one
at_index : (g : Over) (c : After-reserve g) → Next c.self.inside.entries.items c.args.id c.index_in-index.result
at_index g c =
    let signed : to_z w32 (of_z w32 c.args.id) ≡ c.args.id = search rules in
    let i : c.index_in-index.result ≡ index_of c.args.id = c.index_in-index.ensures ∙ ap index_of signed in
    rw i (next _ _ _ _ c.self.invariant.0 (rw (← c.self.view_is) at c.requires.next))

pub put_row-requires-clause-within : goal.put_row-requires-clause-within
put_row-requires-clause-within g c = rw c.room_at.ensures.items (at_index g (goal.at.put_row-requires-clause-within g c).After-reserve).fresh.within

pub put_key-requires-clause-small : goal.put_key-requires-clause-small
put_key-requires-clause-small g c = (at_index g (goal.at.put_key-requires-clause-small g c).After-reserve).fresh.small

pub overflow_add-self : goal.overflow_add-self
overflow_add-self g c = grind (arith, common_steps, row_count-le-length)

pub returns-then-is_err-clause-fresh : goal.returns-then-is_err-clause-fresh
returns-then-is_err-clause-fresh g c =
    let n = at_index g (goal.at.returns-then-is_err-clause-fresh g c).After-reserve in
    rw (← c.self.view_is, n.is, look-id_at _ _ n.fresh.small, n.fresh.row) refl

pub returns-clause-fresh : goal.returns-clause-fresh
returns-clause-fresh g c =
    let n = at_index g (goal.at.returns-clause-fresh g c).After-reserve in
    rw (← c.self.view_is, n.is, look-id_at _ _ n.fresh.small, n.fresh.row) refl

pub returns-clause-ok : goal.returns-clause-ok
returns-clause-ok g c =
    let n = at_index g (goal.at.returns-clause-ok g c).After-reserve in
    rw (← c.self.view_is, n.found, n.is, c.put_row.ensures.items, c.room_at.ensures.items) refl

-- the numbers with room for it
same : (g : Over) (c : After-reserve g) → SameIndexes c.self.inside.indexes c.reserve.new.self
same g c = record { taken = c.reserve.ensures.same; room = c.reserve.ensures.kept }

reserved : (g : Over) (c : After-reserve g) → Sound c.self.inside.entries.items c.reserve.new.self c.self.inside.keys
reserved g c = Sound-same _ _ _ _ _ _ c.self.invariant.0 (same g c) refl (λ q. refl)

pub invariant_of-self-then-is_err-3 : goal.invariant_of-self-then-is_err-3
invariant_of-self-then-is_err-3 g c =
    let s = same g (goal.at.invariant_of-self-then-is_err-3 g c).After-reserve in
    (Sound-same _ _ _ _ _ _ c.self.invariant.0 s c.room_at.ensures.items c.room_for.ensures.keys, rw c.room_at.ensures.items c.self.invariant.1)

pub take-requires : goal.take-requires
take-requires g c = λ n least.
    let at = (goal.at.take-requires g c).After-reserve in
    let i = least_next _ _ n _ _ (reserved g at) least (at_index g at).found in
    let room : c.index_in-index.result + 1 ≤ c.reserve.new.self.room = grind (arith, common_steps) in
    omega (arith, i, room)

pub invariant_of-self-2 : goal.invariant_of-self-2
invariant_of-self-2 g c =
    let at = (goal.at.invariant_of-self-2 g c).After-reserve in
    let n = at_index g at in
    let f = n.fresh in
    let i : c.take.result ≡ c.index_in-index.result = least_next _ _ c.take.result _ _ (reserved g at) c.take.ensures.least n.found in
    let room : c.index_in-index.result + 1 ≤ c.reserve.new.self.room = grind (arith, common_steps) in
    let more = row_count-with_row c.self.inside.entries.items c.index_in-index.result c.args.key c.args.value f.within f.row in
    rw (c.put_row.ensures.items, c.room_at.ensures.items) (
      Sound-put _ c.reserve.new.self c.take.new.self c.index_in-index.result c.args.key c.args.value c.room_for.new.keys _
          (Sound-same _ _ _ _ _ _ c.self.invariant.0 (same g at) refl c.room_for.ensures.keys) f (rw c.self.view_is c.requires.absent)
          (rw i at c.take.ensures.taken) (omega (arith, room, c.take.ensures.room)) (omega (arith, c.take.ensures.room)) c.put_key.ensures,
      omega (arith, more, c.self.invariant.1),
    )

pub returns-clause-few : goal.returns-clause-few
returns-clause-few g c =
    let f = (at_index g (goal.at.returns-clause-few g c).After-reserve).fresh in
    rw (c.put_row.ensures.items, c.room_at.ensures.items) (with_row-few _ _ _ _ f.within f.small (few_entries _ c.self.invariant.0.identifiers))
