use Rattle.shm_ids.proofs.Names.{◌≡◌, ◌+◌, ◌<◌, length, pos, ap, ◌∙◌, arith, common_steps, entry_at}
use Rattle.shm_ids.proofs.Look.{live_at}
use Rattle.shm_ids.proofs.Entries.{at_set}
use Rattle.shm_ids.proofs.Steps.{Sound-destroy, taken_row}
use Rattle.shm_ids.proofs.Counts.{row_count-without_row}
use Rattle.shm_ids.proofs.table.IdTable.destroy.Goals as goal

pub overflow_sub-self : goal.overflow_sub-self
overflow_sub-self g c = grind (arith, common_steps, live_at, row_count-without_row)

pub give_back-requires : goal.give_back-requires
give_back-requires g c = taken_row _ _ _ c.take_row-row.result _ c.self.invariant.0 c.take_row-row.ensures.row

pub invariant_of-self : goal.invariant_of-self
invariant_of-self g c =
    let l = live_at _ (pos c.args.number) (rw (← c.self.view_is) at c.requires.live) in
    let i = c.place_of-index.ensures in
    let within : c.place_of-index.result < length c.self.inside.entries.items = rw i l.within in
    let gone = row_count-without_row c.self.inside.entries.items c.place_of-index.result c.take_row-row.result within c.take_row-row.ensures.row in
    let worn : c.sequence_at.result ≡ (entry_at c.self.inside.entries.items c.place_of-index.result).destroyed + 1 =
    c.sequence_at.ensures ∙ ap (λ t. (entry_at t c.place_of-index.result).destroyed) c.take_row-row.ensures.items ∙ ap (λ e. e.destroyed) (at_set _ _ _ within) in
    rw c.take_row-row.ensures.items (
      Sound-destroy _ _ _ _ c.take_row-row.result c.self.inside.keys _ c.self.invariant.0 within c.take_row-row.ensures.row (rw worn at c.give_back.ensures.given) (omega (arith, c.give_back.ensures.room)) c.drop_key.ensures,
      omega (arith, gone, c.self.invariant.1),
    )
