use Rattle.shm_ids.proofs.Names.{◌∙◌, ◌<◌, length, pos, sym, get_or_read, unused}
use Rattle.shm_ids.proofs.Look.{live_at}
use Rattle.shm_ids.proofs.Steps.{Sound-value}
use Rattle.shm_ids.proofs.Counts.{row_count-with_value}
use Rattle.shm_ids.proofs.table.IdTable.value_mut.Goals as goal

pub invariant_of-self-lent : goal.invariant_of-self-lent
invariant_of-self-lent g c w =
    let within : c.place_of.result < length c.self.inside.entries.items = rw c.place_of.ensures (live_at c.self.inside.entries.items (pos c.args.number) (rw (← c.self.view_is) at c.requires.live)).within in
    rw (get_or_read _ _ _ within c.index_mut.ensures.value unused)
    (Sound-value _ _ _ w _ c.self.invariant.0 within, c.self.invariant.1 ∙ sym (row_count-with_value _ _ w within))
