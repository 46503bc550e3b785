use Rattle.shm_ids.proofs.Names.{pos, ◌∙◌, sym}
use Rattle.shm_ids.proofs.Look.{live_at}
use Rattle.shm_ids.proofs.Steps.{Sound-hide}
use Rattle.shm_ids.proofs.Counts.{row_count-with_key}
use Rattle.shm_ids.proofs.table.IdTable.hide_key.Goals as goal

pub invariant_of-self : goal.invariant_of-self
invariant_of-self g c =
    let l = live_at _ (pos c.args.number) (rw (← c.self.view_is) at c.requires.live) in
    rw (c.clear_key-key.ensures.items, c.place_of.ensures) (
      Sound-hide _ _ _ l.row c.self.inside.keys _ c.self.invariant.0 l.within l.there (rw (c.clear_key-key.ensures.key, c.place_of.ensures) at c.drop_key.ensures),
      c.self.invariant.1 ∙ sym (row_count-with_key _ _ 0 l.within),
    )
