use Rattle.shm_fault.proofs.Names.{is_ok, arith, common_steps, ap, ◌∙◌, PageRef, StoreView, rec_by, failures-after}
use Rattle.shm_fault.specs.Placing.{after_page_out}
use Rattle.shm_fault.proofs.Sound.{Goes-trans}
use Rattle.shm_fault.proofs.Pages.{by-still, still-by}
use Rattle.shm_fault.proofs.store.PageStore.page_out.Goals as goal

pub returns : goal.returns
unfolding after_page_out
returns g c =
    let s = c.args.self.now in
    let slotted = c.slot_for-slot.ensures in
    let wrote = c.write_back.ensures in
    record {
      frames = grind (arith, common_steps);
      rest = grind (arith, common_steps);
      outs = grind (arith, common_steps);
      still = by-still _ _ λ (r : PageRef). ap (λ (v : StoreView). (rec_by v.segs r).frame) wrote.rest ∙ still-by _ _ slotted.still r;
      away = grind (arith, common_steps);
      goes = Goes-trans s c.slot_for-slot.new.self c.write_back.new.self slotted.goes wrote.goes;
      failures = failures-after (is_ok c.write_back.result) s.swap c.slot_for-slot.new.self.swap c.write_back.new.self.swap slotted.failures wrote.failures;
      placed = rw (← slotted.placed) wrote.placed;
      sound = wrote.sound;
    }
