use Rattle.shm_life.proofs.Names.{◌≡◌, ◌<◌, ◌∙◌, None, length, sym, arith, sum_by_more, padded, area_at, no_area, away_in}
use Rattle.shm_life.proofs.Residing.{away-padded}
use Rattle.shm_life.proofs.residency.swapped_of.Goals as goal

pub loop-area-preserved : goal.loop-area-preserved
loop-area-preserved g c =
    let s = c.args.store.now in
    let i = c.loop-area.area in
    let area = area_at s.swap i in
    let size : c.areas-area-end.result ≡ length s.swap.areas = rw (← c.swap.ensures) c.areas-area-end.ensures in
    let within : i < length s.swap.areas = omega (arith, size, c.loop-area-test.true) in
    let is : area.owners ≡ padded c.owners.result.now (length area.owners) None = rw (← c.swap-in-loop-area.ensures) c.owners.ensures.owners in
    let few = rw c.swap-in-loop-area.ensures at c.owners.ensures.few in
    let counted : c.away_among-count.result ≡ away_in s c.args.seg area = c.away_among-count.ensures.value ∙ sym (away-padded s c.args.seg area.owners c.owners.result.now is) in
    let sound = c.requires.swap.each i in (
      omega (arith, c.loop-area.invariant.0, counted, sum_by_more (away_in s c.args.seg) s.swap.areas i no_area within),
      omega (arith, c.loop-area.invariant.1, c.away_among-count.ensures.few, few, sound.owned, sound.small),
    )
