use Rattle.shm_life.proofs.Names.{refl, detach_all, detach_all-same}
use Rattle.shm_life.proofs.Settled.{orphans-same, still-well}
use Rattle.shm_life.proofs.sweep.after_detach.Goals as goal

pub sweep-requires-clause-orphans : goal.sweep-requires-clause-orphans
sweep-requires-clause-orphans g c =
    let t = c.args.segments.now.table in
    let same = detach_all-same c.args.time c.args.pid c.args.lost.now t in
    rw c.note_detached.ensures (orphans-same c.args.lost.now c.args.spaces.now.runners t (detach_all c.args.time c.args.pid t c.args.lost.now) same.left same.same.ids c.requires.orphans)

pub sweep-requires-clause-few : goal.sweep-requires-clause-few
sweep-requires-clause-few g c =
    let same = detach_all-same c.args.time c.args.pid c.args.lost.now c.args.segments.now.table in
    rw (c.note_detached.ensures, same.same.size) c.requires.few

pub returns-clause-well : goal.returns-clause-well
returns-clause-well g c = λ limits w.
    let s = c.args.segments.now in
    let ts = c.args.spaces.now.translations in
    let same = detach_all-same c.args.time c.args.pid c.args.lost.now s.table in
    c.sweep.ensures.well limits
    (rw c.note_detached.ensures (still-well limits s.table (detach_all c.args.time c.args.pid s.table c.args.lost.now) c.args.spaces.now.runners ts ts s.memory s.memory w same refl w.translated))
