use Rattle.std.proofs.Common.{◌≡◌, ap, map, length}
use Rattle.shm_fault.specs.Store.{StoreView}
use Rattle.shm_program.specs.Runs.{handed_in}
use Rattle.shm_program.proofs.Causes.{stop_silent}
use Rattle.shmview.proofs.Stops.{late_stops, open_stop}
use Rattle.shmview.proofs.view.view_script.Goals as goal

pub returns-in-Ok-clause-ok : goal.returns-in-Ok-clause-ok
returns-in-Ok-clause-ok g c =
    let swap : c.in-Ok.world.memory.swap ≡ handed_in g.P.Pager.content g.P.Pager.failed g.P.Pager.most g.P.Pager.calls c.args.pagers.items = ap (λ (m : StoreView). m.swap) c.in-Ok.ensures.memory in
    rw (← c.in-Ok.ensures.areas, ← swap) c.view_in.ensures.ok

pub returns-in-Ok-clause-cause : goal.returns-in-Ok-clause-cause
returns-in-Ok-clause-cause g c = late_stops c.view_in.result c.args.asked (map (λ p. length (g.P.Pager.content p)) c.args.pagers.items) c.args.script.now c.view_in.ensures.fault

pub returns-in-Err-clause-cause : goal.returns-in-Err-clause-cause
returns-in-Err-clause-cause g c = open_stop c.in-Err.fault c.args.asked (map (λ p. length (g.P.Pager.content p)) c.args.pagers.items) c.args.script.now c.in-Err.ensures.err

pub returns-in-Ok-clause-silent : goal.returns-in-Ok-clause-silent
returns-in-Ok-clause-silent g c =
    let swap : c.in-Ok.world.memory.swap ≡ handed_in g.P.Pager.content g.P.Pager.failed g.P.Pager.most g.P.Pager.calls c.args.pagers.items = ap (λ (m : StoreView). m.swap) c.in-Ok.ensures.memory in
    rw (← c.in-Ok.ensures.areas, ← swap) c.view_in.ensures.silent

pub returns-in-Err-clause-silent : goal.returns-in-Err-clause-silent
returns-in-Err-clause-silent g c = stop_silent _ c.in-Err.fault _ (g.W.Write.contents c.args.writer.now) c.in-Err.ensures.err
