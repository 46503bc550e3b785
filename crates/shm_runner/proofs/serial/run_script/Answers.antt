use Rattle.shm_runner.proofs.Names.{◌≡◌, ap, map, length, StoreView, handed_in, world_causes, world_serials, stop_cause, stop_serial, stop_silent}
use Rattle.shm_runner.proofs.serial.run_script.Goals as goal

pub returns-in-Ok-clause-ok : goal.returns-in-Ok-clause-ok
returns-in-Ok-clause-ok g c =
    let swap : c.in-Ok.world.memory.swap ≡ handed_in g.P.Pager.content g.P.Pager.failed g.P.Pager.most g.P.Pager.calls c.args.pagers.items = ap (λ (m : StoreView). m.swap) c.in-Ok.ensures.memory in
    rw (← c.in-Ok.ensures.areas, ← swap) c.run_in.ensures.ok

pub returns-in-Ok-clause-cause : goal.returns-in-Ok-clause-cause
returns-in-Ok-clause-cause g c = world_causes c.run_in.result (map (λ p. length (g.P.Pager.content p)) c.args.pagers.items) c.args.script c.run_in.ensures.fault

pub returns-in-Ok-clause-serial : goal.returns-in-Ok-clause-serial
returns-in-Ok-clause-serial g c = world_serials c.run_in.result c.run_in.ensures.fault

pub returns-in-Ok-clause-silent : goal.returns-in-Ok-clause-silent
returns-in-Ok-clause-silent g c =
    let swap : c.in-Ok.world.memory.swap ≡ handed_in g.P.Pager.content g.P.Pager.failed g.P.Pager.most g.P.Pager.calls c.args.pagers.items = ap (λ (m : StoreView). m.swap) c.in-Ok.ensures.memory in
    rw (← c.in-Ok.ensures.areas, ← swap) c.run_in.ensures.silent

pub returns-in-Err-clause-cause : goal.returns-in-Err-clause-cause
returns-in-Err-clause-cause g c = stop_cause c.in-Err.fault (map (λ p. length (g.P.Pager.content p)) c.args.pagers.items) c.args.script c.in-Err.ensures.err

pub returns-in-Err-clause-serial : goal.returns-in-Err-clause-serial
returns-in-Err-clause-serial g c = stop_serial c.in-Err.fault _ c.in-Err.ensures.err

pub returns-in-Err-clause-silent : goal.returns-in-Err-clause-silent
returns-in-Err-clause-silent g c = stop_silent _ c.in-Err.fault _ (g.W.Write.contents c.args.writer.now) c.in-Err.ensures.err
