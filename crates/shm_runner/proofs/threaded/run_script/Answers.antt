use Rattle.shm_runner.proofs.Names.{◌≡◌, ap, inl, map, length, StoreView, handed_in, stop_cause, stop_serial, stop_silent}
use Rattle.shm_runner.proofs.Causes.{serial_fails}
use Rattle.shm_runner.proofs.threaded.run_script.Goals as goal

pub returns-in-Ok-clause-ok : goal.returns-in-Ok-clause-ok
returns-in-Ok-clause-ok g c =
    let swap : c.in-Ok.world.memory.swap ≡ handed_in g.P.Pager.content g.P.Pager.failed g.P.Pager.most g.P.Pager.calls c.args.pagers.items = ap (λ (m : StoreView). m.swap) c.in-Ok.ensures.memory in
    rw (← c.in-Ok.ensures.areas, ← swap) c.run_in.ensures.ok

pub returns-in-Ok-clause-cause : goal.returns-in-Ok-clause-cause
returns-in-Ok-clause-cause g c = rw (← c.in-Ok.ensures.areas) c.run_in.ensures.cause

pub returns-in-Ok-clause-written : goal.returns-in-Ok-clause-written
returns-in-Ok-clause-written g c =
    let swap : c.in-Ok.world.memory.swap ≡ handed_in g.P.Pager.content g.P.Pager.failed g.P.Pager.most g.P.Pager.calls c.args.pagers.items = ap (λ (m : StoreView). m.swap) c.in-Ok.ensures.memory in
    rw (← c.in-Ok.ensures.areas, ← swap) c.run_in.ensures.written

pub returns-in-Err-clause-cause : goal.returns-in-Err-clause-cause
returns-in-Err-clause-cause g c = stop_cause c.in-Err.fault (map (λ p. length (g.P.Pager.content p)) c.args.pagers.items) c.args.script.now c.in-Err.ensures.err

pub returns-in-Err-clause-written : goal.returns-in-Err-clause-written
returns-in-Err-clause-written g c = inl (stop_silent _ c.in-Err.fault _ (g.W.Write.contents c.args.writer.now) c.in-Err.ensures.err)

pub returns-in-Err-clause-ended : goal.returns-in-Err-clause-ended
returns-in-Err-clause-ended g c = serial_fails c.in-Err.fault (stop_serial c.in-Err.fault _ c.in-Err.ensures.err)
