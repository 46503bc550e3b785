use Rattle.shm_runner.proofs.Names.{inl, rules, world_causes, world_serials}
use Rattle.shm_runner.proofs.Causes.{ended_cause, ended_silent, ended_fails, serials_fail, ungated}
use Rattle.shm_runner.proofs.Opened.{known-run, opens, sound-world, starts}
use Rattle.shm_runner.proofs.Texts.{threaded_text, marked_text}
use Rattle.shm_runner.proofs.threaded.run_in.Goals as goal

pub run_threads_unkept-requires : goal.run_threads_unkept-requires
run_threads_unkept-requires g c = (search rules, (search rules, (search rules, opens c.args.script.now c.args.world c.requires.opened c.requires.events)))

pub returns-in-Ok-clause-ok : goal.returns-in-Ok-clause-ok
returns-in-Ok-clause-ok g c =
    let w = c.args.world in
    let o = c.in-Ok.ensures.outcome in
    let law = c.lawful-sound.ensures in
    let start = starts c.args.script.now w c.requires.opened c.requires.events c.requires.memory (sound-world w _ law.events law.legal law.counted law.exact law.laws) in
    let known = known-run g.P.Pager.failed c.args.script.now w c.in-Ok.outcome.world c.in-Ok.outcome.transcripts.items start o c.write_outcome.ensures.sound c.write_outcome.ensures.counted in
    threaded_text g.P.Pager.failed w.memory.swap c.args.script.now w.opening.areas c.in-Ok.outcome.world c.in-Ok.outcome.transcripts.items known c.write_outcome.result (g.W.Write.contents c.args.writer.now) (g.W.Write.contents c.write_outcome.new.writer) c.write_outcome.ensures.ok

pub returns-in-Ok-clause-cause : goal.returns-in-Ok-clause-cause
returns-in-Ok-clause-cause g c = world_causes c.write_outcome.result c.args.world.opening.areas c.args.script.now c.write_outcome.ensures.fault

pub returns-in-Ok-clause-written : goal.returns-in-Ok-clause-written
returns-in-Ok-clause-written g c =
    let w = c.args.world in
    let o = c.in-Ok.ensures.outcome in
    let law = c.lawful-sound.ensures in
    let start = starts c.args.script.now w c.requires.opened c.requires.events c.requires.memory (sound-world w _ law.events law.legal law.counted law.exact law.laws) in
    let known = known-run g.P.Pager.failed c.args.script.now w c.in-Ok.outcome.world c.in-Ok.outcome.transcripts.items start o c.write_outcome.ensures.sound c.write_outcome.ensures.counted in
    marked_text g.P.Pager.failed w.memory.swap c.args.script.now w.opening.areas c.in-Ok.outcome.world c.in-Ok.outcome.transcripts.items known c.write_outcome.result (g.W.Write.contents c.args.writer.now) (g.W.Write.contents c.write_outcome.new.writer) c.write_outcome.ensures.written

pub run_fault-requires : goal.run_fault-requires
run_fault-requires g c = ungated c.args.script.now c.args.world c.in-Err.error c.in-Err.ensures.error

pub returns-in-Err-clause-cause : goal.returns-in-Err-clause-cause
returns-in-Err-clause-cause g c = rw c.run_fault.ensures (ended_cause c.in-Err.error c.args.world.opening.areas c.args.script.now)

pub returns-in-Err-clause-written : goal.returns-in-Err-clause-written
returns-in-Err-clause-written g c = inl (rw c.run_fault.ensures (ended_silent _ c.in-Err.error (g.W.Write.contents c.args.writer.now)))

pub returns-in-Ok-clause-ended : goal.returns-in-Ok-clause-ended
returns-in-Ok-clause-ended g c = serials_fail c.write_outcome.result (world_serials c.write_outcome.result c.write_outcome.ensures.fault)

pub returns-in-Err-clause-ended : goal.returns-in-Err-clause-ended
returns-in-Err-clause-ended g c = rw c.run_fault.ensures (ended_fails c.in-Err.error (ungated c.args.script.now c.args.world c.in-Err.error c.in-Err.ensures.error))
