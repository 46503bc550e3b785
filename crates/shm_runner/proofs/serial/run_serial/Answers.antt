use Rattle.shm_runner.proofs.Names.{map, length, IsAtEnd, handed_in, IsOutput, anyway, causes, read_silent, silent_for, shows}
use Rattle.shm_runner.proofs.serial.run_serial.Goals as goal

pub returns-in-Ok-clause-ok : goal.returns-in-Ok-clause-ok
returns-in-Ok-clause-ok g c = shows (IsOutput g.P.Pager.failed (handed_in g.P.Pager.content g.P.Pager.failed g.P.Pager.most g.P.Pager.calls c.args.pagers.items)) c.run_script.result (g.R.Read.remaining c.args.reader.now) (g.W.Write.contents c.args.writer.now) (g.W.Write.contents c.run_script.new.writer) (map (λ p. length (g.P.Pager.content p)) c.args.pagers.items) c.in-Ok.script c.in-Ok.ensures.read c.run_script.ensures.ok

pub returns-in-Ok-clause-whole : goal.returns-in-Ok-clause-whole
returns-in-Ok-clause-whole g c = anyway c.run_script.result (IsAtEnd (g.R.Read.remaining c.whole_script.new.reader)) c.in-Ok.ensures.whole

pub returns-in-Ok-clause-cause : goal.returns-in-Ok-clause-cause
returns-in-Ok-clause-cause g c = causes c.run_script.result (g.R.Read.remaining c.args.reader.now) (map (λ p. length (g.P.Pager.content p)) c.args.pagers.items) c.in-Ok.script c.in-Ok.ensures.read c.run_script.ensures.cause

pub returns-in-Ok-clause-silent : goal.returns-in-Ok-clause-silent
returns-in-Ok-clause-silent g c = silent_for (IsOutput g.P.Pager.failed (handed_in g.P.Pager.content g.P.Pager.failed g.P.Pager.most g.P.Pager.calls c.args.pagers.items)) c.run_script.result (map (λ p. length (g.P.Pager.content p)) c.args.pagers.items) (g.R.Read.remaining c.args.reader.now) _ _ c.in-Ok.script c.in-Ok.ensures.read c.run_script.ensures.silent

pub returns-in-Err-clause-cause : goal.returns-in-Err-clause-cause
returns-in-Err-clause-cause g c = c.in-Err.ensures.cause (map (λ p. length (g.P.Pager.content p)) c.args.pagers.items)

pub returns-in-Err-clause-silent : goal.returns-in-Err-clause-silent
returns-in-Err-clause-silent g c = read_silent _ c.in-Err.fault (g.W.Write.contents c.args.writer.now) c.in-Err.ensures.which
