use Rattle.shm_runner.proofs.Names.{inl, map, length, false, IsAtEnd, IsThreadedOutput, handed_in, anyway, causes, read_silent, shows}
use Rattle.shm_runner.proofs.Causes.{serial_fails}
use Rattle.shm_runner.proofs.Texts.{marked_shows}
use Rattle.shm_runner.proofs.threaded.run_threaded.Goals as goal

pub returns-in-Ok : goal.returns-in-Ok
returns-in-Ok g c = record {
  ok = shows (IsThreadedOutput g.P.Pager.failed (handed_in g.P.Pager.content g.P.Pager.failed g.P.Pager.most g.P.Pager.calls c.args.pagers.items) false) c.run_script.result (g.R.Read.remaining c.args.reader.now) (g.W.Write.contents c.args.writer.now) (g.W.Write.contents c.run_script.new.writer) (map (λ p. length (g.P.Pager.content p)) c.args.pagers.items) c.in-Ok.script c.in-Ok.ensures.read c.run_script.ensures.ok;
  whole = anyway c.run_script.result (IsAtEnd (g.R.Read.remaining c.whole_script.new.reader)) c.in-Ok.ensures.whole;
  cause = causes c.run_script.result (g.R.Read.remaining c.args.reader.now) (map (λ p. length (g.P.Pager.content p)) c.args.pagers.items) c.in-Ok.script c.in-Ok.ensures.read c.run_script.ensures.cause;
  ended = c.run_script.ensures.ended;
  written = marked_shows g.P.Pager.failed (handed_in g.P.Pager.content g.P.Pager.failed g.P.Pager.most g.P.Pager.calls c.args.pagers.items) c.in-Ok.script (map (λ p. length (g.P.Pager.content p)) c.args.pagers.items) c.run_script.result (g.R.Read.remaining c.args.reader.now) (g.R.Read.remaining c.whole_script.new.reader) (g.W.Write.contents c.args.writer.now) (g.W.Write.contents c.run_script.new.writer) c.in-Ok.ensures.read c.in-Ok.ensures.whole c.run_script.ensures.written;
}

pub returns-in-Err : goal.returns-in-Err
returns-in-Err g c = record {
  ok = tt;
  whole = tt;
  cause = c.in-Err.ensures.cause (map (λ p. length (g.P.Pager.content p)) c.args.pagers.items);
  ended = serial_fails c.in-Err.fault c.in-Err.ensures.serial;
  written = inl (read_silent _ c.in-Err.fault (g.W.Write.contents c.args.writer.now) c.in-Err.ensures.which);
}
