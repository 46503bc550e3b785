use Rattle.std.proofs.Common.{map, length}
use Rattle.std.specs.Io.KnownBytes.{IsAtEnd}
use Rattle.shm_program.specs.Runs.{IsTextFor, handed_in}
use Rattle.shm_program.proofs.Causes.{anyway, read_silent, text_for}
use Rattle.shm_program.proofs.Texts.{shows}
use Rattle.shmview.specs.Record.{IsRecord}
use Rattle.shmview.proofs.Stops.{stops, nothing_as}
use Rattle.shmview.proofs.view.view.Goals as goal

pub returns-in-Ok : goal.returns-in-Ok
returns-in-Ok g c =
    let run = IsRecord (handed_in g.P.Pager.content g.P.Pager.failed g.P.Pager.most g.P.Pager.calls c.args.pagers.items) c.args.asked in
    let areas = map (λ p. length (g.P.Pager.content p)) c.args.pagers.items in
    let input = g.R.Read.remaining c.args.reader.now in
    record {
      ok = shows run c.view_script.result input _ _ areas c.in-Ok.script c.in-Ok.ensures.read c.view_script.ensures.ok;
      whole = anyway c.view_script.result (IsAtEnd (g.R.Read.remaining c.whole_script.new.reader)) c.in-Ok.ensures.whole;
      cause = stops c.view_script.result input c.args.asked areas c.in-Ok.script c.in-Ok.ensures.read c.view_script.ensures.cause;
      silent = nothing_as (run c.in-Ok.script areas) (IsTextFor run areas input) c.view_script.result _ _ (text_for run areas input c.in-Ok.script c.in-Ok.ensures.read) c.view_script.ensures.silent;
    }

pub returns-in-Err : goal.returns-in-Err
returns-in-Err g c =
    record {
      ok = tt;
      whole = tt;
      cause = (c.in-Err.ensures.cause (map (λ p. length (g.P.Pager.content p)) c.args.pagers.items), c.in-Err.ensures.serial);
      silent = read_silent _ c.in-Err.fault (g.W.Write.contents c.args.writer.now) c.in-Err.ensures.which;
    }
