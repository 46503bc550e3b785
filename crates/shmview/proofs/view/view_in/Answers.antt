use Rattle.std.proofs.Common.{◌≡◌, ◌∙◌, subst, sym, string_bytes, rules}
use Rattle.std.specs.Prelude.{OnOk}
use Rattle.std.specs.Io.KnownBytes.{Appends}
use Rattle.shm_program.proofs.Texts.{written_as}
use Rattle.shmview.specs.Record.{IsRecord}
use Rattle.shmview.proofs.Stops.{nothing_as, writer_stops}
use Rattle.shmview.proofs.view.view_in.Goals as goal

pub returns-in-Ok-clause-ok : goal.returns-in-Ok-clause-ok
returns-in-Ok-clause-ok g c =
    let text = string_bytes c.in-Ok.text in
    let written : OnOk c.write_text.result (Appends (g.W.Write.contents c.args.writer.now) (g.W.Write.contents c.write_text.new.writer) text) = search rules in
    written_as (IsRecord c.args.world.now.memory.swap c.args.asked c.args.script.now c.args.world.now.opening.areas) c.write_text.result _ _ text c.in-Ok.ensures written

pub returns-in-Ok-clause-fault : goal.returns-in-Ok-clause-fault
returns-in-Ok-clause-fault g c = writer_stops c.write_text.result c.write_text.ensures.fault

pub returns-in-Ok-clause-silent : goal.returns-in-Ok-clause-silent
returns-in-Ok-clause-silent g c =
    let is = IsRecord c.args.world.now.memory.swap c.args.asked c.args.script.now c.args.world.now.opening.areas in
    let text = string_bytes c.in-Ok.text in
    let bytes : c.as_bytes.result.now ≡ text = search rules in
    nothing_as (λ written. written ≡ c.as_bytes.result.now) is c.write_text.result _ _ (λ written same. subst is (sym (same ∙ bytes)) c.in-Ok.ensures) c.write_text.ensures.silent
