use Rattle.std.proofs.Common.{map, string_bytes, subst, ℕ, List}
use Rattle.std.specs.Prelude.{Option}
use Rattle.shmcheck.specs.Runs.{IsAnswerOver, IsAsked, one_area}
use Rattle.shmcheck.specs.declared.command.Asked.{Asked}
use Rattle.shmcheck.proofs.runs.run_words.Goals as goal

pub returns : goal.returns
returns g c =
    let asked = c.in-Some.asked in
    let texts = map string_bytes c.args.words.now in
    let input = g.R.Read.remaining c.args.reader.now in
    let rest = g.R.Read.remaining c.run_asked.new.reader in
    let old = g.W.Write.contents c.args.writer.now in
    let new = g.W.Write.contents c.run_asked.new.writer in
    let over : IsAnswerOver asked c.given_for-given.result.now c.run_asked.result input rest old new one_area =
    record { ok = c.run_asked.ensures.ok; whole = c.run_asked.ensures.whole; cause = c.run_asked.ensures.cause; silent = c.run_asked.ensures.silent } in
    let given = subst (λ (bytes : List ℕ). IsAnswerOver asked bytes c.run_asked.result input rest old new one_area) c.given_for-given.ensures over in
    subst (λ (a : Option Asked). IsAsked a texts c.args.log.now c.run_asked.result input rest old new) c.in-Some.ensures given
