use Rattle.std.proofs.Common.{◌≡◌, ◌∙◌, [], None, Option, Some, ap, ap₂, codes, inr, refl, rules, sym, unwrap_or}
use Rattle.clap.specs.Words.{all_of, first_of, found_of, rows_of}
use Rattle.clap.proofs.WalkLemmas.{first_value-rows, raw_values-rows}
use Rattle.shm_program.specs.Options.{swaps_of}
use Rattle.shmsim.specs.Words.{mode_of, request_by}
use Rattle.shmsim.specs.declared.command.Mode.{Mode}
use Rattle.shmsim.proofs.Reading.{text-of, texts-of}
use Rattle.shmsim.proofs.command.read_matches.Goals as goal

pub returns-in_default-clause-err : goal.returns-in_default-clause-err
returns-in_default-clause-err c =
    let found = found_of c.args.matches.now in
    let rows = rows_of found in
    let text = text-of c.get_str.result _ c.unwrap_or.result (first_of (codes "mode") rows) (c.get_str.ensures ∙ first_value-rows found (codes "mode")) (search rules) c.unwrap_or.ensures in
    let mode : mode_of (unwrap_or (first_of (codes "mode") rows) []) ≡ None = ap mode_of (sym text) ∙ sym c.mode_of.ensures ∙ c.in_default.is in
    inr (refl, ap (λ (m : Option Mode). request_by m (swaps_of (unwrap_or (all_of (codes "swap") rows) []))) mode)

pub returns-in-Ok-Some-clause-ok : goal.returns-in-Ok-Some-clause-ok
returns-in-Ok-Some-clause-ok c =
    let found = found_of c.args.matches.now in
    let rows = rows_of found in
    let text = text-of c.get_str.result _ c.unwrap_or.result (first_of (codes "mode") rows) (c.get_str.ensures ∙ first_value-rows found (codes "mode")) (search rules) c.unwrap_or.ensures in
    let mode : mode_of (unwrap_or (first_of (codes "mode") rows) []) ≡ Some c.in-Some.mode = ap mode_of (sym text) ∙ sym c.mode_of.ensures ∙ c.in-Some.is in
    let words = texts-of c.get_strs.result _ c.unwrap_or-words.result (all_of (codes "swap") rows) (c.get_strs.ensures ∙ raw_values-rows found (codes "swap")) (search rules) c.unwrap_or-words.ensures in
    let read = rw c.in-Ok-Some.field-0-is at c.in-Ok-Some.ensures in
    let swaps : swaps_of (unwrap_or (all_of (codes "swap") rows) []) ≡ Some c.in-Ok-Some.swaps.items = ap swaps_of (sym words) ∙ sym read in
    ap₂ request_by mode swaps

pub returns-in-Ok-None-clause-err : goal.returns-in-Ok-None-clause-err
returns-in-Ok-None-clause-err c =
    let found = found_of c.args.matches.now in
    let rows = rows_of found in
    let text = text-of c.get_str.result _ c.unwrap_or.result (first_of (codes "mode") rows) (c.get_str.ensures ∙ first_value-rows found (codes "mode")) (search rules) c.unwrap_or.ensures in
    let mode : mode_of (unwrap_or (first_of (codes "mode") rows) []) ≡ Some c.in-Some.mode = ap mode_of (sym text) ∙ sym c.mode_of.ensures ∙ c.in-Some.is in
    let words = texts-of c.get_strs.result _ c.unwrap_or-words.result (all_of (codes "swap") rows) (c.get_strs.ensures ∙ raw_values-rows found (codes "swap")) (search rules) c.unwrap_or-words.ensures in
    let read = rw c.in-Ok-None.field-0-is at c.in-Ok-None.ensures in
    let swaps : swaps_of (unwrap_or (all_of (codes "swap") rows) []) ≡ None = ap swaps_of (sym words) ∙ sym read in
    inr (refl, ap₂ request_by mode swaps)
