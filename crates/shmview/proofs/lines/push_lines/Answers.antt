use Rattle.std.proofs.Common.{rules, arith, ◌≡◌, ◌+◌, ◌∙◌, ap, sym, subst, refl, List, [], ◌∷◌, ◌++◌, drop, get_or, map, append-nil, append_assoc, string_bytes}
use Rattle.std.proofs.lemmas.Grind.{common_steps}
use Rattle.std.proofs.lemmas.List.{drop_more}
use Rattle.std.proofs.lemmas.List.Elements.{All-cons, All-nil}
use Rattle.shm_text.specs.declared.script.Line.{Line}
use Rattle.shm_program.specs.Running.{HaveRun, RunStep}
use Rattle.shm_program.specs.Values.{HolderView, fresh_holder}
use Rattle.shmview.specs.Record.{IsStepSound, shown_text, steps_text}
use Rattle.shmview.proofs.lines.push_lines.Goals as goal

pub loop-line-init : goal.loop-line-init
loop-line-init g c =
    let same : c.in_ok-values.values ≡ map fresh_holder c.args.script.now.processes = search rules in record {
      ran = λ more later end ran sound. (more, subst (λ (hs : List HolderView). HaveRun hs c.args.world.now c.args.script.now.lines more later end) same ran, sound, refl);
      count = refl;
    }

pub loop-line-preserved : goal.loop-line-preserved
loop-line-preserved g c =
    let steps = c.args.steps in
    let ls = c.args.script.now.lines in
    let i = c.loop-line.line-index in
    let n = c.loop-line.number in
    let hs = c.loop-line.values in
    let w = c.loop-line.world in
    let step : RunStep = record { action = c.in_ok-action.action; values = c.run_line.new.values; world = c.run_line.new.world } in
    let line : Line = c.line-item.result in
    let here : get_or ls i line ≡ line = grind (arith, common_steps) in
    let split : drop i ls ≡ line ∷ drop (i + 1) ls = drop_more ls i line (grind (arith, common_steps)) ∙ ap (λ (l : Line). l ∷ drop (i + 1) ls) here in
    let text = string_bytes c.loop-line.text in
    let pushed : string_bytes c.push_shown.new.text ≡ text ++ shown_text steps n step.action step.world = c.in_ok-push_shown.ensures.text in record {
      ran = λ more later end ran sound.
          let all : HaveRun hs w (drop i ls) (step ∷ more) later end = subst (λ (left : List Line). HaveRun hs w left (step ∷ more) later end) (sym split) (c.in_ok-action.ensures, ran) in
          let (whole, is, sounds, same) = c.loop-line.invariant.ran (step ∷ more) later end all (All-cons IsStepSound step more c.push_shown.ensures.sound sound) in
          (whole, is, sounds, ap (λ t. t ++ steps_text steps (n + 1) more) pushed ∙ append_assoc text (shown_text steps n step.action step.world) (steps_text steps (n + 1) more) ∙ same);
      count = ap (λ k. k + 1) c.loop-line.invariant.count;
    }

-- no line is left
pub returns : goal.returns
returns g c =
    let at = c.loop-line in
    let done : drop at.line-index c.args.script.now.lines ≡ [] = grind (arith, common_steps) in
    let none : HaveRun at.values at.world (drop at.line-index c.args.script.now.lines) [] at.values at.world = subst (λ (left : List Line). HaveRun at.values at.world left [] at.values at.world) (sym done) (refl, refl) in
    let (all, is, sounds, same) = at.invariant.ran [] at.values at.world none (All-nil IsStepSound) in
    (all, at.values, is, sounds, sym (append-nil (string_bytes at.text)) ∙ same)
