use Rattle.shm_runner.proofs.Names.{arith, ◌≡◌, ◌+◌, ◌∙◌, ap, sym, subst, refl, List, [], ◌∷◌, drop, get_or, common_steps, drop_more, Line, HaveRun, RunStep}
use Rattle.shm_runner.proofs.serial.run_each.Goals as goal

pub loop-line-init : goal.loop-line-init
loop-line-init g c = λ steps later end ran. (steps, ran)

pub loop-line-preserved : goal.loop-line-preserved
loop-line-preserved g c =
    let ls = c.args.lines.now in
    let i = c.loop-line.line-index in
    let hs = c.loop-line.values in
    let w = c.loop-line.world in
    let line : Line = c.line-item.result in
    let here : get_or ls i line ≡ line = grind (arith, common_steps) in
    let split : drop i ls ≡ line ∷ drop (i + 1) ls = drop_more ls i line (grind (arith, common_steps)) ∙ ap (λ (l : Line). l ∷ drop (i + 1) ls) here in
    let step : RunStep = record { action = c.in_ok-_action._action; values = c.run_line.new.values; world = c.run_line.new.world } in
    λ steps later end ran.
    c.loop-line.invariant (step ∷ steps) later end (subst (λ (left : List Line). HaveRun hs w left (step ∷ steps) later end) (sym split) (c.in_ok-_action.ensures, ran))

-- no line is left
pub returns : goal.returns
returns g c =
    let at = c.loop-line in
    let done : drop at.line-index c.args.lines.now ≡ [] = grind (arith, common_steps) in
    at.invariant [] at.values at.world (subst (λ (left : List Line). HaveRun at.values at.world left [] at.values at.world) (sym done) (refl, refl))
