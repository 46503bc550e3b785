use Rattle.shm_threads.proofs.Names.{◌≡◌, ◌∙◌, ◌+◌, ◌++◌, ◌∷◌, [], ℕ, Bool, true, false, List, ap, append_assoc, arith, drop, length, refl, rules, subst, sym, drop_all, length_push, CommandView, Asked, Before, Stepped, Adds, GoTo, RunsLines, asks_of, commands_of}
use Rattle.shm_threads.proofs.Remaining.{from-line}
use Rattle.shm_threads.proofs.Steps.{adds_none, last_asked, line_asked}
use Rattle.shm_threads.proofs.worker.run_lines.Goals as goal

-- where this many lines are left
module _ (A B end : List Asked → Type 0) (n count total left : ℕ) (is : total ≡ left)
    (inv : (steps : List Bool) (whole : Bool) → GoTo total steps whole → Adds B (asks_of (n + 1) total steps) end → RunsLines A end count whole) where
  then-asked : (steps : List Bool) (whole : Bool) → GoTo left steps whole → Adds B (asks_of (n + 1) left steps) end → RunsLines A end count whole
  then-asked steps whole ends asked =
      let Ends : ℕ → Type 0 = λ k. GoTo k steps whole in
      let Asks : ℕ → Type 0 = λ k. Adds B (asks_of (n + 1) k steps) end in
      inv steps whole (subst Ends (sym is) ends) (subst Asks (sym is) asked)

pub returns-then-not-before : goal.returns-then-not-before
returns-then-not-before g c =
    let at = c.loop-line in
    let l = c.line-item.result in
    let left = from-line c.args.pid c.args.lines.now at.line-index l (omega (arith, c.loop-line-test.true, at.auto.line-index-end)) (search rules) (c.in-Some.command.now ∷ []) (search rules) in
    let told : Adds (g.C.Caller.asked at.caller) (Before (at.n + 1) false ∷ []) (g.C.Caller.asked c.before-in-loop-line.new.self) = rw c.if-not-before.true at c.before-in-loop-line.ensures.asked in
    then-asked _ (g.C.Caller.asked at.caller) (g.C.Caller.asked c.before-in-loop-line.new.self) at.n _ _ _ (ap length left) (λ steps whole. at.invariant.asked steps whole c.before-in-loop-line.new.self) [] false refl told

pub returns-then-not-goes_on : goal.returns-then-not-goes_on
returns-then-not-goes_on g c =
    let at = c.loop-line in
    let l = c.line-item.result in
    let rest = commands_of c.args.pid (drop (at.line-index + 1) c.args.lines.now) in
    let left = from-line c.args.pid c.args.lines.now at.line-index l (omega (arith, c.loop-line-test.true, at.auto.line-index-end)) (search rules) (c.in-Some.command.now ∷ []) (search rules) in
    let may : Adds (g.C.Caller.asked at.caller) (Before (at.n + 1) true ∷ []) (g.C.Caller.asked c.before-in-loop-line.new.self) = rw c.if-not-before.false at c.before-in-loop-line.ensures.asked in
    let step : Adds (g.C.Caller.asked c.before-in-loop-line.new.self) (Stepped false ∷ []) (g.C.Caller.asked c.step-goes_on.new.self) = rw c.if-not-goes_on.true at c.step-goes_on.ensures.asked in
    let told = last_asked (g.C.Caller.asked at.caller) _ _ (g.C.Caller.asked c.after.new.self) (at.n + 1) (length rest) may step c.after.ensures.asked in
    then-asked _ (g.C.Caller.asked at.caller) (g.C.Caller.asked c.after.new.self) at.n _ _ _ (ap length left) (λ steps whole. at.invariant.asked steps whole c.after.new.self) (false ∷ []) true (refl, refl) told

pub loop-line-preserved : goal.loop-line-preserved
loop-line-preserved g c =
    let at = c.loop-line in
    let l = c.line-item.result in
    let command = c.in-Some.command.now in
    let rest = commands_of c.args.pid (drop (at.line-index + 1) c.args.lines.now) in
    let left = from-line c.args.pid c.args.lines.now at.line-index l (omega (arith, c.loop-line-test.true, at.auto.line-index-end)) (search rules) (command ∷ []) (search rules) in
    let (before, many, whole) = at.invariant.before in
    record {
      same = c.after.ensures.same ∙ c.step-goes_on.ensures.same ∙ c.before-in-loop-line.ensures.same ∙ at.invariant.same;
      before = (before ++ command ∷ [], length_push before command ∙ ap (λ (k : ℕ). k + 1) many, append_assoc before (command ∷ []) rest ∙ ap (λ (cs : List CommandView). before ++ cs) (sym left) ∙ whole);
      few = omega (arith, at.invariant.few);
      asked = λ steps whole end ends asked.
          (let may : Adds (g.C.Caller.asked at.caller) (Before (at.n + 1) true ∷ []) (g.C.Caller.asked c.before-in-loop-line.new.self) = rw c.if-not-before.false at c.before-in-loop-line.ensures.asked in
          let step : Adds (g.C.Caller.asked c.before-in-loop-line.new.self) (Stepped true ∷ []) (g.C.Caller.asked c.step-goes_on.new.self) = rw c.if-not-goes_on.false at c.step-goes_on.ensures.asked in
          let told = line_asked (g.C.Caller.asked at.caller) _ _ (g.C.Caller.asked c.after.new.self) (g.C.Caller.asked end) (at.n + 1) (length rest) steps may step c.after.ensures.asked asked in
          then-asked _ (g.C.Caller.asked at.caller) (g.C.Caller.asked end) at.n _ _ _ (ap length left) (λ more all. at.invariant.asked more all end) (true ∷ steps) whole ends told);
    }

pub returns : goal.returns
returns g c =
    let at = c.loop-line in
    let past = drop_all at.line-index c.args.lines.now (omega (arith, c.loop-line-test.false, at.auto.line-index-end)) in
    let none : length (commands_of c.args.pid (drop at.line-index c.args.lines.now)) ≡ 0 = ap (λ ls. length (commands_of c.args.pid ls)) past in
    then-asked _ (g.C.Caller.asked at.caller) (g.C.Caller.asked at.caller) at.n _ _ 0 none (λ steps whole. at.invariant.asked steps whole at.caller) [] true (refl, refl) (adds_none (g.C.Caller.asked at.caller))
