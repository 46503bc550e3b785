use Rattle.shm_threads.proofs.Names.{◌≡◌, ◌≤◌, ◌∙◌, ℕ, List, None, ap, arith, false, inr, length, position, subst, sym, true≢false, IfErr, OnOk, Result, CanStop, comes_before, ended_by, IsOver, RunView, can_come, RunError}
use Rattle.shm_threads.proofs.Expiring.{ended-over, ended-stop}
use Rattle.shm_threads.proofs.Idle.{no-first}
use Rattle.shm_threads.proofs.Placing.{declared-at}
use Rattle.shm_threads.proofs.shared.RunState.complete.Given as given
use Rattle.shm_threads.proofs.shared.RunState.complete.Goals as goal
use Rattle.shm_threads.proofs.shared.RunState.complete.Goals.{else-comes_before-via-then-comes_before+else-self-len, else-comes_before-via-else-comes_before}

-- no thread is left that comes before the one that the gate ended
over : (g : given.Over) (c : goal.After-drop-iterator g) → IsOver g.O.Origin.script g.O.Origin.start c.loop.self.world c.loop.self.strands c.loop.self.made c.loop.self.expired
over g c =
    let at = c.loop.self in
    let known = c.next-in-loop.ensures in
    let first = rw c.in_default-next.is at known.first in
    let none : position (can_come at.expired at.world.machine) at.strands ≡ None = sym first in
    record {
      running = known.running;
      none = no-first (can_come at.expired at.world.machine) at.strands none;
      flushed = λ before.
          elim c.else-comes_before.branch [
            | else-comes_before-via-then-comes_before+else-self-len w ↦
                let few : length at.rounds ≤ at.made = subst (λ (v : RunView). length v.rounds ≤ v.made) c.self.view_is (omega (arith, w.len.ensures, w.if-self-len.false, c.self.inside.rounds.ok.0)) in
                subst (λ (ps : List ℕ). length ps ≤ at.made) known.rounds few
            | else-comes_before-via-else-comes_before w ↦
                let no : comes_before 0 at.expired ≡ false = subst (λ (v : RunView). comes_before 0 v.expired ≡ false) c.self.view_is (sym c.comes_before.ensures ∙ w.if-comes_before.false) in
                absurd (true≢false (sym before ∙ no))
          ];
    }

ends : (g : given.Over) (c : goal.After-drop-iterator g) → c.ended_by.result ≡ ended_by false c.loop.self.expired
ends g c = c.ended_by.ensures ∙ ap (λ (v : RunView). ended_by false v.expired) c.self.view_is

pub returns-else-comes_before-clause-error : goal.returns-else-comes_before-clause-error
returns-else-comes_before-clause-error g c =
    let at = c.loop.self in
    let known = c.next-in-loop.ensures in
    let stop = ended-stop g.O.Origin.answers g.O.Origin.script g.O.Origin.start at.world at.strands at.made at.expired known.ended (over g c) known.passed in
    subst (λ (r : Result (Unit {0}) RunError). IfErr r (CanStop g.O.Origin.answers g.O.Origin.script g.O.Origin.start)) (sym (ends g c)) stop

pub returns-else-comes_before-clause-over : goal.returns-else-comes_before-clause-over
returns-else-comes_before-clause-over g c =
    let at = c.loop.self in
    let Over : Type 0 = IsOver g.O.Origin.script g.O.Origin.start at.world at.strands at.made None in
    let done = ended-over g.O.Origin.script g.O.Origin.start at.world at.strands at.made at.expired (over g c) in
    subst (λ (r : Result (Unit {0}) RunError). OnOk r Over) (sym (ends g c)) done

pub expire-requires-clause-has : goal.expire-requires-clause-has
expire-requires-clause-has g c =
    let known = c.next-in-loop.ensures in
    inr (declared-at g.O.Origin.script.processes _ _ (rw c.in-Some-next.is at known.process), rw c.in-Some-next.is at known.line)
