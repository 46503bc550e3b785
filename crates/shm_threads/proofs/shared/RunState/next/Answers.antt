use Rattle.shm_threads.proofs.Names.{◌≡◌, ◌∙◌, subst, sym, get_or, and_parts, position-Some, comes_before, RunView, can_come, can_go}
use Rattle.shm_threads.proofs.Nexts.{at-process, within-lines}
use Rattle.shm_threads.proofs.shared.RunState.next.Goals as goal

pub returns-clause-first : goal.returns-clause-first
returns-clause-first g c = sym c.in-Some.is ∙ c.first.ensures.first

pub returns-clause-process : goal.returns-clause-process
returns-clause-process g c =
    let state = c.args.self.now in
    let s = c.index-strand.result.now in
    let k = c.in-Some.index in
    let at = position-Some (can_come state.expired state.world.machine) state.strands k s (sym c.first.ensures.first ∙ c.in-Some.is) in
    let here : s ≡ get_or state.strands k s = subst (λ (v : RunView). s ≡ get_or v.strands k s) c.self.view_is c.index-strand.ensures in
    at-process g.O.Origin.script g.O.Origin.start state.world state.strands state.made k s c.first.ensures.running at.0 here

pub returns-clause-line : goal.returns-clause-line
returns-clause-line g c =
    let state = c.args.self.now in
    let s = c.index-strand.result.now in
    let k = c.in-Some.index in
    let at = position-Some (can_come state.expired state.world.machine) state.strands k s (sym c.first.ensures.first ∙ c.in-Some.is) in
    let here : s ≡ get_or state.strands k s = subst (λ (v : RunView). s ≡ get_or v.strands k s) c.self.view_is c.index-strand.ensures in
    let first = get_or state.strands k s in
    let go = (and_parts (comes_before first.pid state.expired) (can_go state.world.machine first) at.1).1 in
    rw c.len.ensures.value (within-lines g.O.Origin.script g.O.Origin.start state.world state.strands state.made k s c.first.ensures.running at.0 here go)
