use Rattle.shm_areas.proofs.Names.{◌≡◌, ◌∙◌, ◌-◌, arith, sym, ap, length, take, drop, max, take_all, length-drop, lowest_address, first_chosen, gap_from, bare_all, List, Piece, SpaceView}
use Rattle.shm_areas.proofs.Filled.{arranged-drop, gap-behind}
use Rattle.shm_areas.proofs.FreeGaps.{gap-room}
use Rattle.shm_areas.proofs.space.Space.gap_from.Goals.{After-least_gap}
use Rattle.shm_areas.proofs.space.Space.gap_from.Goals as goal

pub least_gap-requires-clause-arranged : goal.least_gap-requires-clause-arranged
least_gap-requires-clause-arranged c =
    let n = c.run_in-run.result.first in
    let ps = c.deref-2.result.now in
    let own : ps ≡ c.self.inside.pieces.items = c.deref-2.ensures.value in
    let rest : take (length ps - n) (drop n ps) ≡ drop n ps = take_all (length ps - n) (drop n ps) (omega (arith, length-drop n ps)) in
    rw rest (arranged-drop lowest_address n ps (rw own c.self.invariant.0.arranged))

-- the search finds what one over all pieces would
found : (c : After-least_gap) → c.least_gap.result ≡ gap_from c.args.pages (max c.args.from first_chosen) (bare_all c.self.inside.pieces.items)
found c =
    let n = c.run_in-run.result.first in
    let from = c.max-from.result in
    let all = c.self.inside.pieces.items in
    let ps = c.deref-2.result.now in
    let own : c.deref.result.now ≡ all = c.deref.ensures.value in
    let rest : take (length ps - n) (drop n ps) ≡ drop n ps = take_all (length ps - n) (drop n ps) (omega (arith, length-drop n ps)) in
    c.least_gap.ensures
    ∙ ap (λ (xs : List Piece). gap_from c.args.pages from (bare_all xs)) (rest ∙ ap (λ (xs : List Piece). drop n xs) c.deref-2.ensures.value)
    ∙ ap (λ a. gap_from c.args.pages a (bare_all (drop n all))) c.max-from.ensures
    ∙ sym (gap-behind c.args.pages c.args.from c.self.inside.filled c.run_in-run.result.last n all c.requires.pages.0 c.self.invariant.0.arranged c.self.invariant.3 (rw (own, c.max-from.ensures) at c.run_in-run.ensures))

pub returns-clause-value : goal.returns-clause-value
returns-clause-value c =
    found (goal.at.returns-clause-value c).After-least_gap
    ∙ ap (λ (s : SpaceView). gap_from c.args.pages (max c.args.from first_chosen) (bare_all s.pieces)) c.self.view_is

pub returns-clause-room : goal.returns-clause-room
returns-clause-room c =
    rw (found (goal.at.returns-clause-room c).After-least_gap)
    (gap-room c.args.pages (max c.args.from first_chosen) lowest_address (bare_all c.self.inside.pieces.items) c.self.invariant.0.arranged)
