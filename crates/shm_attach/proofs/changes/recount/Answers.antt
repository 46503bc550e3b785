use Rattle.shm_attach.proofs.Names.{◌≡◌, ℕ, ◌+◌, ◌<◌, ◌≤◌, ◌∷◌, ◌∙◌, ap, sym, subst, get_or, drop, arith, common_steps, lowest_address, pieces_of, cut, bare, bare_all, nothing, fit_at, some_if, counted}
use Rattle.shm_attach.proofs.Processes.{one_more, pieces_of-cut_cons, few_parts, drop-bare, some_if-le, was_counted}
use Rattle.shm_attach.proofs.changes.recount.Goals.{After-parts_outside-parts}
use Rattle.shm_attach.proofs.changes.recount.Goals as goal

pub parts_outside-parts-requires-clause-fit : goal.parts_outside-parts-requires-clause-fit
parts_outside-parts-requires-clause-fit c = fit_at lowest_address c.args.met.now c.loop-piece.piece-index nothing c.requires.fit (omega arith)

-- the piece that is met is still counted
counted_still : (c : After-parts_outside-parts) → 0 < counted c.loop-piece.tables (get_or c.args.met.now c.loop-piece.piece-index nothing).seg
counted_still c = grind (arith, common_steps, drop-bare, one_more)

pub loop-piece-preserved : goal.loop-piece-preserved
loop-piece-preserved c =
    let i = c.loop-piece.piece-index in
    let met = c.args.met.now in
    let from = c.args.from in
    let to = c.args.to in
    let p = bare (get_or met i nothing) in
    let rest = bare_all (drop (i + 1) met) in
    let next : bare_all (drop i met) ≡ p ∷ rest = drop-bare met i nothing c.loop-piece-test.true in
    let came : c.parts_outside-parts.result ≤ 2 = rw c.parts_outside-parts.ensures (few_parts from to p) in
    let here : (id : ℕ) → pieces_of id (bare_all (drop i met)) ≡ pieces_of id rest + some_if id p.seg 1 = λ id. ap (pieces_of id) next ∙ one_more id p rest in
    let cuts : (id : ℕ) → pieces_of id (cut from to (bare_all (drop i met))) ≡ some_if id p.seg c.parts_outside-parts.result + pieces_of id (cut from to rest) =
    λ id. ap (λ ps. pieces_of id (cut from to ps)) next ∙ pieces_of-cut_cons id from to p rest ∙ ap (λ n. some_if id p.seg n + pieces_of id (cut from to rest)) (sym c.parts_outside-parts.ensures) in
    let kept = c.loop-piece.invariant in
    let own_count = counted_still (goal.at.loop-piece-preserved c).After-parts_outside-parts in
    record {
      left = λ id. omega (arith, kept.left id, kept.some id, here id, cuts id, c.replace.ensures.counts id);
      some = λ id. omega (arith, kept.some id, here id, c.replace.ensures.counts id);
      small = λ id. omega (arith, kept.small id, some_if-le id p.seg c.parts_outside-parts.result, came, c.replace.ensures.counts id);
      tables = λ q own some.
          let before : 0 < counted c.loop-piece.tables q.seg =
          was_counted q.seg p.seg (counted c.loop-piece.tables q.seg) (counted c.replace.new.self q.seg) 1 c.parts_outside-parts.result
          (λ same. subst (λ id. 0 < counted c.loop-piece.tables id) same own_count) (c.replace.ensures.counts q.seg) some in
          c.replace.ensures.tables q (kept.tables q own before) some;
      translated = λ at all. c.replace.ensures.translated at (kept.translated at all);
      tied = c.replace.ensures.tied;
    }
