use Rattle.shm_attach.proofs.Names.{SpaceView, values_of, ◌≡◌, ℕ, ◌+◌, ◌-◌, ◌≤◌, ◌∙◌, not, ap, sym, subst, refl, arith, eq-eqb, All, List, Option, Some, slice_get, length, common_steps, length-map, without_named, pieces_of, bare_all, stored_named, stored_without, bare_filter, some_if, runners_view, pieces_at, counted, HasTable, Piece, Runner, attached_at, without_attach, without_segment}
use Rattle.shm_attach.proofs.Processes.{pieces_of-without, shorter_filter}
use Rattle.shm_attach.proofs.HavingTables.{pieces_at-stored, same-set, tables-filter}
use Rattle.shm_attach.proofs.Sound.{fit-attach, is_changed, counts-small, counts-own}
use Rattle.shm_attach.proofs.changes.take_attach.Goals.{After-index_mut, After-pieces}
use Rattle.shm_attach.proofs.changes.take_attach.Goals as goal

stands : (c : After-index_mut) → Some c.index_mut.result.now ≡ slice_get (values_of c.args.processes.now.entries) c.args.index
stands c = sym c.index_mut.ensures.value

shown : (c : After-index_mut) → pieces_at (runners_view c.args.processes.now.entries) c.args.index ≡ bare_all c.index_mut.result.now.space.pieces
shown c = pieces_at-stored c.args.processes.now.entries c.args.index c.index_mut.result.now (stands c)

-- NO PIECE HAS THE ORIGIN

pub returns-in_err-seg-clause-segment : goal.returns-in_err-seg-clause-segment
returns-in_err-seg-clause-segment c =
    c.from_residual.ensures ∙ c.in_err-seg.ensures.segment ∙ ap (attached_at c.args.addr) (sym (shown (goal.at.returns-in_err-seg-clause-segment c).After-index_mut))

pub returns-in_err-seg-clause-changed : goal.returns-in_err-seg-clause-changed
returns-in_err-seg-clause-changed c =
    let es = c.args.processes.now.entries in
    let i = c.args.index in
    let t = c.args.tables.now in
    let w = c.index_mut.result.now in
    let v : Runner = record { life = w.life; space = c.take_at.new.self } in
    let f = without_attach c.args.addr in
    let b = (goal.at.returns-in_err-seg-clause-changed c).After-index_mut in
    let same : c.take_at.new.self ≡ w.space = c.in_err-seg.ensures.none in
    let none : f (bare_all w.space.pieces) ≡ bare_all w.space.pieces = ap (λ (o : Option ℕ). without_segment c.args.addr o (bare_all w.space.pieces)) (sym c.in_err-seg.ensures.segment) in
    let flat : bare_all v.space.pieces ≡ f (bare_all w.space.pieces) = ap (λ (s : SpaceView). bare_all s.pieces) same ∙ sym none in
    is_changed _ es t t i w v f c.requires.there (stands b) refl flat (ap (λ (s : SpaceView). s.most) same) (λ extra s. fit-attach extra es t i c.args.addr s)
    (λ all. subst (λ (s : SpaceView). All (HasTable t.slab) s.pieces) (sym same) all)
    (λ tied. record { counts = λ id. ap (λ qs. counted t id + pieces_of id qs) (sym none); tables = λ p has some. has; tied = tied }) (λ p has some. has) (λ at all. all)

pub returns-in_err-seg-clause-none : goal.returns-in_err-seg-clause-none
returns-in_err-seg-clause-none c =
    let same : c.take_at.new.self ≡ c.index_mut.result.now.space = c.in_err-seg.ensures.none in
    rw (c.from_residual.ensures, same) (same-set c.args.processes.now.entries c.args.index c.index_mut.result.now (stands (goal.at.returns-in_err-seg-clause-none c).After-index_mut))

-- SOME PIECES GO

pub returns-clause-segment : goal.returns-clause-segment
returns-clause-segment c = c.in_ok-seg.ensures.segment ∙ ap (attached_at c.args.addr) (sym (shown (goal.at.returns-clause-segment c).After-index_mut))

mine : (c : After-index_mut) (id : ℕ) → pieces_of id (bare_all c.index_mut.result.now.space.pieces) ≤ counted c.args.tables.now id
mine c id = rw (← shown c) (counts-own c.args.processes.now.entries c.args.tables.now c.args.index c.requires.reservations c.requires.there id)

fewer : (addr seg b a : ℕ) (own left : List Piece) → left ≡ stored_without addr seg own → b ≡ length own → a ≡ length left → a ≤ b
fewer addr seg b a own left kept before after = grind (arith, common_steps, shorter_filter)

gone_by : (addr seg b a : ℕ) (own left : List Piece) → left ≡ stored_without addr seg own → b ≡ length own → a ≡ length left
    → length (without_named addr seg (bare_all own)) + (b - a) ≡ length (bare_all own)
gone_by addr seg b a own left kept before after = grind (arith, common_steps, fewer, bare_filter, length-map)

gone : (c : After-pieces)
    → length (without_named c.args.addr c.in_ok-seg.seg (bare_all c.index_mut.result.now.space.pieces)) + (length c.pieces-before.result.now - length c.pieces.result.now)
    ≡ length (bare_all c.index_mut.result.now.space.pieces)
gone c = grind (arith, common_steps, gone_by)

pub overflow_sub-gone : goal.overflow_sub-gone
overflow_sub-gone c = grind (arith, common_steps, fewer)

named : (c : After-pieces) (id : ℕ)
    → pieces_of id (without_named c.args.addr c.in_ok-seg.seg (bare_all c.index_mut.result.now.space.pieces))
    + some_if id c.in_ok-seg.seg (length c.pieces-before.result.now - length c.pieces.result.now)
    ≡ pieces_of id (bare_all c.index_mut.result.now.space.pieces)
named c id = grind (arith, common_steps, pieces_of-without, gone)

pub release-requires-clause-gone : goal.release-requires-clause-gone
release-requires-clause-gone c =
    let b = goal.at.release-requires-clause-gone c in
    let seg = c.in_ok-seg.seg in
    let went = rw (eq-eqb seg seg refl) at (named b.After-pieces seg) in
    omega (arith, went, mine b.After-index_mut seg)

pub release-requires-clause-fits : goal.release-requires-clause-fits
release-requires-clause-fits c = omega (arith, counts-small c.args.processes.now.entries c.args.tables.now c.requires.reservations c.in_ok-seg.seg)

pub returns-clause-changed : goal.returns-clause-changed
returns-clause-changed c =
    let es = c.args.processes.now.entries in
    let i = c.args.index in
    let seg = c.in_ok-seg.seg in
    let f = without_attach c.args.addr in
    let t = c.args.tables.now in
    let w = c.index_mut.result.now in
    let v : Runner = record { life = w.life; space = c.take_at.new.self } in
    let b = goal.at.returns-clause-changed c in
    let left : without_named c.args.addr seg (bare_all w.space.pieces) ≡ f (bare_all w.space.pieces) = ap (λ (o : Option ℕ). without_segment c.args.addr o (bare_all w.space.pieces)) c.in_ok-seg.ensures.segment in
    let flat : bare_all v.space.pieces ≡ f (bare_all w.space.pieces) = c.in_ok-seg.ensures.flat ∙ left in
    is_changed _ es t c.release.new.self i w v f c.requires.there (stands b.After-index_mut) refl flat (ap (λ (s : SpaceView). s.most) c.in_ok-seg.ensures.kept)
    (λ extra s. fit-attach extra es t i c.args.addr s)
    (λ all. rw (ap (λ (s : SpaceView). s.pieces) c.in_ok-seg.ensures.kept) (tables-filter t.slab (λ (p : Piece). not (stored_named c.args.addr seg p)) w.space.pieces all))
    (λ tied. record {
      counts = λ id. omega (arith, named b.After-pieces id, c.release.ensures.counts id, ap (pieces_of id) left);
      tables = c.release.ensures.tables;
      tied = c.release.ensures.tied;
    })
    c.release.ensures.tables c.release.ensures.translated
