use Rattle.shm_attach.proofs.Names.{SpaceView, values_of, ◌≡◌, ℕ, ◌+◌, ◌≤◌, ◌∙◌, ap, sym, refl, arith, List, Some, slice_get, length, filter, common_steps, All, meets, cut, pieces_of, bare, bare_all, arranged_filter, runners_view, pieces_at, MOST_PIECES, counted, stored_at, HasTable, Piece, Runner}
use Rattle.shm_attach.proofs.Processes.{bare-met, cut-unmet, met-meets, pieces_of-filter, pieces_of-cut_met}
use Rattle.shm_attach.proofs.HavingTables.{most_at-value, pieces_at-stored, stored_at-value, tables-cut, tables-filter}
use Rattle.shm_attach.proofs.Sound.{fit-cut, is_changed, counts-small, counts-own}
use Rattle.shm_attach.proofs.changes.take_range.Goals.{After-index_mut, After-met-met}
use Rattle.shm_attach.proofs.changes.take_range.Goals as goal

stands : (c : After-index_mut) → Some c.index_mut.result.now ≡ slice_get (values_of c.args.processes.now.entries) c.args.index
stands c = sym c.index_mut.ensures.value

shown : (c : After-index_mut) → pieces_at (runners_view c.args.processes.now.entries) c.args.index ≡ bare_all c.index_mut.result.now.space.pieces
shown c = pieces_at-stored c.args.processes.now.entries c.args.index c.index_mut.result.now (stands c)

own : (c : After-index_mut) → stored_at c.args.processes.now.entries c.args.index ≡ c.index_mut.result.now.space.pieces
own c = stored_at-value c.args.processes.now.entries c.args.index c.index_mut.result.now (stands c)

mine : (c : After-index_mut) (id : ℕ) → pieces_of id (bare_all c.index_mut.result.now.space.pieces) ≤ counted c.args.tables.now id
mine c id = rw (← shown c) (counts-own c.args.processes.now.entries c.args.tables.now c.args.index c.requires.reservations c.requires.there id)

few : (c : After-met-met) → length (cut c.args.from c.args.to (pieces_at (runners_view c.args.processes.now.entries) c.args.index)) ≤ MOST_PIECES
few c = omega (arith, c.requires.room, most_at-value c.args.processes.now.entries c.args.index c.index_mut.result.now (sym c.index_mut.ensures.value), c.met-met.ensures.most)

pub recount-requires-clause-fit : goal.recount-requires-clause-fit
recount-requires-clause-fit c = grind (arith, common_steps, arranged_filter)

pub recount-requires-clause-meets : goal.recount-requires-clause-meets
recount-requires-clause-meets c = rw c.met-met.ensures.value (met-meets c.args.from c.args.to c.index_mut.result.now.space.pieces)

pub recount-requires-clause-tables : goal.recount-requires-clause-tables
recount-requires-clause-tables c =
    let t = c.args.tables.now.slab in
    let all : All (HasTable t) c.index_mut.result.now.space.pieces =
    rw (own (goal.at.recount-requires-clause-tables c).After-index_mut) at (c.requires.reservations.sound.tables c.args.index) in
    rw c.met-met.ensures.value (tables-filter t (λ (p : Piece). meets c.args.from c.args.to (bare p)) c.index_mut.result.now.space.pieces all)

pub recount-requires-clause-counted : goal.recount-requires-clause-counted
recount-requires-clause-counted c = λ id.
    let ps = bare_all c.index_mut.result.now.space.pieces in
    let all = mine (goal.at.recount-requires-clause-counted c).After-index_mut id in
    rw (c.met-met.ensures.value, bare-met c.args.from c.args.to c.index_mut.result.now.space.pieces)
    (omega (arith, all, pieces_of-filter id (meets c.args.from c.args.to) ps))

pub recount-requires-clause-small : goal.recount-requires-clause-small
recount-requires-clause-small c = λ id. omega (arith, counts-small c.args.processes.now.entries c.args.tables.now c.requires.reservations id)

pub cut-requires-clause-few : goal.cut-requires-clause-few
cut-requires-clause-few c =
    let at = (goal.at.cut-requires-clause-few c).After-index_mut in
    let room = c.requires.room in
    rw (shown at, most_at-value c.args.processes.now.entries c.args.index c.index_mut.result.now (stands at)) at room

-- nothing is met, so nothing changes
pub returns-then-is_empty : goal.returns-then-is_empty
returns-then-is_empty c =
    let es = c.args.processes.now.entries in
    let i = c.args.index in
    let w = c.index_mut.result.now in
    let b = goal.at.returns-then-is_empty c in
    let t = c.args.tables.now in
    let f = cut c.args.from c.args.to in
    let none : f (bare_all w.space.pieces) ≡ bare_all w.space.pieces = cut-unmet c.args.from c.args.to w.space.pieces (grind (arith, common_steps)) in
    is_changed _ es t t i w w f c.requires.there (stands b.After-index_mut) refl (sym none) refl (λ extra s. fit-cut extra es t i c.args.from c.args.to s c.requires.range (few b.After-met-met)) (λ all. all)
    (λ tied. record { counts = λ id. ap (λ qs. counted t id + pieces_of id qs) (sym none); tables = λ p has some. has; tied = tied }) (λ p has some. has) (λ at all. all)

-- the new counts of the met pieces are those of all pieces
cut_counts : (from to a b id : ℕ) (met own : List Piece) → bare_all met ≡ filter (meets from to) (bare_all own)
    → b + pieces_of id (bare_all met) ≡ a + pieces_of id (cut from to (bare_all met)) → b + pieces_of id (bare_all own) ≡ a + pieces_of id (cut from to (bare_all own))
cut_counts from to a b id met own same counts =
    let some : b + pieces_of id (filter (meets from to) (bare_all own)) ≡ a + pieces_of id (cut from to (filter (meets from to) (bare_all own))) = rw same at counts in
    omega (arith, some, pieces_of-cut_met id from to (bare_all own))

pub returns : goal.returns
returns c =
    let es = c.args.processes.now.entries in
    let i = c.args.index in
    let from = c.args.from in
    let to = c.args.to in
    let t = c.args.tables.now in
    let w = c.index_mut.result.now in
    let v : Runner = record { life = w.life; space = c.cut.new.self } in
    let b = goal.at.returns c in
    let same = ap bare_all c.met-met.ensures.value ∙ bare-met from to w.space.pieces in
    is_changed _ es t c.recount.new.tables i w v (cut from to) c.requires.there (stands b.After-index_mut) refl c.cut.ensures.flat (ap (λ (s : SpaceView). s.most) c.cut.ensures.kept)
    (λ extra s. fit-cut extra es t i from to s c.requires.range (few b.After-met-met))
    (λ all. rw (ap (λ (s : SpaceView). s.pieces) c.cut.ensures.kept) (tables-cut t.slab from to w.space.pieces all))
    (λ tied. record {
      counts = λ id. cut_counts from to (counted t id) (counted c.recount.new.tables id) id c.met-met.result.now w.space.pieces same (c.recount.ensures.counts id);
      tables = c.recount.ensures.tables;
      tied = c.recount.ensures.tied;
    })
    c.recount.ensures.tables c.recount.ensures.translated
