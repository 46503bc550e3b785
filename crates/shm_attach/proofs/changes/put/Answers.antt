use Rattle.shm_attach.proofs.Names.{SpaceView, ap, values_of, common_steps, ◌≡◌, refl, sym, arith, Some, slice_get, length-map, inserted, bare, bare_all, IsPlaceFor, Runner}
use Rattle.shm_attach.proofs.Processes.{pieces_of-inserted, some_if-le}
use Rattle.shm_attach.proofs.HavingTables.{most_at-value, pieces_at-stored, tables-inserted}
use Rattle.shm_attach.proofs.Sound.{fit-inserted, is_changed, counts-small}
use Rattle.shm_attach.proofs.changes.put.Goals.{After-index_mut}
use Rattle.shm_attach.proofs.changes.put.Goals as goal

stands : (c : After-index_mut) → Some c.index_mut.result.now ≡ slice_get (values_of c.args.processes.now.entries) c.args.index
stands c = sym c.index_mut.ensures.value

place : (c : After-index_mut) → IsPlaceFor (bare c.args.piece) (bare_all c.index_mut.result.now.space.pieces)
place c = rw (← pieces_at-stored c.args.processes.now.entries c.args.index c.index_mut.result.now (stands c)) c.requires.place

pub replace-requires-clause-fits : goal.replace-requires-clause-fits
replace-requires-clause-fits c = omega (arith, counts-small c.args.processes.now.entries c.args.tables.now c.requires.reservations c.args.piece.seg)

pub insert-requires-clause-room : goal.insert-requires-clause-room
insert-requires-clause-room c =
    let es = c.args.processes.now.entries in
    let i = c.args.index in
    let at = stands (goal.at.insert-requires-clause-room c).After-index_mut in
    let shown = pieces_at-stored es i c.index_mut.result.now at in
    let room = rw (shown, most_at-value es i c.index_mut.result.now at) at c.requires.room in
    omega (arith, room, length-map c.index_mut.result.now.space.pieces bare)

pub insert-requires-clause-free : goal.insert-requires-clause-free
insert-requires-clause-free c = (place (goal.at.insert-requires-clause-free c).After-index_mut).free

pub returns : goal.returns
returns c =
    let es = c.args.processes.now.entries in
    let i = c.args.index in
    let t = c.args.tables.now in
    let p = c.args.piece in
    let w = c.index_mut.result.now in
    let v : Runner = record { life = w.life; space = c.insert.new.self } in
    let at = stands (goal.at.returns c).After-index_mut in
    is_changed _ es t c.replace.new.self i w v (inserted (bare p)) c.requires.there at refl c.insert.ensures.flat (ap (λ (s : SpaceView). s.most) c.insert.ensures.kept)
    (λ extra s. fit-inserted extra es t i (bare p) s c.requires.place c.requires.live)
    (λ all. rw (ap (λ (s : SpaceView). s.pieces) c.insert.ensures.kept) (tables-inserted t.slab p w.space.pieces c.requires.table all))
    (λ tied. record {
      counts = λ id. omega (arith, c.replace.ensures.counts id, pieces_of-inserted id (bare p) (bare_all w.space.pieces), some_if-le id p.seg 0);
      tables = c.replace.ensures.tables;
      tied = c.replace.ensures.tied;
    })
    (grind (arith, common_steps)) c.replace.ensures.translated
