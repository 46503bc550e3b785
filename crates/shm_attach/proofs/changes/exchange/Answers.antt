use Rattle.shm_attach.proofs.Names.{◌≡◌, ◌+◌, ◌*◌, ◌<◌, ◌≤◌, ◌∙◌, ap, arith, List, length, common_steps, cut, end_of, inserted, bare, runner_view, runners_view, with_pieces_at, pieces_at, AreTablesSound, no_reservations, one_reserved, HasTable, length-map, MOST_PIECES}
use Rattle.shm_base.specs.State as flat
use Rattle.shm_attach.proofs.Processes.{some_if-le}
use Rattle.shm_attach.proofs.Keeping.{pieces_at-changed, with_pieces_at-const, with_pieces_at-twice}
use Rattle.shm_attach.proofs.Bases.{place-range}
use Rattle.shm_attach.proofs.Sound.{sound-reserved, counts-small, one_more_reserved, counts_reserved}
use Rattle.shm_attach.proofs.changes.exchange.Goals.{After-take_range, After-put}
use Rattle.shm_attach.proofs.changes.exchange.Goals as goal

-- THE RANGE IS FREE

abbrev rest : (c : After-take_range) → List flat.Piece → List flat.Piece
rest c = cut c.args.piece.base (end_of (bare c.args.piece))

within : (c : After-take_range) → c.args.index < length (runners_view c.args.processes.now.entries)
within c = omega (arith, c.requires.can.there, length-map c.args.processes.now.entries runner_view)

runners : (c : After-take_range) → runners_view c.take_range.new.processes.entries ≡ with_pieces_at (runners_view c.args.processes.now.entries) c.args.index (rest c)
runners c = grind (arith, common_steps)

own : (c : After-take_range) → pieces_at (runners_view c.take_range.new.processes.entries) c.args.index ≡ rest c (pieces_at (runners_view c.args.processes.now.entries) c.args.index)
own c = ap (λ rs. pieces_at rs c.args.index) (runners c) ∙ pieces_at-changed (runners_view c.args.processes.now.entries) c.args.index (rest c) (within c)

cleared : (c : After-take_range) → AreTablesSound (one_reserved c.args.piece.seg) c.take_range.new.processes.entries c.take_range.new.tables
cleared c = c.take_range.ensures.sound (one_reserved c.args.piece.seg) c.requires.reserved

table : (c : After-take_range) → HasTable c.take_range.new.tables.slab c.args.piece
table c = c.take_range.ensures.tables c.args.piece c.requires.can.table (counts_reserved c.args.piece.seg c.take_range.new.processes.entries c.take_range.new.tables (cleared c))

pub put-requires-clause-place : goal.put-requires-clause-place
put-requires-clause-place c =
    let b = (goal.at.put-requires-clause-place c).After-take_range in
    let ps = pieces_at (runners_view c.args.processes.now.entries) c.args.index in
    let can = c.requires.can in
    let room : length (cut c.args.piece.base (c.args.piece.base + 4096 * c.args.piece.pages) ps) + 1 ≤ MOST_PIECES = omega (arith, can.room, can.most) in
    rw (own b) (place-range (bare c.args.piece) ps can.some can.few can.range room)

pub put-requires-clause-room : goal.put-requires-clause-room
put-requires-clause-room c = rw (own (goal.at.put-requires-clause-room c).After-take_range, c.take_range.ensures.most c.args.index) c.requires.can.room

pub put-requires-clause-table : goal.put-requires-clause-table
put-requires-clause-table c = table (goal.at.put-requires-clause-table c).After-take_range

pub put-requires-clause-reservations : goal.put-requires-clause-reservations
put-requires-clause-reservations c = one_more_reserved c.args.piece.seg c.take_range.new.processes.entries c.take_range.new.tables (cleared (goal.at.put-requires-clause-reservations c).After-take_range)

-- THE PIECE IS THERE

placed : (c : After-put) → AreTablesSound (one_reserved c.args.piece.seg) c.put.new.processes.entries c.put.new.tables
placed c = c.put.ensures.sound (one_reserved c.args.piece.seg) (c.take_range.ensures.sound (one_reserved c.args.piece.seg) c.requires.reserved)

pub replace-requires : goal.replace-requires
replace-requires c =
    let seg = c.args.piece.seg in
    let b = goal.at.replace-requires c in
    let sound = placed b.After-put in
    let small = counts-small c.put.new.processes.entries c.put.new.tables (one_more_reserved seg c.put.new.processes.entries c.put.new.tables sound) seg in
    record {
      own = (c.put.ensures.tables c.args.piece (table b.After-take_range)).seg;
      gone = counts_reserved seg c.put.new.processes.entries c.put.new.tables sound;
      fits = omega (arith, small);
      tied = sound.tied;
    }

pub returns : goal.returns
returns c =
    let seg = c.args.piece.seg in
    let i = c.args.index in
    let rs = runners_view c.args.processes.now.entries in
    let b = goal.at.returns c in
    let f = rest b.After-take_range in
    record {
      runners =
          c.put.ensures.runners
          ∙ ap (λ xs. with_pieces_at xs i (inserted (bare c.args.piece))) (runners b.After-take_range)
          ∙ with_pieces_at-twice rs i f (inserted (bare c.args.piece)) (within b.After-take_range)
          ∙ with_pieces_at-const rs i (λ ps. inserted (bare c.args.piece) (f ps)) (within b.After-take_range);
      count = c.put.ensures.count ∙ c.take_range.ensures.count;
      most = λ j. c.put.ensures.most j ∙ c.take_range.ensures.most j;
      sound =
          sound-reserved (one_reserved seg) no_reservations c.put.new.processes.entries c.put.new.tables c.replace.new.self (placed b.After-put)
          (λ id. omega (arith, c.replace.ensures.counts id, some_if-le id seg 0)) c.replace.ensures.tied c.replace.ensures.tables;
      translated = λ at all. c.replace.ensures.translated at (c.put.ensures.translated at (c.take_range.ensures.translated at all));
    }
