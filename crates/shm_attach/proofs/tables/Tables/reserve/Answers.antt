use Rattle.shm_attach.proofs.Names.{◌≡◌, ◌∙◌, sym, refl, arith, eq-eqb, false, Some, get, frame_of, seg_in, HasTable, Piece}
use Rattle.shm_attach.proofs.Processes.{some_if-le}
use Rattle.shm_attach.proofs.Tied.{table-counted}
use Rattle.shm_attach.proofs.tables.Tables.reserve.Given.{Over}
use Rattle.shm_attach.proofs.tables.Tables.reserve.Goals.{After-replace}
use Rattle.shm_attach.proofs.tables.Tables.reserve.Goals as goal

-- a piece of all pages, which would have the table
abbrev whole : (g : Over) (c : After-replace g) → Piece
whole g c = record { base = 0; seg = c.args.seg; first_page = 0; pages = c.args.pages; writable = false; may_write = false; key = c.in-Some.key }

there : (g : Over) (c : After-replace g) → HasTable c.replace.new.self.slab (whole g c)
there g c =
    let t = c.args.self.now in
    let seg = c.args.seg in
    let own : seg_in (get t.slab c.in-Some.key) ≡ Some seg = c.requires.tied.keyed seg c.in-Some.key (sym c.in-Some.ensures) in
    let before : HasTable c.extend.new.self.slab (whole g c) =
    record { seg = c.in_ok-extend.ensures.seg c.in-Some.key ∙ own; pages = omega (arith, c.in_ok-extend.ensures.pages seg own) } in
    let counts = rw (eq-eqb seg seg refl) at (c.replace.ensures.counts seg) in
    c.replace.ensures.tables (whole g c) before (omega (arith, counts))

pub returns-in-Some-clause-tables : goal.returns-in-Some-clause-tables
returns-in-Some-clause-tables g c = λ p own.
    let some = table-counted c.args.self.now p c.requires.tied own in
    c.replace.ensures.tables p (c.in_ok-extend.ensures.tables p own) (omega (arith, some, c.in_ok-extend.ensures.counts p.seg, c.replace.ensures.counts p.seg, some_if-le p.seg c.args.seg 0))

pub returns-in-Some-clause-seg : goal.returns-in-Some-clause-seg
returns-in-Some-clause-seg g c = (there g c).seg

pub returns-in-Some-clause-pages : goal.returns-in-Some-clause-pages
returns-in-Some-clause-pages g c = let has = (there g c).pages in omega (arith, has)

pub returns-in-Some-clause-translated : goal.returns-in-Some-clause-translated
returns-in-Some-clause-translated g c = λ all. c.replace.ensures.translated (frame_of c.args.store.now) (c.in_ok-extend.ensures.translated all)
