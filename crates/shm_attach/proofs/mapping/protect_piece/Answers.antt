use Rattle.shm_attach.proofs.Names.{true≢false, most_at, ◌≡◌, ◌∙◌, ◌<◌, ◌+◌, length-map, option_to_list, ℕ, Option, bare_all, true, false, List, length, Some, ap, sym, subst, arith, common_steps, All, get, covering, cut, bare, runners_view, pieces_at, stored_at, size_in, HasTable, end_of, inserted, has_protection, low_end, high_end, part_between, turned, Stored, AreNow, noted, split_in}
use Rattle.shm_base.specs.State.{Piece}
use Rattle.shm_attach.proofs.Growing.{grows}
use Rattle.shm_attach.proofs.HavingTables.{pieces_at-bare, table-of}
use Rattle.shm_attach.proofs.Protecting.{replaced_by, IsTurnable, protects-refused, protects-turned, IsTurn, now-same, pieces-now, sized_by, turn_is, stretch_of, part_replaces}
use Rattle.shm_attach.proofs.Turned.{IsHigh, IsLow}
use Rattle.shm_attach.proofs.mapping.protect_piece.Goals.{Start, After-high_end-high, else-writable-via-then-writable+else-not-piece, else-writable-via-else-writable}
use Rattle.shm_attach.proofs.mapping.protect_piece.Goals as goal

-- WHERE NOTHING CHANGES

same : (c : Start) → AreNow c.args.processes.now.entries c.args.processes.now.entries c.args.tables.now c.args.tables.now c.args.index (pieces_at (runners_view c.args.processes.now.entries) c.args.index)
same c = now-same c.args.processes.now.entries c.args.tables.now c.args.index c.requires.process.there c.requires.process.sound

pub returns-in_default-clause-now : goal.returns-in_default-clause-now
returns-in_default-clause-now c = same (goal.at.returns-in_default-clause-now c).Start

pub returns-then-not-piece-clause-now : goal.returns-then-not-piece-clause-now
returns-then-not-piece-clause-now c = same (goal.at.returns-then-not-piece-clause-now c).Start

pub returns-then-piece-writable-clause-now : goal.returns-then-piece-writable-clause-now
returns-then-piece-writable-clause-now c = same (goal.at.returns-then-piece-writable-clause-now c).Start

pub returns-then-left-most-clause-now : goal.returns-then-left-most-clause-now
returns-then-left-most-clause-now c = same (goal.at.returns-then-left-most-clause-now c).Start

-- WHERE A PART CHANGES

found : (c : After-high_end-high) → covering c.args.at (pieces_at (runners_view c.args.processes.now.entries) c.args.index) ≡ Some (bare c.in-Some.piece)
found c = grind (arith, common_steps)

table : (c : After-high_end-high) → HasTable c.args.tables.now.slab c.in-Some.piece
table c =
    let t = c.args.tables.now.slab in
    let ps = c.space_at-space.result.now.pieces in
    let own : All (HasTable t) ps = rw c.space_at-space.ensures.stored (c.requires.process.sound.tables c.args.index) in
    table-of t ps c.in-Some.piece own c.in-Some.ensures.among

turn : (c : After-high_end-high)
    → IsTurn c.args.writable c.args.at c.args.to (bare c.in-Some.piece) (pieces_at (runners_view c.args.processes.now.entries) c.args.index) (size_in (get c.args.tables.now.slab c.in-Some.piece.key))
turn c =
    let t = c.args.tables.now in
    let p = c.in-Some.piece in
    let es = c.args.processes.now.entries in
    let sized = rw (← pieces_at-bare es c.args.index) at (sized_by t p (stored_at es c.args.index) c.requires.process.sound.tied (table c) (c.requires.process.sound.tables c.args.index)) in
    turn_is c.args.writable c.args.at c.args.to (bare p) (pieces_at (runners_view es) c.args.index) (size_in (get t.slab p.key)) (c.requires.process.sound.exact.arranged c.args.index) (found c)
    c.requires.range.from_page c.requires.range.to_page c.requires.range.order sized

low-value : (c : After-high_end-high) → c.low_end-low.result ≡ low_end c.args.writable c.args.at c.args.to (bare c.in-Some.piece) (pieces_at (runners_view c.args.processes.now.entries) c.args.index)
low-value c = c.low_end-low.ensures ∙ ap (low_end c.args.writable c.args.at c.args.to (bare c.in-Some.piece)) c.space_at-space.ensures.flat

high-value : (c : After-high_end-high) → c.high_end-high.result ≡ high_end c.args.writable c.args.at c.args.to (bare c.in-Some.piece) (pieces_at (runners_view c.args.processes.now.entries) c.args.index)
high-value c = c.high_end-high.ensures ∙ ap (high_end c.args.writable c.args.at c.args.to (bare c.in-Some.piece)) c.space_at-space.ensures.flat

low : (c : After-high_end-high) → IsLow (bare c.in-Some.piece) c.args.at c.low_end-low.result
low c = rw (low-value c) (turn c).low

high : (c : After-high_end-high) → IsHigh (bare c.in-Some.piece) (size_in (get c.args.tables.now.slab c.in-Some.piece.key)) c.args.at c.high_end-high.result
high c = rw (high-value c) (turn c).high

pub part_between-part-requires-clause-stretch : goal.part_between-part-requires-clause-stretch
part_between-part-requires-clause-stretch c =
    let b = (goal.at.part_between-part-requires-clause-stretch c).After-high_end-high in
    stretch_of (bare c.in-Some.piece) (size_in (get c.args.tables.now.slab c.in-Some.piece.key)) c.args.at c.low_end-low.result c.high_end-high.result (low b) (high b)

pub renew-requires-clause-can : goal.renew-requires-clause-can
renew-requires-clause-can c =
    let es = c.args.processes.now.entries in
    let i = c.args.index in
    let b = (goal.at.renew-requires-clause-can c).After-high_end-high in
    let room : length (cut c.low_end-low.result c.high_end-high.result (pieces_at (runners_view es) i)) < most_at es i = grind (arith, common_steps) in
    part_replaces es c.args.tables.now i c.in-Some.piece c.part_between-part.result c.args.writable c.args.at c.low_end-low.result c.high_end-high.result
    c.requires.process.there c.requires.process.live c.requires.process.most (table b) (low b) (high b) c.part_between-part.ensures.flat c.part_between-part.ensures.key room

-- it lacks the protection, and may get it
turnable : (c : After-high_end-high) → IsTurnable c.args.writable c.args.at (bare c.in-Some.piece) (pieces_at (runners_view c.args.processes.now.entries) c.args.index)
turnable c =
    let may : c.args.writable ≡ true → c.in-Some.piece.may_write ≡ true =
    elim c.else-writable.branch [
      | else-writable-via-then-writable+else-not-piece w ↦ λ _. grind (arith, common_steps)
      | else-writable-via-else-writable w ↦ λ writes. absurd (true≢false (sym writes ∙ w.if-writable.false))
    ] in
    let lacks : has_protection c.args.writable (bare c.in-Some.piece) ≡ false = grind (arith, common_steps) in
    record { found = found c; may = may; lacks = lacks }

pub returns-then-left-most-clause-protects : goal.returns-then-left-most-clause-protects
returns-then-left-most-clause-protects c = λ next.
    let es = c.args.processes.now.entries in
    let i = c.args.index in
    let b = (goal.at.returns-then-left-most-clause-protects c).After-high_end-high in
    let count = rw (low-value b, high-value b, c.space_at-space.ensures.flat) at c.count_outside-left.ensures in
    let most : c.most.result ≡ most_at es i = c.most.ensures ∙ c.space_at-space.ensures.most in
    protects-refused (most_at es i) c.args.writable c.args.at c.args.to (bare c.in-Some.piece) (pieces_at (runners_view es) i) next (turnable b)
    (omega (arith, count, most, c.if-left-most.true, (turn b).longer))

pub returns-clause-now : goal.returns-clause-now
returns-clause-now c =
    let es = c.args.processes.now.entries in
    let fs = c.renew.new.processes.entries in
    let i = c.args.index in
    subst (λ (ps : List Piece). AreNow es fs c.args.tables.now c.renew.new.tables i ps) (sym (pieces-now es fs c.args.tables.now c.renew.new.tables i _ c.requires.process.there c.renew.ensures)) c.renew.ensures

-- the pieces after the part is in
left : (c : After-high_end-high) (q : Stored) → bare q ≡ part_between c.args.writable c.low_end-low.result c.high_end-high.result (bare c.in-Some.piece)
    → inserted (bare q) (cut q.base (end_of (bare q)) (pieces_at (runners_view c.args.processes.now.entries) c.args.index))
    ≡ turned c.args.writable c.args.at c.args.to (bare c.in-Some.piece) (pieces_at (runners_view c.args.processes.now.entries) c.args.index)
left c q flat =
    let t = c.args.tables.now in
    let ps = pieces_at (runners_view c.args.processes.now.entries) c.args.index in
    let w = c.args.writable in
    let p = bare c.in-Some.piece in
    let end = c.high_end-high.result in
    replaced_by p (bare q) w (size_in (get t.slab c.in-Some.piece.key)) c.args.at c.low_end-low.result end ps flat (low c) (high c)
    ∙ ap (λ n. inserted (part_between w n end p) (cut n end ps)) (low-value c)
    ∙ ap (λ n. inserted (part_between w (low_end w c.args.at c.args.to p ps) n p) (cut (low_end w c.args.at c.args.to p ps) n ps)) (high-value c)
    ∙ sym (turn c).replaced

-- the segment that is named if the piece is split
split : (c : After-high_end-high) (left : ℕ) (o : Option ℕ) → left ≡ length (cut c.low_end-low.result c.high_end-high.result (bare_all c.space_at-space.result.now.pieces))
    → option_to_list o ≡ split_in c.in-Some.piece.seg (length c.space_at-space.result.now.pieces) (left + 1)
    → option_to_list o
    ≡ split_in c.in-Some.piece.seg (length (pieces_at (runners_view c.args.processes.now.entries) c.args.index))
    (length (turned c.args.writable c.args.at c.args.to (bare c.in-Some.piece) (pieces_at (runners_view c.args.processes.now.entries) c.args.index)))
split c left o count named =
    let ps = pieces_at (runners_view c.args.processes.now.entries) c.args.index in
    let p = bare c.in-Some.piece in
    let all = turned c.args.writable c.args.at c.args.to p ps in
    let cuts = rw (low-value c, high-value c, c.space_at-space.ensures.flat) at count in
    let before : length c.space_at-space.result.now.pieces ≡ length ps = sym (length-map c.space_at-space.result.now.pieces bare) ∙ ap length c.space_at-space.ensures.flat in
    let after : left + 1 ≡ length all = omega (arith, cuts, (turn c).longer) in
    named ∙ ap (λ n. split_in p.seg n (left + 1)) before ∙ ap (λ n. split_in p.seg (length ps) n) after

pub returns-clause-protects : goal.returns-clause-protects
returns-clause-protects c = λ next.
    let es = c.args.processes.now.entries in
    let fs = c.renew.new.processes.entries in
    let t = c.args.tables.now in
    let i = c.args.index in
    let ps = pieces_at (runners_view es) i in
    let w = c.args.writable in
    let p = bare c.in-Some.piece in
    let at = c.low_end-low.result in
    let end = c.high_end-high.result in
    let b = (goal.at.returns-clause-protects c).After-high_end-high in
    let count = rw (low-value b, high-value b, c.space_at-space.ensures.flat) at c.count_outside-left.ensures in
    let most : c.most.result ≡ most_at es i = c.most.ensures ∙ c.space_at-space.ensures.most in
    let now = pieces-now es fs t c.renew.new.tables i _ c.requires.process.there c.renew.ensures in
    let named = split b c.count_outside-left.result c.split_by-split.result c.count_outside-left.ensures c.split_by-split.ensures in
    protects-turned (most_at es i) w c.args.at c.args.to p ps next (turnable b) (omega (arith, count, most, c.if-left-most.false, (turn b).longer))
    ∙ ap (λ n. noted (split_in p.seg (length ps) (length (turned w c.args.at c.args.to p ps))) (next n (turned w c.args.at c.args.to p ps))) (sym c.end-2.ensures)
    ∙ ap (λ qs. noted (split_in p.seg (length ps) (length (turned w c.args.at c.args.to p ps))) (next c.end-2.result qs)) (sym (now ∙ left b c.part_between-part.result c.part_between-part.ensures.flat))
    ∙ ap (λ ids. noted ids (next c.end-2.result (pieces_at (runners_view fs) i))) (sym named)

pub returns-then-piece-writable-clause-grows : goal.returns-then-piece-writable-clause-grows
returns-then-piece-writable-clause-grows c = record { more = omega arith; room = tt }

pub returns-clause-grows : goal.returns-clause-grows
returns-clause-grows c =
    let es = c.args.processes.now.entries in
    let fs = c.renew.new.processes.entries in
    let i = c.args.index in
    let ps = pieces_at (runners_view es) i in
    let w = c.args.writable in
    let p = bare c.in-Some.piece in
    let b = (goal.at.returns-clause-grows c).After-high_end-high in
    let now = pieces-now es fs c.args.tables.now c.renew.new.tables i _ c.requires.process.there c.renew.ensures ∙ left b c.part_between-part.result c.part_between-part.ensures.flat in
    let count = rw (low-value b, high-value b, c.space_at-space.ensures.flat) at c.count_outside-left.ensures in
    let most : c.most.result ≡ most_at es i = c.most.ensures ∙ c.space_at-space.ensures.most in
    let named = split b c.count_outside-left.result c.split_by-split.result c.count_outside-left.ensures c.split_by-split.ensures in
    grows es fs i p.seg c.split_by-split.result (turned w c.args.at c.args.to p ps) named now
    (turn b).more
    (omega (arith, count, most, c.if-left-most.false, (turn b).longer))
