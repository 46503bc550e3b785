use Rattle.shm_attach.proofs.Names.{◌≡◌, ℕ, ◌+◌, ◌-◌, ◌/◌, ◌<◌, ◌∙◌, true, refl, sym, arith, common_steps, true≢false, bare, bare_all, IsCovering, get, size_in, HasTable}
use Rattle.shm_base.specs.State.{Piece}
use Rattle.shm_attach.proofs.Accesses.{wanted_in-run, wanted_in-none, wanted_in-readonly, covering-passes, in_page}
use Rattle.shm_attach.proofs.HavingTables.{frame-true, key-held, table-of}
use Rattle.shm_attach.proofs.spans.span_in.Goals as goal
use Rattle.shm_attach.proofs.spans.span_in.Goals.{else-write-via-then-write+else-not-piece, else-write-via-else-write}

pub returns-in_err-piece-clause-none : goal.returns-in_err-piece-clause-none
returns-in_err-piece-clause-none c = grind (arith, common_steps, wanted_in-none)

pub returns-then-not-piece-clause-none : goal.returns-then-not-piece-clause-none
returns-then-not-piece-clause-none c = grind (arith, common_steps, wanted_in-readonly)

pub returns-clause-some : goal.returns-clause-some
returns-clause-some c =
    let q = c.in_ok-piece.piece in
    let p = bare q in
    let t = c.args.tables.now.slab in
    let ps = c.args.space.now.pieces in
    let within : IsCovering c.args.addr q = c.in_ok-piece.ensures.within in
    let page = c.byte_at-at.result / 4096 in
    let may : c.args.write ≡ true → p.writable ≡ true =
    elim c.else-write.branch [
      | else-write-via-then-write+else-not-piece w ↦ λ _. w.if-not-piece.false
      | else-write-via-else-write w ↦ λ writes. absurd (true≢false (sym writes ∙ w.if-write.false))
    ] in
    record {
      places =
          rw c.byte_at-at.ensures
          (wanted_in-run c.args.write (bare_all ps) p c.args.addr c.args.len may within.from
          (λ b from to.
          c.in_ok-piece.ensures.whole b (omega (arith, within.from, from))
          (in_page p.base p.pages c.args.addr b c.args.len within.fit.aligned within.from within.to c.requires.page to)));
      within = omega (arith, c.byte_at-at.ensures, within.from, within.fit.aligned, c.requires.page);
      size = refl;
      low = omega (arith, within.to, within.fit.within);
      pages = λ test all.
          let own : page ≡ p.first_page + (c.args.addr - p.base) / 4096 = omega arith in
          let inside : (c.args.addr - p.base) / 4096 < p.pages = omega (arith, within.from, within.to) in
          rw own
          (covering-passes (λ (x : Piece). (j : ℕ) → j < x.pages → test x.seg (x.first_page + j) ≡ true) c.args.addr (bare_all ps) p all
          (sym c.in_ok-piece.ensures.value) ((c.args.addr - p.base) / 4096) inside);
      frames = λ at all.
          let own : HasTable t q = table-of t ps q c.requires.tables c.in_ok-piece.ensures.among in
          let inside : page < size_in (get t q.key) = omega (arith, within.from, within.to, own.pages) in
          c.frame.ensures ∙ frame-true at (get t q.key) q.seg page own.seg (all q.key) inside;
    }

pub frame-requires : goal.frame-requires
frame-requires c =
    let t = c.args.tables.now.slab in
    key-held t c.in_ok-piece.piece (table-of t c.args.space.now.pieces c.in_ok-piece.piece c.requires.tables c.in_ok-piece.ensures.among)
