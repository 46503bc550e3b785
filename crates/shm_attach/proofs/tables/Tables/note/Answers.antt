use Rattle.shm_attach.proofs.Names.{◌≡◌, ℕ, ◌+◌, ◌∙◌, Option, List, [], ◌∷◌, get_or, sym, subst, take, take_all, moved, PageMove, Gone, AllTrue, Tables, counted, HasTable, OneTableEach, Piece}
use Rattle.shm_attach.proofs.Residency.{moved-more, true-same}
use Rattle.shm_attach.proofs.tables.Tables.note.Goals.{Joined-entry, in-Gone, in-Came}
use Rattle.shm_attach.proofs.tables.Tables.note.Goals as goal

abbrev nothing : PageMove
nothing = Gone (record { seg = 0; page = 0 })

-- one move is noted
record IsNoted (m : PageMove) (t s : Tables) : Type 0 where
  counts : (id : ℕ) → counted s id ≡ counted t id
  tables : (p : Piece) → HasTable t.slab p → HasTable s.slab p
  translated : (at : ℕ → ℕ → Option ℕ) → AllTrue at t.slab → AllTrue (λ seg page. moved (m ∷ []) seg page (at seg page)) s.slab
  tied : OneTableEach s

noted : (c : Joined-entry) → IsNoted (get_or c.args.moves.now c.loop-entry.entry-index nothing) c.loop-entry.self c.match-entry.self
noted c =
    elim c.match-entry.branch [
      | in-Gone w ↦
          rw (w.self-is, w.in-Gone.is)
          (record {
            counts = w.set.ensures.counts;
            tables = w.set.ensures.tables;
            translated = w.set.ensures.translated;
            tied = record { keyed = w.set.ensures.tied.keyed; named = w.set.ensures.tied.named; some = w.set.ensures.tied.some };
          })
      | in-Came w ↦
          rw (w.self-is, w.in-Came.is)
          (record {
            counts = w.set-in-Came.ensures.counts;
            tables = w.set-in-Came.ensures.tables;
            translated = w.set-in-Came.ensures.translated;
            tied = record { keyed = w.set-in-Came.ensures.tied.keyed; named = w.set-in-Came.ensures.tied.named; some = w.set-in-Came.ensures.tied.some };
          })
    ]

pub loop-entry-preserved : goal.loop-entry-preserved
loop-entry-preserved c =
    let ms = c.args.moves.now in
    let i = c.loop-entry.entry-index in
    let kept = c.loop-entry.invariant in
    let now = noted c in
    record {
      counts = λ id. now.counts id ∙ kept.counts id;
      tables = λ p own. now.tables p (kept.tables p own);
      translated = λ at all.
          true-same (λ seg page. moved (get_or ms i nothing ∷ []) seg page (moved (take i ms) seg page (at seg page))) (λ seg page. moved (take (i + 1) ms) seg page (at seg page)) c.match-entry.self.slab
          (λ seg page. sym (moved-more ms i nothing seg page (at seg page) c.loop-entry-test.true))
          (now.translated (λ seg page. moved (take i ms) seg page (at seg page)) (kept.translated at all));
      tied = now.tied;
    }

pub returns-clause-translated : goal.returns-clause-translated
returns-clause-translated c = λ at all.
    let ms = c.args.moves.now in
    let i = c.loop-entry.entry-index in
    let whole : take i ms ≡ ms = take_all i ms c.loop-entry-test.false in
    subst (λ (xs : List PageMove). AllTrue (λ seg page. moved xs seg page (at seg page)) c.loop-entry.self.slab) whole (c.loop-entry.invariant.translated at all)
