use Rattle.shm_attach.proofs.Names.{◌≡◌, ◌∙◌, None, Option, ℕ, ap, arith, refl, padded, length-padded, frame_of}
use Rattle.shm_sparse.specs.Sparse.{SparseView}
use Rattle.shm_attach.proofs.Untouched.{known-first, known-over}
use Rattle.shm_attach.proofs.table.Table.extend.Goals as goal

pub loop-page-init : goal.loop-page-init
loop-page-init g c =
    let t = c.self.inside in
    let e = c.next_placed-page.ensures in
    let at = frame_of c.args.store.now t.seg in
    let frames = ap (λ (v : SparseView (Option ℕ)). v.items) c.in_ok-extend.ensures.ok in
    let items : c.extend.new.self.items ≡ padded t.frames.items c.args.pages None = rw c.self.invariant at frames in
    record {
      seg = refl;
      count = refl;
      other = ap (λ (v : SparseView (Option ℕ)). v.other) c.in_ok-extend.ensures.ok ∙ c.self.invariant;
      size = rw items (length-padded t.frames.items c.args.pages None (omega (arith, c.len-known.ensures, c.if-pages-known.false)));
      within = e.within;
      known = λ h. rw items (known-over at c.len-known.result c.next_placed-page.result (padded t.frames.items c.args.pages None) e.on e.frames
          (rw c.len-known.ensures (known-first at c.args.pages t.frames.items (rw (← c.self.view_is) at h))));
    }

pub returns-clause-translated : goal.returns-clause-translated
returns-clause-translated g c = λ h.
    let k = c.loop-page.invariant in
    let frames = k.known h in
    λ j lt. rw k.seg (frames.known j (omega (arith, lt, k.size, c.loop-page-test.false)))
