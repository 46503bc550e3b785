use Rattle.shm_fault.proofs.Names.{◌≡◌, ◌<◌, ◌≤◌, ◌+◌, ◌-◌, ℕ, true, false, length, sym, ◌∙◌, refl, arith, frame_at, may_flush, seen}
use Rattle.shm_fault.proofs.Flushes.{Flushed, flushed-none, flushed-not, flushed-more, flushed-past, flushed-full, flushed-all}
use Rattle.shm_fault.proofs.store.PageStore.flush.Goals.{After-next_dirty, then-is_flushable, else-is_flushable}
use Rattle.shm_fault.proofs.store.PageStore.flush.Goals as goal

-- what was flushed, up to a frame below which none of those that follow is dirty
past : (g : _) (c : After-next_dirty g) (last : ℕ) → c.loop-from.from ≤ last → ((i : ℕ) → c.loop-from.from ≤ i → i < last → (frame_at c.self-in-loop-from.inside.frames i).dirty ≡ false)
    → Flushed c.args.n c.args.self.now last c.loop-from.self c.loop-from.report.written c.loop-from.report.failed
past g c last le clean =
    let s = c.args.self.now in
    let t = c.loop-from.self in
    let from = c.loop-from.from in
    let off : (i : ℕ) → from ≤ i → i < last → (frame_at t.frames i).dirty ≡ false = rw (← c.self-in-loop-from.view_is) clean in
    let sum : from + (last - from) ≡ last = omega (arith, le) in
    (rw sum at (flushed-past c.args.n s from (last - from) t c.loop-from.report.written c.loop-from.report.failed (λ i past lt. off i past (omega (arith, lt, le))) c.loop-from.invariant.0))

pub loop-from-init : goal.loop-from-init
loop-from-init g c = rw (← c.self.view_is) (flushed-none c.args.n (seen c.self.inside) c.self.invariant.0, omega arith)

pub loop-from-preserved : goal.loop-from-preserved
loop-from-preserved g c =
    let o = (goal.at.loop-from-preserved g c).After-next_dirty in
    let n = c.args.n in
    let s = c.args.self.now in
    let u = c.loop-from.self in
    let i = c.in-Some.frame in
    let wrote = c.loop-from.report.written in
    let failed = c.loop-from.report.failed in
    let found = c.in-Some.ensures.some in
    let d : Flushed n s i u wrote failed = past g o i found.past c.in-Some.ensures.least in
    let there : i < length u.frames = rw (← c.self-in-loop-from.view_is) found.there in
    let within : i + 1 ≤ length s.frames = omega (arith, there, d.goes.size) in
    elim c.if-is_flushable.branch [
      | then-is_flushable w ↦
          let e = w.flush_frame.ensures in
          let may : may_flush u i ≡ true = sym c.is_flushable.ensures ∙ w.if-is_flushable.true in
          let new = w.flush_frame.new in
          rw (w.self-is, w.report-is)
          (flushed-more n s i u wrote failed d new.self new.report.written new.report.failed c.if-report-n.true may there e.frames e.goes e.still e.sound e.sum e.failed e.counted e.written_out e.rest e.placed, within)
      | else-is_flushable w ↦
          let may : may_flush u i ≡ false = sym c.is_flushable.ensures ∙ w.if-is_flushable.false in
          rw (w.self-is, w.report-is) (flushed-not n s i u wrote failed d may, within)
    ]

pub returns-in_default-clause-flushed : goal.returns-in_default-clause-flushed
returns-in_default-clause-flushed g c =
    let o = (goal.at.returns-in_default-clause-flushed g c).After-next_dirty in
    let s = c.args.self.now in
    let last = length s.frames in
    flushed-all c.args.n s last c.loop-from.self c.loop-from.report.written c.loop-from.report.failed refl (past g o last c.loop-from.invariant.1 (λ i le lt. c.in_default.ensures.least i le))

pub returns-else-report-n-clause-flushed : goal.returns-else-report-n-clause-flushed
returns-else-report-n-clause-flushed g c =
    let s = c.args.self.now in
    let t = c.loop-from.self in
    let from = c.loop-from.from in
    let wrote = c.loop-from.report.written in
    let failed = c.loop-from.report.failed in
    let sum : from + (length s.frames - from) ≡ length s.frames = omega (arith, c.loop-from.invariant.1) in
    flushed-all c.args.n s (from + (length s.frames - from)) t wrote failed sum (flushed-full c.args.n s from (length s.frames - from) t wrote failed c.if-report-n.false c.loop-from.invariant.0)

pub returns-after-loop-from-clause-flushed : goal.returns-after-loop-from-clause-flushed
returns-after-loop-from-clause-flushed g c =
    let s = c.args.self.now in
    let count : c.count-count.result ≡ length s.frames = rw (← c.self.view_is) c.count-count.ensures.size in
    flushed-all c.args.n s c.loop-from.from c.loop-from.self c.loop-from.report.written c.loop-from.report.failed (omega (arith, count, c.loop-from-test.false, c.loop-from.invariant.1)) c.loop-from.invariant.0
