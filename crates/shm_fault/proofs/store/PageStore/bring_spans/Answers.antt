use Rattle.shm_fault.proofs.Names.{PagerFault, arith}
use Rattle.shm_fault.specs.Store.{frame_of}
use Rattle.shm_fault.proofs.Visits.{brings-none, none-of, one-of, two-of}
use Rattle.shm_fault.proofs.store.PageStore.bring_spans.Goals.{in-empty, in-len1, in-len2-up}
use Rattle.shm_fault.proofs.store.PageStore.bring_spans.Goals as goal

pub bring_two-brought-requires-clause-frames : goal.bring_two-brought-requires-clause-frames
unfolding frame_of
bring_two-brought-requires-clause-frames g c = (c.requires.frames 0 _ (omega arith), c.requires.frames 1 _ (omega arith))

pub bring_one-brought-requires-clause-frame : goal.bring_one-brought-requires-clause-frame
unfolding frame_of
bring_one-brought-requires-clause-frame g c = c.requires.frames 0 _ (omega arith)

pub returns-clause-brings : goal.returns-clause-brings
returns-clause-brings g c =
    elim c.if-spans-lt1.branch [
      | in-empty w ↦ rw (w.self-is, w.touched-is, w.brought-is) (rw (none-of c.args.spans.now (omega arith)) at (brings-none {E = PagerFault} c.args.self.now c.args.touched.now (record { first = 0; second = 0 }) c.requires.none))
      | in-len1 w ↦ rw (w.self-is, w.touched-is, w.brought-is) (rw (one-of c.args.spans.now (omega arith)) at w.bring_one-brought.ensures)
      | in-len2-up w ↦ rw (w.self-is, w.touched-is, w.brought-is) (rw (two-of c.args.spans.now (omega (arith, c.requires.few))) at w.bring_two-brought.ensures)
    ]
