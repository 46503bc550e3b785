use Rattle.shm_life.proofs.Names.{false, ◌∙◌, loaded, span_places}
use Rattle.shm_fault.specs.Acting.{put_by}
use Rattle.shm_life.proofs.Accessing.{did, noted, told}
use Rattle.shm_life.proofs.Changed.{written-well}
use Rattle.shm_life.proofs.kernel.Kernel.act.Goals as goal

pub invariant_of-self : goal.invariant_of-self
invariant_of-self g c = (
  (let e = c.access-done.ensures in
      let t = c.self.inside.segments.table in
      let places = span_places false c.args.spans.now in
      written-well c.access-done.result _ _ _ _ _ _ _ _ _ _ _ c.access-done.new.touched c.self.invariant.0 (noted (put_by c.args.act (loaded t places)) places t)
      e.written e.same e.keeps.frames e.access c.note.ensures.runners (rw c.as_slice.ensures.value at c.note.ensures.translated)),
  c.note.ensures.most ∙ c.self.invariant.1,
  c.self.invariant.2,
)

pub returns : goal.returns
returns g c =
    let e = c.access-done.ensures in
    let r = c.access-done.result in
    rw (← c.self.view_is, c.or.ensures)
    (did c.args.act c.args.spans.now _ _ _ _ c.requires.spans.sum r e.there e.kept
    (told r _ _ _ _ _ _ _ _ _ c.args.spans.now c.access-done.new.touched c.requires.spans.few (λ k d lt. (c.requires.spans.fit k d lt).0) c.note.ensures.runners e))
