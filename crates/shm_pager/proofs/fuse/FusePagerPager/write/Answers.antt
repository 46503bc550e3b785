use Rattle.std.proofs.Common.{◌≤◌, ◌+◌, ◌∙◌, sym, arith}
use Rattle.std.proofs.lemmas.Grind.{common_steps}
use Rattle.shm_pager_core.specs.Pages.{last_count, pager_seen}
use Rattle.shm_pager.specs.Fuse.{FuseView}
use Rattle.shm_pager.proofs.Bounds.{bounded-fuse, most-written, most-unwritten}
use Rattle.shm_pager.proofs.fuse.FusePagerPager.write.Goals as goal
use Rattle.shm_pager.proofs.fuse.FusePagerPager.write.Goals.{then-bad, else-bad}

pub returns-clause-inner : goal.returns-clause-inner
returns-clause-inner g c =
    rw (← c.self.view_is, ← c.next_call-bad.ensures.listed) (elim c.if-bad.branch [
      | then-bad w ↦ rw w.if-bad.true (rw w.page-is at c.try_write.ensures.pager)
      | else-bad w ↦ rw w.if-bad.false (rw w.page-is at c.try_write.ensures.pager)
    ])

pub returns-then-not-bad-clause-most : goal.returns-then-not-bad-clause-most
returns-then-not-bad-clause-most g c =
    let seen = pager_seen g.P.Pager.content g.P.Pager.failed g.P.Pager.most g.P.Pager.calls in
    let self = c.self.inside in
    let f : FuseView = record { inner = seen self.inner; side = record { bad_reads = self.bad_reads.items; bad_writes = self.bad_writes.items; reads_end = self.reads_end; writes_end = self.writes_end; bad_slots = self.bad_slots.items; had_bad_slots = self.had_bad_slots; reads = self.reads; writes = self.writes }; failed = self.failed } in
    let within : self.writes ≤ last_count = omega arith in
    let taken = sym c.try_write.ensures.ok ∙ sym c.is_ok-written.ensures.value ∙ c.if-written.true in
    rw (← c.self.view_is, c.next_call-bad.ensures.call) (most-written f (seen c.try_write.new.pager) c.args.slot within (sym c.next_call-bad.ensures.listed ∙ c.if-not-bad.true) taken c.try_write.ensures.pager.counts)

pub returns-clause-most : goal.returns-clause-most
returns-clause-most g c =
    let seen = pager_seen g.P.Pager.content g.P.Pager.failed g.P.Pager.most g.P.Pager.calls in
    let self = c.self.inside in
    let f : FuseView = record { inner = seen self.inner; side = record { bad_reads = self.bad_reads.items; bad_writes = self.bad_writes.items; reads_end = self.reads_end; writes_end = self.writes_end; bad_slots = self.bad_slots.items; had_bad_slots = self.had_bad_slots; reads = self.reads; writes = self.writes }; failed = self.failed } in
    let within : self.writes ≤ last_count = omega arith in
    let taken = sym c.try_write.ensures.ok ∙ sym c.is_ok-written.ensures.value in
    rw (← c.self.view_is, c.next_call-bad.ensures.call) (most-unwritten f (seen c.try_write.new.pager) c.args.slot _ within c.next_call-bad.ensures.listed (rw taken (grind (arith, common_steps, c.else-written.either))) c.try_write.ensures.pager.counts)

pub returns-clause-bounded : goal.returns-clause-bounded
returns-clause-bounded g c =
    let seen = pager_seen g.P.Pager.content g.P.Pager.failed g.P.Pager.most g.P.Pager.calls in
    let self = c.self.inside in
    let f : FuseView = record { inner = seen c.try_write.new.pager; side = record { bad_reads = self.bad_reads.items; bad_writes = self.bad_writes.items; reads_end = self.reads_end; writes_end = self.writes_end; bad_slots = self.bad_slots.items; had_bad_slots = self.had_bad_slots; reads = self.reads; writes = c.next_call-bad.new.call }; failed = self.failed + 1 } in
    bounded-fuse f (omega (arith, rw (← c.self.view_is) at c.requires.countable))
