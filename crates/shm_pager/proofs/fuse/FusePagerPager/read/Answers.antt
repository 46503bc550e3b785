use Rattle.std.proofs.Common.{◌≡◌, ◌||◌, refl, ◌≤◌, ◌∙◌, ap, sym, arith}
use Rattle.shm_pager_core.specs.Pages.{last_count, pager_seen}
use Rattle.shm_pager.specs.Fuse.{FuseView}
use Rattle.shm_pager.proofs.Bounds.{bad_read, most-read, most-unread}
use Rattle.shm_pager.proofs.fuse.FusePagerPager.read.Goals as goal
use Rattle.shm_pager.proofs.fuse.FusePagerPager.read.Goals.{then-next_call, else-next_call}

pub returns-then-read_if-clause-most : goal.returns-then-read_if-clause-most
returns-then-read_if-clause-most g c =
    let seen = pager_seen g.P.Pager.content g.P.Pager.failed g.P.Pager.most g.P.Pager.calls in
    let self = c.self.inside in
    let f : FuseView = record { inner = seen self.inner; side = record { bad_reads = self.bad_reads.items; bad_writes = self.bad_writes.items; reads_end = self.reads_end; writes_end = self.writes_end; bad_slots = self.bad_slots.items; had_bad_slots = self.had_bad_slots; reads = self.reads; writes = self.writes }; failed = self.failed } in
    let within : self.reads ≤ last_count = omega arith in
    let either : c.if-next_call.bad ≡ (c.next_call.result || c.is_bad_slot-is_bad_slot.result) = elim c.if-next_call.branch [
      | then-next_call w ↦ rw (w.bad-is, w.if-next_call.true) refl
      | else-next_call w ↦ rw (w.bad-is, w.if-next_call.false) refl
    ] in
    let bad = bad_read f c.args.slot c.if-next_call.bad c.next_call.result c.is_bad_slot-is_bad_slot.result c.next_call.ensures.listed (rw (← c.self.view_is) at c.is_bad_slot-is_bad_slot.ensures) either in
    rw (← c.self.view_is, c.next_call.ensures.call) (most-read f (seen c.read_if.new.pager) c.args.slot c.if-next_call.bad within bad (sym c.read_if.ensures.served ∙ c.if-read_if.true) c.read_if.ensures.asked)

pub returns-clause-most : goal.returns-clause-most
returns-clause-most g c =
    let seen = pager_seen g.P.Pager.content g.P.Pager.failed g.P.Pager.most g.P.Pager.calls in
    let self = c.self.inside in
    let f : FuseView = record { inner = seen self.inner; side = record { bad_reads = self.bad_reads.items; bad_writes = self.bad_writes.items; reads_end = self.reads_end; writes_end = self.writes_end; bad_slots = self.bad_slots.items; had_bad_slots = self.had_bad_slots; reads = self.reads; writes = self.writes }; failed = self.failed } in
    let within : self.reads ≤ last_count = omega arith in
    let either : c.if-next_call.bad ≡ (c.next_call.result || c.is_bad_slot-is_bad_slot.result) = elim c.if-next_call.branch [
      | then-next_call w ↦ rw (w.bad-is, w.if-next_call.true) refl
      | else-next_call w ↦ rw (w.bad-is, w.if-next_call.false) refl
    ] in
    let bad = bad_read f c.args.slot c.if-next_call.bad c.next_call.result c.is_bad_slot-is_bad_slot.result c.next_call.ensures.listed (rw (← c.self.view_is) at c.is_bad_slot-is_bad_slot.ensures) either in
    rw (← c.self.view_is, c.next_call.ensures.call) (most-unread f (seen c.read_if.new.pager) c.args.slot c.if-next_call.bad within bad (sym c.read_if.ensures.served ∙ c.if-read_if.false) c.read_if.ensures.asked (λ un. ap seen (c.read_if.ensures.unasked un)))
