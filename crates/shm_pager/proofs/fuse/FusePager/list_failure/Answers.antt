use Rattle.std.proofs.Common.{◌≤◌, arith}
use Rattle.shm_pager_core.specs.Pages.{last_count, pager_seen}
use Rattle.shm_pager_core.specs.Failing.{places}
use Rattle.shm_pager.specs.Fuse.{FuseView}
use Rattle.shm_pager.proofs.Later.{later-reads, later-writes}
use Rattle.shm_pager.proofs.fuse.FusePager.list_failure.Goals as goal

pub returns-then-failure-clause-later : goal.returns-then-failure-clause-later
returns-then-failure-clause-later g c some =
    let seen = pager_seen g.P.Pager.content g.P.Pager.failed g.P.Pager.most g.P.Pager.calls in
    let self = c.self.inside in
    let f : FuseView = record { inner = seen self.inner; side = record { bad_reads = self.bad_reads.items; bad_writes = self.bad_writes.items; reads_end = self.reads_end; writes_end = self.writes_end; bad_slots = self.bad_slots.items; had_bad_slots = self.had_bad_slots; reads = self.reads; writes = self.writes }; failed = self.failed } in
    let writes : self.writes ≤ last_count = omega arith in
    rw (← c.self.view_is) (later-writes c.args.failure.now f some c.list_call.result (places c.list_call.new.listed.items c.list_call.new.end) writes c.list_call.ensures.ok)

pub returns-else-failure-clause-later : goal.returns-else-failure-clause-later
returns-else-failure-clause-later g c some =
    let seen = pager_seen g.P.Pager.content g.P.Pager.failed g.P.Pager.most g.P.Pager.calls in
    let self = c.self.inside in
    let f : FuseView = record { inner = seen self.inner; side = record { bad_reads = self.bad_reads.items; bad_writes = self.bad_writes.items; reads_end = self.reads_end; writes_end = self.writes_end; bad_slots = self.bad_slots.items; had_bad_slots = self.had_bad_slots; reads = self.reads; writes = self.writes }; failed = self.failed } in
    let reads : self.reads ≤ last_count = omega arith in
    rw (← c.self.view_is) (later-reads c.args.failure.now f some c.list_call-else-failure.result (places c.list_call-else-failure.new.listed.items c.list_call-else-failure.new.end) reads c.list_call-else-failure.ensures.ok)
