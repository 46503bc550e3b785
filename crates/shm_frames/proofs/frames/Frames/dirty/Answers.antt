use Rattle.shm_frames.proofs.Shown.{shown, resident-shown, dirty-shown}
use Rattle.shm_frames.proofs.Counts.{dirty-le-resident}
use Rattle.shm_frames.proofs.frames.Frames.dirty.Goals as goal

pub returns-clause-count : goal.returns-clause-count
returns-clause-count c = rw (c.from.ensures, dirty-shown (shown c.self.inside c.self.invariant.0 c.self.view_is)) c.self.invariant.3.dirty

pub returns-clause-few : goal.returns-clause-few
returns-clause-few c =
    let s = shown c.self.inside c.self.invariant.0 c.self.view_is in
    rw (c.from.ensures, resident-shown s, ← c.self.invariant.3.resident) (dirty-le-resident c.self.inside.table.items c.self.inside.first_free c.self.inside.resident c.self.inside.dirty c.self.invariant.3)
