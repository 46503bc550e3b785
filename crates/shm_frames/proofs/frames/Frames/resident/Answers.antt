use Rattle.std.proofs.Common.{arith}
use Rattle.shm_frames.proofs.Shown.{shown, length-shown, resident-shown}
use Rattle.shm_frames.proofs.Counts.{resident-le}
use Rattle.shm_frames.proofs.frames.Frames.resident.Goals as goal

pub returns-clause-count : goal.returns-clause-count
returns-clause-count c = rw (c.from.ensures, resident-shown (shown c.self.inside c.self.invariant.0 c.self.view_is)) c.self.invariant.3.resident

pub returns-clause-few : goal.returns-clause-few
returns-clause-few c =
    let s = shown c.self.inside c.self.invariant.0 c.self.view_is in
    omega (arith, c.from.ensures, length-shown s, c.self.invariant.0.within, resident-le c.self.inside.table.items c.self.inside.first_free c.self.inside.resident c.self.inside.dirty c.self.invariant.3)
