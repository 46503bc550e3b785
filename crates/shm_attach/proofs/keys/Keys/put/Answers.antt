use Rattle.shm_attach.proofs.ByIndex.{put-key}
use Rattle.shm_attach.proofs.keys.Keys.put.Goals as goal

pub returns : goal.returns
returns c id =
    rw (c.place_of.ensures, ← c.self.view_is)
    (put-key c.self.inside.entries.items c.args.seg c.args.key (rw (← c.self.view_is) at c.requires.room) (rw (← c.self.view_is) at c.requires.free) id)
