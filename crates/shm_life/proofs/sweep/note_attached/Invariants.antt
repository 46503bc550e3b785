use Rattle.shm_life.proofs.Names.{◌≡◌, take, attach_all}
use Rattle.shm_life.proofs.sweep.note_attached.Given as goal

abbrev pub invariant-loop-seg : goal.invariant-loop-seg
invariant-loop-seg g l = l.segments ≡ record l.initial.segments { table = attach_all l.time l.pid l.initial.segments.table (take l.seg-index l.ids) }
