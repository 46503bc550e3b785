use Rattle.shm_segments.proofs.Names.{◌%◌, List, refl, ap, change, detached, with_value, joined_table, held, FlatEntry}
use Rattle.shm_segments.proofs.Finding.{is_live-look}
use Rattle.shm_segments.proofs.Keeping.{KeptAs, kept-value}
use Rattle.shm_segments.proofs.Remembered.{view_of}
use Rattle.shm_segments.proofs.segments.Segments.detached.Given.{Over}
use Rattle.shm_segments.proofs.segments.Segments.detached.Goals as goal
use Rattle.shm_segments.proofs.segments.Segments.detached.Goals.{After-value_mut-head}

kept : (g : Over) (c : After-value_mut-head g)
    → KeptAs (held c.self.inside.store) (with_value c.self.inside.table (c.args.seg % 32768) (record c.value_mut-head.result.now { dtime = c.args.time; lpid = c.args.pid })) c.self.inside.reserved c.self.inside.locked
    (change (joined_table (held c.self.inside.store) c.self.inside.table) c.args.seg (detached c.args.time c.args.pid))
kept g c = kept-value _ _ _ _ _ c.value_mut-head.result.now _ (detached c.args.time c.args.pid) c.self.invariant.kept c.value_mut-head.ensures.value refl refl (λ key bs. refl)

pub returns : goal.returns
returns g c = rw (← c.self.view_is) (ap (λ (t : List FlatEntry). view_of t c.self.inside.store) (kept g (goal.at.returns g c).After-value_mut-head).is)

pub value_mut-head-requires : goal.value_mut-head-requires
value_mut-head-requires g c = record { live = is_live-look (held c.self.inside.store) c.self.inside.table c.args.seg (rw (← c.self.view_is) at c.requires) }

pub invariant_of-self : goal.invariant_of-self
invariant_of-self g c = record { kept = (kept g (goal.at.invariant_of-self g c).After-value_mut-head).kept; sound = c.self.invariant.sound }
