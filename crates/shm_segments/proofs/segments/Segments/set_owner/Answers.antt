use Rattle.shm_segments.proofs.Names.{ℕ, ◌%◌, List, refl, ap, reowned, change, with_value, Head, joined_table, held, FlatEntry}
use Rattle.shm_segments.proofs.Finding.{is_live-look}
use Rattle.shm_segments.proofs.Keeping.{KeptAs, kept-value}
use Rattle.shm_segments.proofs.Remembered.{view_of}
use Rattle.shm_segments.proofs.segments.Segments.set_owner.Given.{Over}
use Rattle.shm_segments.proofs.segments.Segments.set_owner.Goals as goal
use Rattle.shm_segments.proofs.segments.Segments.set_owner.Goals.{After-value_mut-head}

pub value_mut-head-requires : goal.value_mut-head-requires
value_mut-head-requires g c = record { live = is_live-look (held c.self.inside.store) c.self.inside.table c.args.seg (rw (← c.self.view_is) at c.requires) }

abbrev owned : Head → ℕ → ℕ → ℕ → ℕ → Head
owned v time uid gid mode = record v { perm = record v.perm { uid = uid; gid = gid; mode = mode % 512 }; ctime = time }

kept : (g : Over) (c : After-value_mut-head g)
    → KeptAs (held c.self.inside.store) (with_value c.self.inside.table (c.args.seg % 32768) (owned c.value_mut-head.result.now c.args.time c.args.uid c.args.gid c.args.mode)) c.self.inside.reserved c.self.inside.locked
    (change (joined_table (held c.self.inside.store) c.self.inside.table) c.args.seg (reowned c.args.time c.args.uid c.args.gid c.args.mode))
kept g c = kept-value _ _ _ _ _ c.value_mut-head.result.now _ (reowned c.args.time c.args.uid c.args.gid c.args.mode) c.self.invariant.kept c.value_mut-head.ensures.value refl refl (λ key bs. refl)

pub invariant_of-self : goal.invariant_of-self
invariant_of-self g c = record { kept = (kept g (goal.at.invariant_of-self g c).After-value_mut-head).kept; sound = c.self.invariant.sound }

pub returns : goal.returns
returns g c = rw (← c.self.view_is) (ap (λ (t : List FlatEntry). view_of t c.self.inside.store) (kept g (goal.at.returns g c).After-value_mut-head).is)
