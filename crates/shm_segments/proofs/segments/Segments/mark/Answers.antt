use Rattle.shm_segments.proofs.Names.{List, true, refl, ap, change, marked, joined_table, held, FlatEntry}
use Rattle.shm_segments.proofs.Finding.{is_live-look, look-with_value}
use Rattle.shm_segments.proofs.Keeping.{KeptAs, kept-both}
use Rattle.shm_segments.proofs.Remembered.{view_of}
use Rattle.shm_segments.proofs.segments.Segments.mark.Given.{Over}
use Rattle.shm_segments.proofs.segments.Segments.mark.Goals as goal
use Rattle.shm_segments.proofs.segments.Segments.mark.Goals.{After-hide_key}

pub value_mut-requires : goal.value_mut-requires
value_mut-requires g c = record { live = is_live-look (held c.self.inside.store) c.self.inside.table c.args.seg (rw (← c.self.view_is) at c.requires) }

pub hide_key-requires : goal.hide_key-requires
hide_key-requires g c = record { live = look-with_value c.self.inside.table c.args.seg c.value_mut.result.now _ c.value_mut.ensures.value }

kept : (g : Over) (c : After-hide_key g) → KeptAs (held c.self.inside.store) c.hide_key.new.self c.self.inside.reserved c.self.inside.locked (change (joined_table (held c.self.inside.store) c.self.inside.table) c.args.seg marked)
kept g c =
    let v = c.value_mut.result.now in
    rw c.hide_key.ensures (kept-both _ _ _ _ _ v (record v { dest = true }) marked c.self.invariant.kept c.value_mut.ensures.value refl refl (λ key bs. refl))

pub invariant_of-self : goal.invariant_of-self
invariant_of-self g c = record { kept = (kept g (goal.at.invariant_of-self g c).After-hide_key).kept; sound = c.self.invariant.sound }

pub returns : goal.returns
returns g c = rw (← c.self.view_is) (ap (λ (t : List FlatEntry). view_of t c.self.inside.store) (kept g (goal.at.returns g c).After-hide_key).is)
