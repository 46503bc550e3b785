use Rattle.shm_life.proofs.Names.{rules, ◌≡◌, ◌%◌, List, [], ap, refl, ◌∙◌, length, to_z, of_z, w32, Entry, change, gives, Done, IsFound, relocked, None, lockable, segment_seen, change-index, Head, whole, StoreView, unlocks}
use Rattle.shm_life.proofs.Running.{granted, unlock_keeps}
use Rattle.shm_life.proofs.Changed.{relocked-well, unlock-few}
use Rattle.shm_life.proofs.kernel.Kernel.unlock.Goals as goal

pub invariant_of-self : goal.invariant_of-self
invariant_of-self g c = (
  (let t = c.self.inside.segments.table in
      let found : IsFound t c.in_ok-found.found = rw (← c.self.view_is) at c.in_ok-found.ensures.found in
      let few = unlock-few t c.in_ok-found.found (lockable c.self.inside.limits) found c.self.invariant.0.kept.locked in
      rw c.set_locked.ensures.table (relocked-well _ _ _ _ _ _ c.in_ok-found.found.seg None c.self.invariant.0 few (ap (λ (m : StoreView). length m.frames) c.set_locked.ensures.only) c.set_locked.ensures.still)),
  c.self.invariant.1,
  c.self.invariant.2,
)

pub returns : goal.returns
returns g c = λ n.
    let m = c.args.self.now.flat in
    let f = c.in_ok-found.found in
    let act : unlocks m (f.seg % 32768) (segment_seen m.table f) ≡ gives (record m { table = change m.table f.seg (relocked None) }) Done =
    ap (λ (t : List Entry). gives (record m { table = t }) Done) (change-index {T = Head} (whole []) m.table f.seg (relocked None)) in
    let signed : to_z w32 (of_z w32 c.args.id) ≡ c.args.id = search rules in
    let step = rw signed at (c.in_ok-found.ensures.ok (unlocks m)) ∙ act ∙ rw (← c.self.view_is, c.set_locked.ensures.table, c.set_locked.ensures.only) refl in
    let keeps = unlock_keeps c.self.inside.segments.memory c.set_locked.new.self.memory f.seg c.set_locked.ensures.only c.set_locked.ensures.still in
    granted _ _ _ _ _ _ step refl (rw (← c.self.view_is) keeps) (rw (← c.self.view_is) c.set_locked.ensures.moves)
