use Rattle.std.proofs.Common.{◌≡◌, ◌<◌, ◌≤◌, ◌+◌, ◌-◌, ◌/◌, length, set, refl, ◌∙◌, arith}
use Rattle.shm_frames.specs.declared.frames.FrameState.{FrameState}
use Rattle.shm_frames.specs.Frame.{frame_at}
use Rattle.std.specs.Int.{from_bool}
use Rattle.shm_frames.specs.Table.{all_frames, state_at, IsFrameTable}
use Rattle.shm_frames.proofs.Shown.{shown, edit-shown, entry-is, owned-there, used-set, owned-entry}
use Rattle.shm_frames.proofs.Counts.{kept-bits, same-loans, changed-there, changed-more}
use Rattle.shm_frames.proofs.frames.Frames.set_dirty.Goals as goal
use Rattle.shm_frames.proofs.frames.Frames.set_dirty.Goals.{After-self, After-index_mut-entry, After-from-2}

there : (c : After-self) → c.args.frame < length c.self.inside.table.items
there c = owned-there (shown c.self.inside c.self.invariant.0 c.self.view_is) c.args.frame c.requires.owned

-- the entry that is read
is_at : (c : After-index_mut-entry) → c.args.frame < length c.self.inside.table.items → c.index_mut-entry.result.now ≡ state_at c.self.inside.table.items c.args.frame
is_at c t = entry-is (shown c.self.inside c.self.invariant.0 c.self.view_is) c.args.frame c.index_mut-entry.result.now t c.index_mut-entry.ensures.value

pub index_mut-entry-requires : goal.index_mut-entry-requires
index_mut-entry-requires c = omega (arith, there (goal.at.index_mut-entry-requires c).After-self)

pub overflow_sub-self : goal.overflow_sub-self
overflow_sub-self c =
    let o = goal.at.overflow_sub-self c in
    let t = there o.After-self in
    rw c.from.ensures (changed-there c.self.invariant.3 t (is_at o.After-index_mut-entry t))

pub overflow_add-self : goal.overflow_add-self
overflow_add-self c =
    let o = goal.at.overflow_add-self c in
    let t = there o.After-self in
    let was = c.index_mut-entry.result.now in
    let m : c.self.inside.dirty - from_bool was.dirty + from_bool c.args.dirty ≤ length c.self.inside.table.items =
    changed-more c.self.invariant.3 t (is_at o.After-index_mut-entry t) c.args.dirty in
    rw (c.from.ensures, c.from-2.ensures) (omega (arith, m, c.self.invariant.0.within, c.self.invariant.0.few))

-- the invariant
module _ (c : After-from-2) (t : c.args.frame < length c.self.inside.table.items) (at : c.index_mut-entry.result.now ≡ state_at c.self.inside.table.items c.args.frame) where
  abbrev now : FrameState
  now = record c.index_mut-entry.result.now { dirty = c.args.dirty }

  kept : IsFrameTable (set c.self.inside.table.items c.args.frame now) c.self.inside.first_free c.self.inside.resident (c.self.inside.dirty - c.from.result + c.from-2.result)
  kept =
      let s = shown c.self.inside c.self.invariant.0 c.self.view_is in
      let less = changed-there c.self.invariant.3 t at in
      rw (c.from.ensures, c.from-2.ensures) (
      kept-bits c.self.invariant.3 t at now (c.self.inside.dirty - from_bool c.index_mut-entry.result.now.dirty + from_bool c.args.dirty) (owned-entry s c.args.frame c.index_mut-entry.result.now at c.requires.owned) refl (omega (arith, less))
      )

  dirtied : all_frames (set c.self.inside.table.items c.args.frame now) c.self.inside.pages.items c.self.inside.count ≡ set c.args.self.now c.args.frame (record (frame_at c.args.self.now c.args.frame) { dirty = c.args.dirty })
  dirtied =
      let s = shown c.self.inside c.self.invariant.0 c.self.view_is in
      edit-shown s c.args.frame c.index_mut-entry.result.now (λ x. record x { dirty = c.args.dirty }) (λ f. record f { dirty = c.args.dirty }) (λ x b. refl) t at

pub invariant_of-self : goal.invariant_of-self
invariant_of-self c =
    let o = goal.at.invariant_of-self c in
    let t = there o.After-self in (
      used-set c.self.invariant.0 c.args.frame _,
      c.self.invariant.1,
      c.self.invariant.2,
      kept o.After-from-2 t (is_at o.After-index_mut-entry t),
      same-loans c.self.inside.table.items c.self.invariant.4 t (is_at o.After-index_mut-entry t) _ refl,
    )

pub returns : goal.returns
returns c =
    let o = goal.at.returns c in
    let t = there o.After-self in
    dirtied o.After-from-2 t (is_at o.After-index_mut-entry t)
