use Rattle.std.proofs.Common.{◌≡◌, ◌<◌, ◌≤◌, ◌+◌, ◌-◌, length, refl, arith}
use Rattle.std.specs.Int.{from_bool}
use Rattle.shm_frames.specs.Table.{state_at}
use Rattle.shm_frames.proofs.Shown.{shown, edit-shown, entry-is, owned-there, used-set, owned-entry}
use Rattle.shm_frames.proofs.Counts.{kept-bits, kept-loans, loans-there, loans-more}
use Rattle.shm_frames.proofs.frames.Frames.set_lent.Goals as goal
use Rattle.shm_frames.proofs.frames.Frames.set_lent.Goals.{After-self, After-index_mut-entry}

there : (c : After-self) → c.args.frame < length c.self.inside.table.items
there c = owned-there (shown c.self.inside c.self.invariant.0 c.self.view_is) c.args.frame c.requires.owned

-- the entry that is read
is_at : (c : After-index_mut-entry) → c.args.frame < length c.self.inside.table.items → c.index_mut-entry.result.now ≡ state_at c.self.inside.table.items c.args.frame
is_at c t = entry-is (shown c.self.inside c.self.invariant.0 c.self.view_is) c.args.frame c.index_mut-entry.result.now t c.index_mut-entry.ensures.value

pub index_mut-entry-requires : goal.index_mut-entry-requires
index_mut-entry-requires c = omega (arith, there (goal.at.index_mut-entry-requires c).After-self)

pub overflow_sub-self : goal.overflow_sub-self
overflow_sub-self c =
    let o = goal.at.overflow_sub-self c in
    let t = there o.After-self in
    rw c.from.ensures (loans-there c.self.inside.table.items c.self.invariant.4 t (is_at o.After-index_mut-entry t))

pub overflow_add-self : goal.overflow_add-self
overflow_add-self c =
    let o = goal.at.overflow_add-self c in
    let t = there o.After-self in
    let was = c.index_mut-entry.result.now in
    let m : c.self.inside.lent - from_bool was.lent + from_bool c.args.lent ≤ length c.self.inside.table.items =
    loans-more c.self.inside.table.items c.self.invariant.4 t (is_at o.After-index_mut-entry t) c.args.lent in
    rw (c.from.ensures, c.from-2.ensures) (omega (arith, m, c.self.invariant.0.within, c.self.invariant.0.few))

pub invariant_of-self : goal.invariant_of-self
invariant_of-self c =
    let o = goal.at.invariant_of-self c in
    let s = shown c.self.inside c.self.invariant.0 c.self.view_is in
    let t = there o.After-self in
    let at = is_at o.After-index_mut-entry t in (
      used-set c.self.invariant.0 c.args.frame _,
      c.self.invariant.1,
      c.self.invariant.2,
      kept-bits c.self.invariant.3 t at (record c.index_mut-entry.result.now { lent = c.args.lent }) c.self.inside.dirty (owned-entry s c.args.frame c.index_mut-entry.result.now at c.requires.owned) refl refl,
      rw (c.from.ensures, c.from-2.ensures) (kept-loans c.self.inside.table.items c.self.invariant.4 t at (record c.index_mut-entry.result.now { lent = c.args.lent })),
    )

pub returns : goal.returns
returns c =
    let o = goal.at.returns c in
    let s = shown c.self.inside c.self.invariant.0 c.self.view_is in
    let t = there o.After-self in
    edit-shown s c.args.frame c.index_mut-entry.result.now (λ x. record x { lent = c.args.lent }) (λ f. record f { lent = c.args.lent }) (λ x b. refl) t (is_at o.After-index_mut-entry t)
