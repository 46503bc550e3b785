use Rattle.std.proofs.Common.{◌≡◌, ◌<◌, ◌≤◌, ◌+◌, ℕ, List, length, None, Some, refl, ap, ◌∙◌, arith}
use Rattle.std.specs.Prelude.{count_by}
use Rattle.shm_base.specs.Stored.{padded}
use Rattle.shm_base.proofs.Stored.{within-padded}
use Rattle.shm_frames.specs.declared.frames.FrameState.{FrameState}
use Rattle.shm_frames.specs.Table.{free_entry, state_at, is_on_loan, IsFrameTable}
use Rattle.shm_frames.proofs.Shown.{AreFramesShown, clear-shown, shown, length-shown, reach-shown, edit-shown, entry-is, free-entry, used-set}
use Rattle.shm_frames.proofs.Counts.{kept-reach, kept-fill, loans-reach, owned-more, same-loans}
use Rattle.shm_frames.proofs.frames.Frames.fill.Goals as goal
use Rattle.shm_frames.proofs.frames.Frames.fill.Goals.{After-self, After-index_mut-entry}

within : (c : After-self) → c.args.frame < c.self.inside.count
within c = omega (arith, c.requires.there, length-shown (shown c.self.inside c.self.invariant.0 c.self.view_is))

pub reach-requires-clause-entries : goal.reach-requires-clause-entries
reach-requires-clause-entries c = let o = goal.at.reach-requires-clause-entries c in omega (arith, within o.After-self, c.self.invariant.1)

pub reach-requires-clause-bytes : goal.reach-requires-clause-bytes
reach-requires-clause-bytes c = let o = goal.at.reach-requires-clause-bytes c in omega (arith, within o.After-self, c.self.invariant.2)

at_entry : (before after : List FrameState) (i : ℕ) → after ≡ padded before (i + 1) free_entry → i < length after
at_entry before after i e = rw e (within-padded before (i + 1) i free_entry (omega arith))

module _ (c : After-index_mut-entry) (in_count : c.args.frame < c.self.inside.count) where
  -- the frames after this one has an entry
  reached : AreFramesShown c.reach.new.table.items c.reach.new.pages.items c.self.inside.count c.args.self.now
  reached = rw (c.reach.ensures.table, c.reach.ensures.pages) (reach-shown (shown c.self.inside c.self.invariant.0 c.self.view_is) c.args.frame in_count)

  there : c.args.frame < length c.reach.new.table.items
  there = at_entry c.self.inside.table.items c.reach.new.table.items c.args.frame c.reach.ensures.table

  is_at : c.index_mut-entry.result.now ≡ state_at c.reach.new.table.items c.args.frame
  is_at = entry-is reached c.args.frame c.index_mut-entry.result.now there c.index_mut-entry.ensures.value

  free : c.index_mut-entry.result.now.owner ≡ None
  free = ap (λ (e : FrameState). e.owner) is_at ∙ free-entry reached c.args.frame c.requires.free

  kept : IsFrameTable c.reach.new.table.items c.self.inside.first_free c.self.inside.resident c.self.inside.dirty
  kept = rw c.reach.ensures.table (kept-reach c.self.inside.table.items c.self.inside.first_free c.self.inside.resident c.self.inside.dirty (c.args.frame + 1) c.self.invariant.3)

  loans : c.self.inside.lent ≡ count_by is_on_loan c.reach.new.table.items
  loans = rw c.reach.ensures.table (loans-reach c.self.inside.table.items c.self.inside.lent (c.args.frame + 1) c.self.invariant.4)

pub overflow_add-self : goal.overflow_add-self
overflow_add-self c =
    let o = goal.at.overflow_add-self c in
    let e = o.After-index_mut-entry in
    let w = within o.After-self in
    omega (arith, owned-more (kept e w) (there e w) (is_at e w) (free e w), (reached e w).used.within, c.self.invariant.0.few)

pub overflow_add-self-then-frame-self : goal.overflow_add-self-then-frame-self
overflow_add-self-then-frame-self c = let o = goal.at.overflow_add-self-then-frame-self c in omega (arith, within o.After-self, c.self.invariant.0.few, c.if-frame-self.true)

pub invariant_of-self : goal.invariant_of-self
invariant_of-self c =
    let o = goal.at.invariant_of-self c in
    let e = o.After-index_mut-entry in
    let w = within o.After-self in
    let first = c.if-frame-self.true in
    let bound : c.self.inside.first_free + 1 ≤ length c.reach.new.table.items = omega (arith, there e w, first) in (
      used-set (reached e w).used c.args.frame _,
      rw c.reach.ensures.entries c.self.invariant.1,
      rw c.reach.ensures.rooms c.self.invariant.2,
      kept-fill (kept e w) (there e w) (is_at e w) c.args.owner (c.self.inside.first_free + 1) (free e w) bound (λ j lt n. (kept e w).used j (omega (arith, first))),
      same-loans c.reach.new.table.items (loans e w) (there e w) (is_at e w) _ refl,
    )

pub invariant_of-self-else-frame-self : goal.invariant_of-self-else-frame-self
invariant_of-self-else-frame-self c =
    let o = goal.at.invariant_of-self-else-frame-self c in
    let e = o.After-index_mut-entry in
    let w = within o.After-self in (
      used-set (reached e w).used c.args.frame _,
      rw c.reach.ensures.entries c.self.invariant.1,
      rw c.reach.ensures.rooms c.self.invariant.2,
      kept-fill (kept e w) (there e w) (is_at e w) c.args.owner c.self.inside.first_free (free e w) (kept e w).bound (λ j lt n. (kept e w).used j lt),
      same-loans c.reach.new.table.items (loans e w) (there e w) (is_at e w) _ refl,
    )

pub returns-then-frame-self-clause-given : goal.returns-then-frame-self-clause-given
returns-then-frame-self-clause-given c =
    let o = goal.at.returns-then-frame-self-clause-given c in
    let e = o.After-index_mut-entry in
    let w = within o.After-self in
    edit-shown (reached e w) c.args.frame c.index_mut-entry.result.now (λ x. record x { owner = Some c.args.owner }) (λ f. record f { owner = Some c.args.owner }) (λ x b. refl) (there e w) (is_at e w)

pub returns-else-frame-self-clause-given : goal.returns-else-frame-self-clause-given
returns-else-frame-self-clause-given c =
    let o = goal.at.returns-else-frame-self-clause-given c in
    let e = o.After-index_mut-entry in
    let w = within o.After-self in
    edit-shown (reached e w) c.args.frame c.index_mut-entry.result.now (λ x. record x { owner = Some c.args.owner }) (λ f. record f { owner = Some c.args.owner }) (λ x b. refl) (there e w) (is_at e w)

pub returns-then-frame-self-clause-blank : goal.returns-then-frame-self-clause-blank
returns-then-frame-self-clause-blank c = clear-shown (shown c.self.inside c.self.invariant.0 c.self.view_is) c.self.invariant.3.clear c.args.frame c.requires.free

pub returns-else-frame-self-clause-blank : goal.returns-else-frame-self-clause-blank
returns-else-frame-self-clause-blank c = clear-shown (shown c.self.inside c.self.invariant.0 c.self.view_is) c.self.invariant.3.clear c.args.frame c.requires.free
