use Rattle.std.proofs.Common.{◌≡◌, ◌<◌, ◌+◌, get_or, None, refl, sym, ◌∙◌, arith, length-set}
use Rattle.std.proofs.lemmas.List.{length-map}
use Rattle.std.proofs.lemmas.Grind.{common_steps}
use Rattle.shm_base.specs.Page.{zero_page}
use Rattle.shm_base.specs.Stored.{padded}
use Rattle.shm_pager.proofs.Rooms.{shown-clear, shown-more, shown-at, NoZeros-unset, NoZeros-padded, put-shown, put-fits, put-apart}
use Rattle.shm_base.proofs.Stored.{length-padded, fits-padded, get_or-padded, set-read}
use Rattle.shm_pager.proofs.sparse.SparsePagerPager.write.Goals as goal
use Rattle.shm_pager.proofs.sparse.SparsePagerPager.write.Goals.{After-self, After-reach}

there : (c : After-self) → c.args.slot < c.self.inside.slots
there c = grind (arith, common_steps, length-padded, length-map)

apart : (c : After-reach) → c.args.page.now ≡ zero_page → ⊥
apart c zeros = grind (arith, common_steps)

pub invariant_of-self : goal.invariant_of-self
invariant_of-self c = grind (arith, common_steps, length-set, NoZeros-unset)

pub returns-then-is_zero-clause-ok : goal.returns-then-is_zero-clause-ok
returns-then-is_zero-clause-ok c = grind (arith, common_steps, shown-clear)

pub reach-requires : goal.reach-requires
reach-requires c = let o = goal.at.reach-requires c in omega (arith, there o.After-self, c.self.invariant)

pub invariant_of-self-in-Some : goal.invariant_of-self-in-Some
invariant_of-self-in-Some c =
    let o = goal.at.invariant_of-self-in-Some c in
    let t = there o.After-self in
    rw (c.reach.ensures.items, c.fill.ensures) (
      put-fits c.self.inside.pages.items c.self.inside.slots c.args.slot c.args.page.now t c.self.invariant.0,
      rw c.reach.ensures.capacity c.self.invariant.1,
      put-apart c.self.inside.pages.items c.self.inside.slots c.args.slot c.args.page.now t c.self.invariant.0 c.self.invariant.2 (apart o.After-reach),
    )

pub returns-in-Some-clause-ok : goal.returns-in-Some-clause-ok
returns-in-Some-clause-ok c =
    let o = goal.at.returns-in-Some-clause-ok c in
    rw (← c.self.view_is, c.reach.ensures.items, c.fill.ensures, put-shown c.self.inside.pages.items c.self.inside.slots c.args.slot c.args.page.now (there o.After-self) c.self.invariant.0) refl

pub invariant_of-self-in-Ok : goal.invariant_of-self-in-Ok
invariant_of-self-in-Ok c =
    let o = goal.at.invariant_of-self-in-Ok c in
    let t = there o.After-self in
    rw (c.reach.ensures.items, c.in-Ok.ensures) (
      put-fits c.self.inside.pages.items c.self.inside.slots c.args.slot c.args.page.now t c.self.invariant.0,
      rw c.reach.ensures.capacity c.self.invariant.1,
      put-apart c.self.inside.pages.items c.self.inside.slots c.args.slot c.args.page.now t c.self.invariant.0 c.self.invariant.2 (apart o.After-reach),
    )

pub returns-in-Ok-clause-ok : goal.returns-in-Ok-clause-ok
returns-in-Ok-clause-ok c =
    let o = goal.at.returns-in-Ok-clause-ok c in
    rw (← c.self.view_is, c.reach.ensures.items, c.in-Ok.ensures, put-shown c.self.inside.pages.items c.self.inside.slots c.args.slot c.args.page.now (there o.After-self) c.self.invariant.0) refl

pub invariant_of-self-in-Err : goal.invariant_of-self-in-Err
invariant_of-self-in-Err c =
    let o = goal.at.invariant_of-self-in-Err c in
    let t = there o.After-self in
    rw (set-read c.reach.new.pages.items c.args.slot c.index_mut-place.result.now c.index_mut-place.ensures.value, c.reach.ensures.items) (
      fits-padded c.self.inside.pages.items (c.args.slot + 1) c.self.inside.slots None (omega (arith, t)) c.self.invariant.0,
      rw c.reach.ensures.capacity c.self.invariant.1,
      NoZeros-padded c.self.inside.pages.items (c.args.slot + 1) c.self.invariant.2,
    )

pub returns-in-Err-clause-err : goal.returns-in-Err-clause-err
returns-in-Err-clause-err c =
    let o = goal.at.returns-in-Err-clause-err c in
    let t = there o.After-self in
    rw (← c.self.view_is, set-read c.reach.new.pages.items c.args.slot c.index_mut-place.result.now c.index_mut-place.ensures.value, c.reach.ensures.items, shown-more c.self.inside.pages.items c.self.inside.slots c.args.slot (c.args.slot + 1) (omega (arith, t)) c.self.invariant.0) refl

pub returns-in-Err-clause-cause : goal.returns-in-Err-clause-cause
returns-in-Err-clause-cause c =
    let o = goal.at.returns-in-Err-clause-cause c in
    let read : get_or (padded c.self.inside.pages.items (c.args.slot + 1) None) c.args.slot None ≡ None = grind (arith, common_steps) in
    let none : get_or c.self.inside.pages.items c.args.slot None ≡ None = sym (get_or-padded c.self.inside.pages.items (c.args.slot + 1) c.args.slot None) ∙ read in
    (rw (← c.self.view_is, shown-at c.self.inside.pages.items c.self.inside.slots c.args.slot (there o.After-self) c.self.invariant.0, none) refl, apart o.After-reach)
