use Rattle.std.proofs.Common.{ap, refl}
use Rattle.std.proofs.lemmas.Result.{IfErr-weaker, IfOk-weaker}
use Rattle.shm_slots.specs.View.{AreaView, HasSlot}
use Rattle.shm_slots.proofs.Changes.{Asked, asked, asked-calls, SameSlots-asked}
use Rattle.shm_slots.proofs.swap.Swap.read_slot.Given.{Over}
use Rattle.shm_slots.proofs.swap.Swap.read_slot.Goals as goal
use Rattle.shm_slots.proofs.swap.Swap.read_slot.Goals.{After-unspent_after-self-inside}

done : (g : Over) (c : After-unspent_after-self-inside g)
    → Asked c.read-result.result (record { areas = c.self.inside.areas.items; never_spent = c.self.inside.never_spent }) c.args.slot.area c.index_mut-area.result.now c.read-result.new.self
done g c =
    let there : HasSlot (record { areas = c.self.inside.areas.items; never_spent = c.self.inside.never_spent }) c.args.slot.area c.args.slot.slot = rw (← c.self.view_is) at c.requires in
    let e = c.read-result.ensures in
    asked _ _ _ _ c.index_mut-area.ensures.value _ _ _ _ e.rest c.read-result.result _ there c.self.invariant e.counts e.most e.sound (IfOk-weaker c.read-result.result _ _ (λ _ wrote. ap (λ (a : AreaView). a.failed) wrote) e.ok) (IfErr-weaker c.read-result.result _ _ (λ _ fault. fault.1) e.err)

pub returns-clause-kept : goal.returns-clause-kept
returns-clause-kept g c =
    rw (← c.self.view_is, c.unspent_after-self-inside.ensures) (SameSlots-asked _ _ _ _ c.index_mut-area.ensures.value c.read-result.ensures.rest)

pub returns-clause-goes_on : goal.returns-clause-goes_on
returns-clause-goes_on g c = rw (← c.self.view_is, c.unspent_after-self-inside.ensures) (done g (goal.at.returns-clause-goes_on g c).After-unspent_after-self-inside).goes_on

pub invariant_of-self : goal.invariant_of-self
invariant_of-self g c = rw c.unspent_after-self-inside.ensures (done g (goal.at.invariant_of-self g c).After-unspent_after-self-inside).sound

pub returns-clause-cause : goal.returns-clause-cause
returns-clause-cause g c = rw (← c.self.view_is, c.unspent_after-self-inside.ensures) (done g (goal.at.returns-clause-cause g c).After-unspent_after-self-inside).cause

pub returns-clause-sizes : goal.returns-clause-sizes
returns-clause-sizes g c = rw (← c.self.view_is) (done g (goal.at.returns-clause-sizes g c).After-unspent_after-self-inside).same_sizes

pub returns-clause-sound : goal.returns-clause-sound
returns-clause-sound g c = invariant_of-self g c

pub returns-clause-failures : goal.returns-clause-failures
returns-clause-failures g c = rw (← c.self.view_is, c.unspent_after-self-inside.ensures) (done g (goal.at.returns-clause-failures g c).After-unspent_after-self-inside).failures

pub returns-clause-ok : goal.returns-clause-ok
returns-clause-ok g c =
    let d = done g (goal.at.returns-clause-ok g c).After-unspent_after-self-inside in
    rw (← c.self.view_is, c.unspent_after-self-inside.ensures) (IfOk-weaker c.read-result.result _ _ (λ _ e. asked-calls d e) c.read-result.ensures.ok)

pub returns-clause-page : goal.returns-clause-page
returns-clause-page g c = rw (← c.self.view_is, (done g (goal.at.returns-clause-page g c).After-unspent_after-self-inside).before) c.read-result.ensures.page

pub returns-clause-err : goal.returns-clause-err
returns-clause-err g c =
    let d = done g (goal.at.returns-clause-err g c).After-unspent_after-self-inside in
    rw (← c.self.view_is, d.before, d.after) c.read-result.ensures.err

pub returns-clause-others : goal.returns-clause-others
returns-clause-others g c = rw (← c.self.view_is, c.unspent_after-self-inside.ensures, (done g (goal.at.returns-clause-others g c).After-unspent_after-self-inside).after) refl
