use Rattle.shm_fault.proofs.Names.{◌≡◌, length, ◌∙◌, ap, Some, arith, two_eligible, OwnedBelow, resident_of, unlocked, seen}
use Rattle.shm_fault.proofs.Clock.{two_unlocked, full-owned, leaver-none, leaver-some}
use Rattle.shm_fault.proofs.store.PageStore.leaver.Goals.{Else-resident-from}
use Rattle.shm_fault.proofs.store.PageStore.leaver.Goals as goal

all : (g : _) (c : Else-resident-from g) → resident_of c.self.inside.frames ≡ length c.self.inside.frames
all g c = omega (arith, c.resident.ensures.count, c.resident.ensures.few, c.count.ensures.size, c.from.ensures, c.if-resident-from.false)

pub foresee-requires-clause-one : goal.foresee-requires-clause-one
foresee-requires-clause-one g c =
    let i = c.self.inside in
    let sound = c.self.invariant.0 in
    let full : OwnedBelow i.frames (length i.frames) = full-owned i.frames (all g c) in
    two_eligible (unlocked i.segs) c.args.pinned i.frames i.hand sound.hand (two_unlocked (seen i) sound full)

pub returns-then-resident-from-clause-value : goal.returns-then-resident-from-clause-value
returns-then-resident-from-clause-value g c =
    rw (← c.self.view_is) (leaver-none c.args.pinned (seen c.self.inside) (omega (arith, c.resident.ensures.count, c.count.ensures.size, c.from.ensures, c.if-resident-from.true)))

pub returns-clause-value : goal.returns-clause-value
returns-clause-value g c =
    let o = goal.at.returns-clause-value g c in
    rw (← c.self.view_is) (ap Some c.foresee.ensures.victim ∙ leaver-some c.args.pinned (seen c.self.inside) (all g o.Else-resident-from))
