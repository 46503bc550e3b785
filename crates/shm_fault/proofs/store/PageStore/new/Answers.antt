use Rattle.shm_fault.proofs.Names.{◌<◌, ◌+◌, ◌/◌, [], length, arith, IsStoreSound, fresh_store, unlocked, skipped-none}
use Rattle.shm_fault.proofs.Whole.{sound-fresh}
use Rattle.shm_fault.proofs.store.PageStore.new.Goals.{In_ok-frames}
use Rattle.shm_fault.proofs.store.PageStore.new.Goals as goal

sound : (g : _) (c : In_ok-frames g) → IsStoreSound (fresh_store c.in_ok-frames.frames c.args.swap)
sound g c =
    sound-fresh c.in_ok-frames.frames c.args.swap (rw c.in_ok-frames.ensures.size c.requires.frames) c.in_ok-frames.ensures.free
    (rw c.swap.view_is at c.swap.invariant) (λ k. c.requires.free k.area k.slot)

pub invariant_of-result : goal.invariant_of-result
invariant_of-result g c =
    let o = (goal.at.invariant_of-result g c).In_ok-frames in
    let frames = c.in_ok-frames.frames in
    let room : length frames / 64 < c.args.frames / 64 + 1 = rw c.in_ok-frames.ensures.size (omega arith) in
    rw (c.new-3.ensures, c.in_ok-skips.ensures) (sound g o, skipped-none (unlocked []) frames (c.args.frames / 64 + 1) room)

pub returns-clause-sound : goal.returns-clause-sound
returns-clause-sound g c = rw c.new-3.ensures (sound g (goal.at.returns-clause-sound g c).In_ok-frames)
