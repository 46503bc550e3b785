use Rattle.std.proofs.Common.{refl, arith}
use Rattle.shm_frames.specs.Table.{all_frames}
use Rattle.shm_frames.proofs.Shown.{AreFramesShown, length-shown, frame-shown}
use Rattle.shm_frames.proofs.frames.Frames.new.Goals as goal
use Rattle.shm_frames.proofs.frames.Frames.new.Goals.{In_ok-with_capacity-2}

none : (c : In_ok-with_capacity-2) → AreFramesShown c.in_ok-with_capacity.field-0.items c.in_ok-with_capacity-2.field-0.items c.args.count (all_frames c.in_ok-with_capacity.field-0.items c.in_ok-with_capacity-2.field-0.items c.args.count)
none c = record {
  used = rw (c.in_ok-with_capacity.ensures.items, c.in_ok-with_capacity-2.ensures.items) (record { beside = refl; within = omega arith; few = omega (arith, c.ranges.count) });
  is = refl;
}

pub returns-clause-size : goal.returns-clause-size
returns-clause-size c = let o = goal.at.returns-clause-size c in length-shown (none o.In_ok-with_capacity-2)

pub returns-clause-free : goal.returns-clause-free
returns-clause-free c = let o = goal.at.returns-clause-free c in λ i. rw (frame-shown (none o.In_ok-with_capacity-2) i, c.in_ok-with_capacity.ensures.items) refl
