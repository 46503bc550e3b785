use Rattle.shm_attach.proofs.Names.{SpaceView, LostView, ap, ◌≡◌, take, map, arith, take_all, runner_at_start, runners_view}
use Rattle.shm_attach.proofs.Starts.{started-room, IsExact-start, started, AllHaveTables-start}
use Rattle.shm_attach.proofs.spaces.Spaces.new.Goals as goal

pub invariant_of-result : goal.invariant_of-result
invariant_of-result c =
    let all : take c.loop-process.process-index c.args.processes.now ≡ c.args.processes.now = take_all c.loop-process.process-index c.args.processes.now c.loop-process-test.false in
    let same : runners_view c.loop-process.by_pid.entries ≡ map runner_at_start c.args.processes.now = rw all at c.loop-process.invariant.shown in (
      record {
        exact = rw same (IsExact-start c.args.processes.now c.new-2.result c.requires.few c.new-2.ensures.none);
        tied = c.new-2.ensures.tied;
        tables = AllHaveTables-start c.loop-process.by_pid.entries c.args.processes.now c.new-2.result.slab same;
      },
      record { bound = c.requires.most; each = c.loop-process.invariant.room },
      ap (λ (l : LostView). l.most) c.in_ok-lost.ensures,
    )

pub loop-process-preserved : goal.loop-process-preserved
loop-process-preserved c =
    let none = ap (λ (s : SpaceView). s.pieces) c.in_ok-space.ensures in
    let most = ap (λ (s : SpaceView). s.most) c.in_ok-space.ensures in
    record {
      shown = started _ _ _ _ _ _ c.in_ok-insert.ensures.entries c.loop-process.invariant.shown (omega (arith, c.loop-process-test.true)) c.requires.apart c.born-life.ensures none;
      room = started-room c.args.most _ _ _ _ c.in_ok-insert.ensures.entries c.loop-process.invariant.room most;
    }
