use Rattle.std.proofs.Common.{ℕ, List, refl, subst}
use Rattle.rand_core.specs.Steps.{steps_u64_high, stream_of}
use Rattle.rand_core.specs.Stream.{Stream}
use Rattle.rand_xoshiro.specs.Xoshiro256.{plus_plus}
use Rattle.shm_judge.specs.Sampling.{AreSamples}
use Rattle.shm_schedules.specs.Schedules.{fresh}
use Rattle.shmcheck.specs.Runs.{one_area}
use Rattle.shmcheck.proofs.Texts.{sampled}
use Rattle.shmcheck.proofs.sampling.sample_runs.Goals as goal

pub returns-clause-ok : goal.returns-clause-ok
returns-clause-ok c =
    let rest : Stream = stream_of (steps_u64_high plus_plus) c.samples.new.rng in
    let are =
    subst (λ (s : List ℕ). AreSamples c.args.script.now (fresh c.in_ok-machine.machine.machine) c.args.draws.runs (stream_of (steps_u64_high plus_plus) s) rest c.in_ok-text.text.items) c.seed_from_u64-rng.ensures
    c.in_ok-text.ensures
    in
    (refl, sampled c.args.script.now one_area c.in_ok-machine.machine.machine c.args.draws.seed c.args.draws.runs rest c.in_ok-text.text.items c.in_ok-machine.ensures.machine are)
