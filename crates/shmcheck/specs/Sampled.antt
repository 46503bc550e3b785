-- The runs that the program writes for a seed.
use Rattle.std.specs.Prelude.{ℕ, List}
use Rattle.rand_core.specs.Steps.{steps_u64_high, stream_of}
use Rattle.rand_core.specs.Stream.{Stream}
use Rattle.rand_xoshiro.specs.SplitMix64.{splitmix_seed}
use Rattle.rand_xoshiro.specs.Xoshiro256.{of_seed, plus_plus}
use Rattle.shm_text.specs.Script.{ScriptView}
use Rattle.shm_judge.specs.Sampling.{AreSamples}
use Rattle.shm_schedules.specs.Schedules.{start}

-- the numbers that xoshiro256++ gives from this seed
abbrev pub answers_from : ℕ → Stream
answers_from seed = stream_of (steps_u64_high plus_plus) (of_seed (splitmix_seed 32 seed))

-- the text of this many runs of the script over swap areas of these sizes, drawn by the numbers of the seed's generator
abbrev pub IsSamplesText : ℕ → ℕ → ScriptView → List ℕ → List ℕ → Type 0
IsSamplesText seed runs script areas text = (rest : Stream) × AreSamples script (start script areas) runs (answers_from seed) rest text
