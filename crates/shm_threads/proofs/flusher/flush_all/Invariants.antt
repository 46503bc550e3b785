use Rattle.shm_threads.proofs.Names.{◌≡◌, ◌+◌, ◌-◌, ℕ, Adds, asks_of_rounds}
use Rattle.shm_threads.proofs.flusher.flush_all.Given as goal

-- the rounds that are left make, with those that were made, the whole
abbrev pub invariant-loop-made : goal.invariant-loop-made
invariant-loop-made g l = record {
  same : g.F.Flusher.rounds l.flusher ≡ l.rounds;
  asked : (more : ℕ) (end : _) → Adds (g.F.Flusher.asked l.flusher) (asks_of_rounds (l.made + 1) (l.rounds - l.made) more) (g.F.Flusher.asked end)
      → Adds (g.F.Flusher.asked l.fn.flusher) (asks_of_rounds 1 l.rounds (l.made + more)) (g.F.Flusher.asked end);
}
