-- What an event does to the lives of processes.
use Rattle.shm_threads.proofs.Names.{◌≡◌, ◌≢◌, ℕ, true, false, List, Some, MatchBool, Ended, Live, Runner, Unborn, Event, Cred, life_from, is_end, is_fork_of}
use Rattle.shm_threads.specs.declared.transcript.Answer.TheVariants.{Reply as Replied}

abbrev pub IsLive : ℕ → List Runner → Type 0
IsLive pid rs = (cred : Cred) × (life_from pid rs ≡ Some (Live cred))

-- Who has ended stays ended; who is not born is born by a fork of it, and only then; a live process lives on, unless it exits
pub record Ages (e : Event) (olds news : List Runner) : Type 0 where
  pub ended : (q : ℕ) → life_from q olds ≡ Some Ended → life_from q news ≡ Some Ended
  pub unborn : (q : ℕ) → life_from q olds ≡ Some Unborn → is_fork_of q e.call e.reply ≡ false → life_from q news ≡ Some Unborn
  pub born : (q : ℕ) → life_from q olds ≡ Some Unborn → is_fork_of q e.call e.reply ≡ true → IsLive q news
  pub live : (q : ℕ) → q ≢ e.pid → IsLive q olds → IsLive q news
  pub own : MatchBool (is_end e.call (Replied e.reply)) (life_from e.pid news ≡ Some Ended) (IsLive e.pid olds → IsLive e.pid news)
