-- The requests of a run's threads, in order.
use Prim.Native.Nat.{zero, suc}
use Rattle.std.specs.Prelude.{◌≡◌, ◌<◌, ◌≤◌, ◌+◌, ◌++◌, ℕ, Bool, true, false, List, [], ◌∷◌, length, MatchBool, if◌then◌else◌}
use Rattle.shm_text.specs.Form.{CommandView}
use Rattle.shm_text.specs.declared.script.Line.{Line}
use Rattle.shm_text.specs.declared.script.Line.TheVariants.{Command, Flush}

-- What a worker asks or reports, with the answer: whether its process is born, once that is known; whether it may make its n-th
-- call; the call of its next line, and whether it can continue; that the n-th call got its reply; that the process has left
pub data Asked : Type 0 where
  Born : (is_born : Bool) → Asked
  Before : (n : ℕ) → (may : Bool) → Asked
  Stepped : (goes_on : Bool) → Asked
  After : (n : ℕ) → Asked
  Left : Asked

-- the n-th of this many
abbrev pub IsWithin : ℕ → ℕ → Type 0
IsWithin n count = (1 ≤ n) × (n ≤ count)

-- this is the n-th of the commands
pub record IsNth (commands : List CommandView) (n : ℕ) (command : CommandView) : Type 0 where
  pub before : List CommandView
  pub after : List CommandView
  pub place : length before + 1 ≡ n
  pub whole : commands ≡ before ++ command ∷ after

-- these were asked next, whatever was asked before
abbrev pub Adds : {A : Type 0} → (List A → Type 0) → List A → (List A → Type 0) → Type 0
Adds {A} before more after = (log : List A) → before log → after (log ++ more)

-- The requests of a worker for this many lines, from the n-th call on; its steps had these answers. Each line has three: whether
-- it may, the step, and that it was made. After a step after which the process can't continue there are none. If a step is missing,
-- the answer to the first request was no
abbrev pub asks_of : ℕ → ℕ → List Bool → List Asked
asks_of n zero steps = []
asks_of n (suc lines) [] = Before n false ∷ []
asks_of n (suc lines) (goes_on ∷ steps) = Before n true ∷ Stepped goes_on ∷ After n ∷ (if goes_on then asks_of (n + 1) lines steps else [])

-- the steps go to the last line, or to the first after which the process can't continue; if they are not whole, to a line before
-- which the gate ended the worker
abbrev pub GoTo : ℕ → List Bool → Bool → Type 0
GoTo zero steps whole = (steps ≡ []) × (whole ≡ true)
GoTo (suc lines) [] whole = whole ≡ false
GoTo (suc lines) (goes_on ∷ steps) whole = MatchBool goes_on (GoTo lines steps whole) ((steps ≡ []) × (whole ≡ true))

-- A worker of a born process makes only these requests, in order
pub record RunsLines (before after : List Asked → Type 0) (lines : ℕ) (whole : Bool) : Type 0 where
  pub steps : List Bool
  pub ends : GoTo lines steps whole
  pub asked : Adds before (asks_of 1 lines steps) after

-- the requests after a process is born, if it is
abbrev pub asks_after : Bool → ℕ → List Bool → List Asked
asks_after false lines steps = []
asks_after true lines steps = asks_of 1 lines steps

abbrev pub EndsAfter : Bool → ℕ → List Bool → Bool → Type 0
EndsAfter false lines steps whole = (steps ≡ []) × (whole ≡ true)
EndsAfter true lines steps whole = GoTo lines steps whole

-- A worker asks whether its process is born, runs its lines if so, and reports that the process has left
pub record Works (before after : List Asked → Type 0) (lines : ℕ) (whole : Bool) : Type 0 where
  pub is_born : Bool
  pub steps : List Bool
  pub ends : EndsAfter is_born lines steps whole
  pub asked : Adds before (Born is_born ∷ asks_after is_born lines steps ++ Left ∷ []) after

-- What the flusher asks or reports: whether it may make its n-th round; the next round; that it was made
pub data RoundAsked : Type 0 where
  May : (n : ℕ) → (may : Bool) → RoundAsked
  Round : RoundAsked
  Made : (n : ℕ) → RoundAsked

-- the pages of the flush lines, in order
abbrev pub rounds_of : List Line → List ℕ
rounds_of [] = []
rounds_of (Command c ∷ ls) = rounds_of ls
rounds_of (Flush pages ∷ ls) = pages ∷ rounds_of ls

-- The requests of the flusher for this many rounds, from the n-th on, if this many of them are made. Each round has three: whether
-- it may, the round, and that it was made. If one is not made, the answer to its first request was no
abbrev pub asks_of_rounds : ℕ → ℕ → ℕ → List RoundAsked
asks_of_rounds n zero made = []
asks_of_rounds n (suc rounds) zero = May n false ∷ []
asks_of_rounds n (suc rounds) (suc made) = May n true ∷ Round ∷ Made n ∷ asks_of_rounds (n + 1) rounds made

-- The flusher makes all rounds in order, or those before the first that it may not make
pub record RunsRounds (before after : List RoundAsked → Type 0) (rounds : ℕ) (whole : Bool) : Type 0 where
  pub made : ℕ
  pub ends : MatchBool whole (made ≡ rounds) (made < rounds)
  pub asked : Adds before (asks_of_rounds 1 rounds made) after
