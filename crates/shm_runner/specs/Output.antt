-- The output of a run.
use Rattle.std.specs.Prelude.{◌≡◌, ◌≤◌, ◌⊎◌, ℕ, List, ◌++◌, true, Option, Result, OnOk, IfErr}
use Rattle.std.specs.Io.KnownBytes.{Appends}
use Rattle.shm_text.specs.Script.{ScriptView}
use Rattle.shm_program.specs.Listing.{listing_of}
use Rattle.shm_print.specs.Text.{events_text}
use Rattle.shm_print.specs.Usage.{usage_text}
use Rattle.shm_slots.specs.View.{SwapView, AreCountsOf, are_finite}
use Rattle.shm_slots.specs.Cause.{total, most_total}
use Rattle.shm_history.specs.WorldState.{WorldState, failures_in, tally_of}
use Rattle.shm_program.specs.Running.{IsRunOf, RunStep}
use Rattle.shm_program.specs.Runs.{IsSilent}
use Rattle.shm_program.specs.declared.fault.RunFault.{RunFault}
use Rattle.shm_program.specs.declared.fault.RunFault.TheVariants.{HostMemory, WriteFailed}
use Rattle.shm_laws.specs.Worlds.{IsWorldSound}
use Rattle.shm_runner.specs.Flat.{flat_text}

-- the output for a world: the event lines, the listing, and the counts
abbrev pub world_text : WorldState → List ℕ
world_text w = events_text 1 w.events ++ listing_of w.machine ++ usage_text (tally_of w)

-- The text of a world was appended to what a writer has, or why not: out of memory, nothing was written; if the writer failed, a
-- beginning of the text. Either way the world is sound, and each of its counts is a count of a pager
pub record IsWorldWritten {P : Type 0} (failed : P → ℕ) (world : WorldState) (result : Result (Unit {0}) RunFault) (old new : Option (List ℕ)) : Type 0 where
  pub written : OnOk result (Appends old new (world_text world))
  pub sound : IsWorldSound world
  pub counted : AreCountsOf failed world.memory.swap
  pub fault : IfErr result (λ f. (f ≡ HostMemory) ⊎ (f ≡ WriteFailed))
  pub silent : IfErr result (λ f. IsSilent (λ text. text ≡ world_text world) f old new)

-- no pager of this type ever counts a failure
abbrev pub NeverFails : {P : Type 0} → (P → ℕ) → Type 0
NeverFails {P = P} failed = (p : P) → failed p ≡ 0

-- The text of the world to which the script's lines led, a step for each line, from the world that the script opened over the
-- swap areas as they were passed in. If no failure was counted and no area was spent, its event lines and its listing are those
-- of the flat machine, which the script and the areas' sizes determine. That is always so with pagers that never fail, and over
-- areas whose counts can't rise. No more replies name a failure than the pagers may still count
pub record IsOutput {P : Type 0} (failed : P → ℕ) (swap : SwapView) (script : ScriptView) (areas : List ℕ) (text : List ℕ) : Type 0 where
  pub start : WorldState
  pub steps : List RunStep
  pub world : WorldState
  pub ran : IsRunOf IsWorldSound swap script areas start steps world
  pub sound : IsWorldSound world
  pub printed : text ≡ world_text world
  pub invisible : world.memory.swap.never_spent ≡ true → total world.memory.swap ≡ 0 → text ≡ flat_text script areas ++ usage_text (tally_of world)
  pub unfailing : NeverFails failed → text ≡ flat_text script areas ++ usage_text (tally_of world)
  pub bounded : are_finite swap ≡ true → failures_in world.events ≤ most_total swap
  pub flat : are_finite swap ≡ true → most_total swap ≡ 0 → text ≡ flat_text script areas ++ usage_text (tally_of world)
