-- What the words of the command line ask for.
use Rattle.std.specs.Prelude.{ℕ, if◌then◌else◌, List, [], ◌∷◌, codes, Option, Some, None, option_map}
use Rattle.std.specs.Str.{bytes_eq}
use Rattle.shm_program.specs.Options.{swaps_of}
use Rattle.shm_program.specs.declared.options.SwapWord.{SwapWord}
use Rattle.shmview.specs.Steps.{steps_of}
use Rattle.shmview.specs.declared.steps.Steps.{Steps}

-- the chosen steps, and the swap areas
pub record Request : Type 0 where
  pub steps : Option Steps
  pub swaps : List SwapWord

abbrev pub request_of : Option Steps → List SwapWord → Request
request_of steps swaps = record { steps = steps; swaps = swaps }

abbrev pub request_over : Option Steps → List (List ℕ) → Option Request
request_over steps words = option_map (request_of steps) (swaps_of words)

abbrev pub request_by : Option Steps → List (List ℕ) → Option Request
request_by None words = None
request_by (Some steps) words = request_over (Some steps) words

-- `--steps FROM-TO` and the swap areas, or the swap areas alone
abbrev pub words_ask : List (List ℕ) → Option Request
words_ask [] = request_over None []
words_ask (w ∷ []) = request_over None (w ∷ [])
words_ask (w ∷ v ∷ ws) = if bytes_eq w (codes "--steps") then request_by (steps_of v) ws else request_over None (w ∷ v ∷ ws)

-- the program's name, and those words
abbrev pub asked_of : List (List ℕ) → Option Request
asked_of [] = None
asked_of (name ∷ ws) = words_ask ws
