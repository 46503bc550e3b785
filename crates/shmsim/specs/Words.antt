-- What the words of the command line ask for.
use Rattle.std.specs.Prelude.{ℕ, true, if◌then◌else◌, List, [], ◌∷◌, codes, Option, Some, None, unwrap_or}
use Rattle.std.specs.Str.{bytes_eq}
use Rattle.clap.specs.Words.{App, Kinds, Row, Rule, Text, all_of, fault_of, first_of, matches_of, new_app, new_rule, with_rule}
use Rattle.clap.specs.declared.builder.action.ArgAction.TheVariants.{Append}
use Rattle.shm_program.specs.Options.{swaps_of}
use Rattle.shm_program.specs.declared.options.SwapWord.{SwapWord}
use Rattle.shmsim.specs.declared.command.Mode.{Mode}
use Rattle.shmsim.specs.declared.command.Mode.TheVariants.{Serial, Threads}

-- THE WORDS THAT `clap` TAKES: a mode, and one to eight words for swap areas

abbrev pub mode_argument : Rule
mode_argument = record (new_rule (codes "mode")) { required = true }

abbrev pub swap_argument : Rule
swap_argument = record (new_rule (codes "swap")) { range = Some (record { start_inclusive = 1; end_inclusive = 8 }); action = Some Append; required = true }

unfoldable pub command_line : App
command_line = with_rule (with_rule (new_app (codes "shmsim")) mode_argument) swap_argument

-- why they are refused; nothing if they are taken
unfoldable pub refusals_of : List Text → Kinds
refusals_of words = fault_of command_line words

-- the values of each argument
unfoldable pub values_in : List Text → List Row
values_in words = matches_of command_line words

-- WHAT THEY ASK FOR

-- how the script is run, if the word is `serial` or `threads`
abbrev pub mode_of : List ℕ → Option Mode
mode_of w = if bytes_eq w (codes "serial") then Some Serial else if bytes_eq w (codes "threads") then Some Threads else None

-- how the script is run, and the swap areas
pub record Request : Type 0 where
  pub mode : Mode
  pub swaps : List SwapWord

abbrev pub request_by : Option Mode → Option (List SwapWord) → Option Request
request_by None swaps = None
request_by (Some mode) None = None
request_by (Some mode) (Some swaps) = Some (record { mode = mode; swaps = swaps })

-- the mode that its word names, and the areas that theirs name
abbrev pub request_in : List Row → Option Request
request_in rows = request_by (mode_of (unwrap_or (first_of (codes "mode") rows) [])) (swaps_of (unwrap_or (all_of (codes "swap") rows) []))

abbrev pub request_unless : Kinds → List Row → Option Request
request_unless [] rows = request_in rows
request_unless (refusal ∷ refusals) rows = None

-- the program's name, a mode, and one to eight swap areas
abbrev pub asked_of : List Text → Option Request
asked_of words = request_unless (refusals_of words) (values_in words)
