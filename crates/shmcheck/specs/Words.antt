-- What the words of the command line ask for.
use Rattle.std.specs.Prelude.{ℕ, true, false, if◌then◌else◌, List, [], ◌∷◌, codes, Option, Some, None, option_and_then, option_map}
use Rattle.std.specs.Str.{bytes_eq}
use Rattle.shm_text.specs.Number.{decimal_of}
use Rattle.shmcheck.specs.declared.ruling.RuleSet.{RuleSet}
use Rattle.shmcheck.specs.declared.ruling.RuleSet.TheVariants.{Own, Profile, Linux}
use Rattle.shmcheck.specs.declared.command.Options.{Options}
use Rattle.shmcheck.specs.declared.command.Draws.{Draws}
use Rattle.shmcheck.specs.declared.command.Asked.{Asked}
use Rattle.shmcheck.specs.declared.command.Asked.TheVariants.{Outcomes, Question, Judge, Sample}
use Rattle.shmcheck.specs.declared.command.Wish.{Wish}
use Rattle.shmcheck.specs.declared.command.Wish.TheVariants.{Exists, Forbid}

abbrev pub rules_by : List ℕ → Option RuleSet
rules_by w = if bytes_eq w (codes "profile") then Some Profile else if bytes_eq w (codes "linux") then Some Linux else None

-- THE OPTIONS OF A SEARCH

-- without options
abbrev pub plain : ℕ → Options
plain most = record { most = most; rules = Own; masked = false }

abbrev pub with_most : Options → ℕ → Options
with_most o most = record o { most = most }

abbrev pub with_rules : Options → RuleSet → Options
with_rules o rules = record o { rules = rules }

-- `--at-most N`, or `--rules profile` or `linux`
abbrev pub option_by : List ℕ → List ℕ → Options → Option Options
option_by name value o =
    if bytes_eq name (codes "--at-most") then option_map (with_most o) (decimal_of value) else
    if bytes_eq name (codes "--rules") then option_map (with_rules o) (rules_by value) else
    None

-- such options and `--masked`, in any order; the last of each kind counts
abbrev pub options_of : List (List ℕ) → Options → Option Options
options_of [] o = Some o
options_of (w ∷ []) o = if bytes_eq w (codes "--masked") then Some (record o { masked = true }) else None
options_of (w ∷ v ∷ ws) o =
    if bytes_eq w (codes "--masked") then options_of (v ∷ ws) (record o { masked = true }) else option_and_then (options_of ws) (option_by w v o)

-- THE OPTIONS OF RUNS

abbrev pub with_runs : Draws → ℕ → Draws
with_runs d runs = record d { runs = runs }

abbrev pub under_rules : Draws → RuleSet → Draws
under_rules d rules = record d { rules = rules }

-- `--runs N`, or `--rules profile` or `linux`
abbrev pub draw_by : List ℕ → List ℕ → Draws → Option Draws
draw_by name value d =
    if bytes_eq name (codes "--runs") then option_map (with_runs d) (decimal_of value) else
    if bytes_eq name (codes "--rules") then option_map (under_rules d) (rules_by value) else
    None

-- such options in any order; the last of each kind counts
abbrev pub draws_of : List (List ℕ) → Draws → Option Draws
draws_of [] d = Some d
draws_of (w ∷ []) d = None
draws_of (w ∷ v ∷ ws) d = option_and_then (draws_of ws) (draw_by w v d)

-- THE WORDS

abbrev pub wish_by : List ℕ → Option Wish
wish_by w = if bytes_eq w (codes "--exists") then Some Exists else if bytes_eq w (codes "--forbid") then Some Forbid else None

abbrev pub asked_by : Wish → Options → Option Asked
asked_by wish o = if o.masked then None else Some (Question wish o)

-- options other than `--masked`; at most 10,000,000 runs if there is no `--at-most`
abbrev pub question_of : Wish → List (List ℕ) → Option Asked
question_of wish ws = option_and_then (asked_by wish) (options_of ws (plain 10000000))

abbrev pub listed_of : List (List ℕ) → Option Asked
listed_of ws = option_map Outcomes (options_of ws (plain 10000000))

abbrev pub outcomes_by : Option Wish → List (List ℕ) → List (List ℕ) → Option Asked
outcomes_by None all ws = listed_of all
outcomes_by (Some wish) all [] = None
outcomes_by (Some wish) all (condition ∷ ws) = question_of wish ws

-- `--exists` or `--forbid`, a condition and its options; or the options of a list
abbrev pub outcomes_of : List (List ℕ) → Option Asked
outcomes_of [] = listed_of []
outcomes_of (w ∷ ws) = outcomes_by (wish_by w) (w ∷ ws) ws

abbrev pub judged_by : Options → Option Asked
judged_by o = if o.masked then None else Some (Judge o)

-- a file, and options other than `--masked`; at most 1,000,000 beginnings of the log if there is no `--at-most`
abbrev pub judge_of : List (List ℕ) → Option Asked
judge_of [] = None
judge_of (log ∷ ws) = option_and_then judged_by (options_of ws (plain 1000000))

abbrev pub one_run : ℕ → Draws
one_run seed = record { seed = seed; runs = 1; rules = Own }

abbrev pub sampled_by : List (List ℕ) → ℕ → Option Asked
sampled_by ws seed = option_map Sample (draws_of ws (one_run seed))

-- a seed, and options; one run if there is no `--runs`
abbrev pub sample_of : List (List ℕ) → Option Asked
sample_of [] = None
sample_of (seed ∷ ws) = option_and_then (sampled_by ws) (decimal_of seed)

-- the program's name, what to do, and its words
abbrev pub asked_of : List (List ℕ) → Option Asked
asked_of [] = None
asked_of (name ∷ []) = None
asked_of (name ∷ command ∷ ws) =
    if bytes_eq command (codes "outcomes") then outcomes_of ws else
    if bytes_eq command (codes "judge") then judge_of ws else
    if bytes_eq command (codes "sample") then sample_of ws else
    None
