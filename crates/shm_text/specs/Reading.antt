-- What the lines of a script say, and its first fault.
use Rattle.std.specs.Prelude.{ℕ, ◌+◌, Bool, true, ◌==◌, ◌&&◌, ◌||◌, not, List, [], ◌∷◌, ◌++◌, length, Option, Some, None, Result, Ok, Err, IsOk, ◌≡◌, nat_le, nat_lt, ◌<◌, is_some, slice_get, slice_index, codes, if◌then◌else◌}
use Rattle.std.specs.List.{list_all, list_any}
use Rattle.std.specs.Option.{ok_or}
use Rattle.std.specs.Str.{bytes_eq}
use Rattle.shm_base.specs.Bounds.{Bounds, bounds_of, limits_of, machine_limits_of, ruled}
use Rattle.shm_base.specs.declared.limits.BadLimits.{BadLimits as BadBounds}
use Rattle.shm_base.specs.declared.limits.Sizes.{Sizes}
use Rattle.shm_base.specs.declared.call.Process.{Process as Declared}
use Rattle.shm_text.specs.declared.fault.FaultKind.{FaultKind}
use Rattle.shm_text.specs.declared.fault.FaultKind.TheVariants.{TooLong, BadByte, NoLimits, BadLine, BadLimits, UnknownProcess, Twice, TooMany}
use Rattle.shm_text.specs.declared.fault.ScriptFault.{ScriptFault}
use Rattle.shm_text.specs.declared.fault.ReadRefused.{ReadRefused}
use Rattle.shm_text.specs.declared.fault.ReadRefused.TheVariants as refused
use Rattle.shm_text.specs.Form.{LineCall}
use Rattle.shm_base.specs.declared.call.Call.TheVariants.{Fork}
use Rattle.shm_text.specs.declared.script.Line.{Line}
use Rattle.shm_text.specs.declared.script.Line.TheVariants as lines
use Rattle.shm_text.specs.declared.script.Item.{Item}
use Rattle.shm_text.specs.declared.script.Item.TheVariants as items
use Rattle.shm_text.specs.Script.{ScriptView}
use Rattle.shm_text.specs.declared.number.Number.{Number}
use Rattle.shm_text.specs.Calls.{call_words}
use Rattle.shm_text.specs.Operand.{◌>>=◌, required_number, ranged, within_64_bits, letter_of}
use Rattle.shm_text.specs.Rules.{rules_word}
use Rattle.shm_text.specs.Words.{is_allowed, words_of, lines_of, word_at}
use Rattle.shm_base.specs.declared.bounds.TheConstants.{LAST_PID, LONGEST_SCRIPT, MOST_COMMANDS, MOST_FLUSHED, MOST_PROCESSES}

-- what the lines above a line said
pub record SeenView : Type 0 where
  pub sizes : Option Sizes
  pub limits : Option Bounds
  pub pids : List ℕ
  pub commands : ℕ

-- the word at an index is this one
abbrev pub word_at_is : List (List ℕ) → ℕ → List ℕ → Bool
word_at_is ws i text = bytes_eq (word_at ws i) text

-- SIZES, LIMITS, RULES AND PROCESSES

-- a request for the smallest machine, in which a sizes line and then the limits line replace the numbers
abbrev pub smallest : Sizes
smallest =
    record {
      shmmax = 1;
      shmmni = 1;
      shmall = 1;
      frames = 2;
      memlock = 0;
      most_pieces = 1;
      most_processes = 1;
      most_slots = 1;
      rules = record { 0 = 0 };
    }

abbrev pub sizes_by : Sizes → Result Bounds BadBounds → Result Item FaultKind
sizes_by sizes (Ok b) = Ok (items.Sizes sizes)
sizes_by sizes (Err e) = Err (BadLimits e.0)

-- sizes within the ranges of any machine
abbrev pub tested_sizes : Sizes → Result Item FaultKind
tested_sizes sizes = sizes_by sizes (machine_limits_of (bounds_of sizes))

unfoldable pub sizes_item : List (List ℕ) → Result Item FaultKind
sizes_item ws = if length ws == 4 then (do
  pieces ← required_number (word_at ws 1)
  processes ← required_number (word_at ws 2)
  slots ← required_number (word_at ws 3)
  pieces ← within_64_bits pieces
  processes ← within_64_bits processes
  slots ← within_64_bits slots
  tested_sizes (record smallest { most_pieces = pieces; most_processes = processes; most_slots = slots })) else Err BadLine

-- five limits within the ranges of the profile; below a sizes line within those of any machine, with its sizes
abbrev pub limits_below : Option Sizes → ℕ → ℕ → ℕ → ℕ → ℕ → Result Bounds BadBounds
limits_below None shmmax shmmni shmall frames memlock = limits_of shmmax shmmni shmall frames memlock
limits_below (Some sizes) shmmax shmmni shmall frames memlock =
    machine_limits_of (bounds_of (record sizes {
      shmmax = shmmax;
      shmmni = shmmni;
      shmall = shmall;
      frames = frames;
      memlock = memlock;
    }))

abbrev pub limits_by : Result Bounds BadBounds → Result Item FaultKind
limits_by (Ok b) = Ok (items.Limits b)
limits_by (Err e) = Err (BadLimits e.0)

unfoldable pub limits_item : Option Sizes → List (List ℕ) → Result Item FaultKind
limits_item sizes ws = if length ws == 6 then (do
  shmmax ← required_number (word_at ws 1)
  shmmni ← required_number (word_at ws 2)
  shmall ← required_number (word_at ws 3)
  frames ← required_number (word_at ws 4)
  memlock ← required_number (word_at ws 5)
  shmmax ← within_64_bits shmmax
  shmmni ← within_64_bits shmmni
  shmall ← within_64_bits shmall
  frames ← within_64_bits frames
  memlock ← within_64_bits memlock
  limits_by (limits_below sizes shmmax shmmni shmall frames memlock)) else Err BadLine

-- the limits, while no rule holds
abbrev pub without_rules : Option Bounds → Option Bounds
without_rules None = None
without_rules (Some b) = if b.rules.0 == 0 then Some b else None

-- the limits, while rules may follow: no rule holds yet, and only limits are above
abbrev pub unruled : SeenView → Option Bounds
unruled seen = if (length seen.pids == 0) && (seen.commands == 0) then without_rules seen.limits else None

-- the rules of Linux: the limits once more, with these rules
unfoldable pub rules_item : SeenView → List (List ℕ) → Result Item FaultKind
rules_item seen ws = if length ws == 2 then (do
  limits ← ok_or (unruled seen) BadLine
  rules ← rules_word (word_at ws 1)
  limits_by (ruled rules limits)) else Err BadLine

abbrev pub is_declared : SeenView → ℕ → Bool
is_declared seen pid = list_any (λ p. p == pid) seen.pids

-- how many processes may be declared
abbrev pub most_declared : Option Bounds → ℕ
most_declared None = 0
most_declared (Some b) = b.most_processes

-- no more processes may be declared
abbrev pub is_full : SeenView → Bool
is_full seen = nat_le (most_declared seen.limits) (length seen.pids)

-- a process that is not declared above, if one more may be declared
abbrev pub declared : SeenView → Declared → Result Item FaultKind
declared seen p =
    if is_declared seen p.pid then Err Twice else
    if is_full seen then Err TooMany else
    Ok (items.Process p)

unfoldable pub process_item : SeenView → List (List ℕ) → Result Item FaultKind
process_item seen ws = if length ws == 4 then (do
  pid ← required_number (word_at ws 1)
  uid ← required_number (word_at ws 2)
  gid ← required_number (word_at ws 3)
  pid ← ranged 1 LAST_PID pid
  uid ← ranged 0 4294967295 uid
  gid ← ranged 0 4294967295 gid
  declared seen (record { pid = pid; born = Some (record { uid = uid; gid = gid }) })) else Err BadLine

unfoldable pub child_item : SeenView → List (List ℕ) → Result Item FaultKind
child_item seen ws = if length ws == 2 then (do
  pid ← required_number (word_at ws 1)
  pid ← ranged 1 LAST_PID pid
  declared seen (record { pid = pid; born = None })) else Err BadLine

-- a line with these first words declares a process, and is above all commands
unfoldable pub declaration : SeenView → List (List ℕ) → Result Item FaultKind
declaration seen ws =
    if not (seen.commands == 0) then Err BadLine else
    if word_at_is ws 0 (codes "process") then process_item seen ws else
    child_item seen ws

-- COMMANDS

abbrev pub command_of : ℕ → Option ℕ → LineCall → Item
command_of pid var call = items.Line (lines.Command (record { pid = pid; var = var; call = call }))

-- the variable that takes the answer: one letter, before `=`
abbrev pub taker : List (List ℕ) → Option ℕ
taker ws = if (length (word_at ws 1) == 1) && word_at_is ws 2 (codes "=") then letter_of (word_at ws 1) else None

-- the pid was declared above
abbrev pub known : SeenView → ℕ → Result (Unit {0}) FaultKind
known seen pid = if is_declared seen pid then Ok tt else Err UnknownProcess

-- the child of a fork was declared above
abbrev pub known_child : SeenView → LineCall → Result (Unit {0}) FaultKind
known_child seen (Fork child) = known seen child
known_child seen _ = Ok tt

abbrev pub declared_pid : SeenView → Number → LineCall → Result ℕ FaultKind
declared_pid seen pid call = do
  pid ← ranged 1 LAST_PID pid
  there ← known seen pid
  child ← known_child seen call
  Ok pid

abbrev pub command : SeenView → Number → Option ℕ → List (List ℕ) → Result Item FaultKind
command seen pid var ws = do
  call ← call_words ws (is_some var)
  pid ← declared_pid seen pid call
  Ok (command_of pid var call)

-- a flush round of at most this many pages
unfoldable pub flush_item : List (List ℕ) → Result Item FaultKind
flush_item ws = if (length ws == 3) && word_at_is ws 1 (codes "flush") then (do
  pages ← required_number (word_at ws 2)
  pages ← ranged 1 MOST_FLUSHED pages
  Ok (items.Line (lines.Flush pages))) else Err BadLine

-- the word `0` is not a pid, and may only precede `flush`
unfoldable pub command_item : SeenView → List (List ℕ) → Result Item FaultKind
command_item seen ws = if word_at_is ws 0 (codes "0") then flush_item ws else (do
  pid ← required_number (word_at ws 0)
  command seen pid (taker ws) ws)

-- LINES

-- one more command or flush line is allowed
abbrev pub with_room : SeenView → Result Item FaultKind → Result Item FaultKind
with_room seen said = said >>= λ item. if nat_lt seen.commands MOST_COMMANDS then Ok item else Err TooMany

-- a line after the limits
unfoldable pub body_item : SeenView → List (List ℕ) → Result Item FaultKind
body_item seen ws =
    if word_at_is ws 0 (codes "rules") then rules_item seen ws else
    if word_at_is ws 0 (codes "process") || word_at_is ws 0 (codes "child") then declaration seen ws else
    with_room seen (command_item seen ws)

-- the line has no words, or its first word begins with #
abbrev pub is_skipped : List (List ℕ) → Bool
is_skipped ws = (length ws == 0) || (slice_index (word_at ws 0) 0 == 35)

-- the limits line, or the sizes line above it
unfoldable pub head_item : SeenView → List (List ℕ) → Result Item FaultKind
head_item seen ws =
    if word_at_is ws 0 (codes "limits") then limits_item seen.sizes ws else
    if not (word_at_is ws 0 (codes "sizes")) then Err NoLimits else
    if is_some seen.sizes then Err BadLine else
    sizes_item ws

unfoldable pub words_item : SeenView → List (List ℕ) → Result Item FaultKind
words_item seen ws = if is_some seen.limits then body_item seen ws else head_item seen ws

-- a command of a process comes after the limits, and does not begin with a word of another kind of line
abbrev pub is_command : SeenView → List (List ℕ) → Bool
is_command seen ws =
    is_some seen.limits
    && (not (word_at_is ws 0 (codes "0"))
    && (not (word_at_is ws 0 (codes "process")) && (not (word_at_is ws 0 (codes "child")) && not (word_at_is ws 0 (codes "rules")))))

-- a line that says something
abbrev pub some_item : Result Item FaultKind → Result (Option Item) FaultKind
some_item said = said >>= λ item. Ok (Some item)

-- what a line says, after what the lines above it said
unfoldable pub line_item : SeenView → List ℕ → Result (Option Item) FaultKind
line_item seen line =
    if list_all is_allowed line
    then (if is_skipped (words_of line) then Ok None else some_item (words_item seen (words_of line)))
    else Err BadByte

abbrev pub seen_with : SeenView → Item → SeenView
seen_with seen (items.Sizes sizes) = record seen { sizes = Some sizes }
seen_with seen (items.Limits b) = record seen { limits = Some b }
seen_with seen (items.Process p) = record seen { pids = seen.pids ++ p.pid ∷ [] }
seen_with seen (items.Line l) = record seen { commands = seen.commands + 1 }

abbrev pub seen_next : SeenView → Option Item → SeenView
seen_next seen None = seen
seen_next seen (Some item) = seen_with seen item

abbrev pub nothing : SeenView
nothing = record { sizes = None; limits = None; pids = []; commands = 0 }

-- THE SCRIPT

abbrev pub at_line : {A : Type 0} → ℕ → Result A FaultKind → Result A ScriptFault
at_line n (Ok x) = Ok x
at_line n (Err kind) = Err (record { line = n; kind = kind })

abbrev pub with_item : Option Item → List Item → List Item
with_item None items = items
with_item (Some item) items = item ∷ items

-- what the lines from the n-th on say, or their first fault
unfoldable pub items_of : ℕ → SeenView → List (List ℕ) → Result (List Item) ScriptFault
items_of n seen [] = Ok []
items_of n seen (line ∷ more) = do
  item ← at_line n (line_item seen line)
  items ← items_of (n + 1) (seen_next seen item) more
  Ok (with_item item items)

-- the last limits among the items, or `b` if there are none
abbrev pub limits_after : Option Bounds → List Item → Option Bounds
limits_after b [] = b
limits_after b (items.Sizes sizes ∷ rest) = limits_after b rest
limits_after b (items.Limits c ∷ rest) = limits_after (Some c) rest
limits_after b (items.Process p ∷ rest) = limits_after b rest
limits_after b (items.Line l ∷ rest) = limits_after b rest

-- the declared processes, in file order
abbrev pub processes_in : List Item → List Declared
processes_in [] = []
processes_in (items.Sizes sizes ∷ rest) = processes_in rest
processes_in (items.Limits b ∷ rest) = processes_in rest
processes_in (items.Process p ∷ rest) = p ∷ processes_in rest
processes_in (items.Line l ∷ rest) = processes_in rest

-- the command and flush lines, in file order
abbrev pub lines_in : List Item → List Line
lines_in [] = []
lines_in (items.Sizes sizes ∷ rest) = lines_in rest
lines_in (items.Limits b ∷ rest) = lines_in rest
lines_in (items.Process p ∷ rest) = lines_in rest
lines_in (items.Line l ∷ rest) = l ∷ lines_in rest

-- a script without limits has its fault at line 1
abbrev pub script_by : Option Bounds → List Item → Result ScriptView ScriptFault
script_by None items = Err (record { line = 1; kind = NoLimits })
script_by (Some b) items = Ok (record { limits = b; processes = processes_in items; lines = lines_in items })

abbrev pub script_from : List Item → Result ScriptView ScriptFault
script_from items = script_by (limits_after None items) items

-- what all lines say, or their first fault
abbrev pub script_of_lines : List (List ℕ) → Result ScriptView ScriptFault
script_of_lines text_lines = items_of 1 nothing text_lines >>= script_from

-- a blank line or a comment, whatever its bytes
abbrev pub is_wordless : List ℕ → Bool
is_wordless line = is_skipped (words_of line)

-- the fault of a first line: a byte that is not allowed, else that it is not the limits line
abbrev pub kind_without_limits : Option (List ℕ) → FaultKind
kind_without_limits None = NoLimits
kind_without_limits (Some line) = if list_all is_allowed line then NoLimits else BadByte

-- the fault of a text without words is that of its first line
abbrev pub without_words : List (List ℕ) → ScriptFault
without_words text_lines = record { line = 1; kind = kind_without_limits (slice_get text_lines 0) }

-- what the lines of a text say, or the first fault
abbrev pub said : List (List ℕ) → Result ScriptView ScriptFault
said text_lines = if list_all is_wordless text_lines then Err (without_words text_lines) else script_of_lines text_lines

-- what a script says, or its first fault
unfoldable pub script_of : List ℕ → Result ScriptView ScriptFault
script_of bytes = if nat_lt LONGEST_SCRIPT (length bytes) then Err (record { line = 0; kind = TooLong }) else said (lines_of bytes)

-- a reported fault is the first fault; out of memory is reported only if there is no fault
abbrev pub IsFaultOf : ReadRefused → Result ScriptView ScriptFault → Type 0
IsFaultOf refused.HostMemory read = IsOk read
IsFaultOf (refused.Fault fault) read = read ≡ Err fault

-- what was kept of the lines, if there was memory for all of it
pub record KeptView : Type 0 where
  pub processes : List Declared
  pub lines : List Line
  pub is_whole : Bool

-- what a line says was kept too, if all is kept
abbrev pub KeepsUp : KeptView → KeptView → Option Item → Type 0
KeepsUp before after item = after.is_whole ≡ true → (before.is_whole ≡ true) × (after.processes ≡ before.processes ++ processes_in (with_item item [])) × (after.lines ≡ before.lines ++ lines_in (with_item item []))

-- a line without a fault was taken
pub record Takes (said : Result (Option Item) FaultKind) (seen next : SeenView) (before after : KeptView) : Type 0 where
  pub item : Option Item
  pub is : said ≡ Ok item
  pub counts : next ≡ seen_next seen item
  pub keeps : KeepsUp before after item

-- if an item declares a process, there is room for its pid
abbrev pub HasPlace : SeenView → Item → Type 0
HasPlace seen (items.Process p) = length seen.pids < MOST_PROCESSES
HasPlace seen _ = Unit {0}

abbrev pub IsLine : Item → Type 0
IsLine (items.Line l) = Unit {0}
IsLine _ = ⊥

abbrev pub IsLimits : Item → Type 0
IsLimits (items.Limits b) = Unit {0}
IsLimits _ = ⊥

abbrev pub IsSizes : Item → Type 0
IsSizes (items.Sizes sizes) = Unit {0}
IsSizes _ = ⊥
