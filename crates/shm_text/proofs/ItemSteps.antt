-- Reading line by line, from left to right.
use Rattle.shm_text.proofs.Names.{common_steps, arith, ◌≡◌, ◌≤◌, ◌+◌, ◌++◌, ◌∙◌, ap, sym, refl, ℕ, List, [], ◌∷◌, true, Option, Some, None, Bool, cond, length, append_assoc, append-nil, length-append, nat_lt, is_some, IsOk, FaultKind, ScriptFault, Item, Bounds, ScriptView, SeenView, ◌>>=◌, line_item, with_item, seen_next, limits_after, processes_in, lines_in, script_by, script_from}
use Rattle.std.proofs.Common.{Result, Ok, Err}
use Rattle.shm_text.specs.declared.script.Item.TheVariants as items
use Rattle.shm_text.specs.Reading.{script_of, items_of, KeptView, KeepsUp}

-- `all` is what the lines above say, and then what the lines from the n-th on say
pub record Goes (all : Result (List Item) ScriptFault) (n : ℕ) (seen : SeenView) (lines : List (List ℕ)) (front : List Item) : Type 0 where
  pub is : all ≡ (items_of n seen lines >>= λ more. Ok (front ++ more))

ok_again : (r : Result (List Item) ScriptFault) → r ≡ (r >>= λ more. Ok ([] ++ more))
ok_again r = grind (arith, common_steps)

pub starts : {n : ℕ} {seen : SeenView} (text_lines lines : List (List ℕ)) → lines ≡ text_lines → Goes (items_of n seen text_lines) n seen lines []
starts {n} {seen} text_lines lines e = record { is = ok_again (items_of n seen text_lines) ∙ ap (λ l. items_of n seen l >>= λ more. Ok ([] ++ more)) (sym e) }

at_first : {all : Result (List Item) ScriptFault} {n : ℕ} {seen : SeenView} {left : List (List ℕ)} {front : List Item} (lines : List (List ℕ)) → Goes all n seen left front → left ≡ lines → all ≡ (items_of n seen lines >>= λ more. Ok (front ++ more))
at_first {n = n} {seen = seen} {front = front} lines goes e = goes.is ∙ ap (λ l. items_of n seen l >>= λ more. Ok (front ++ more)) e

pub goes_on : {all : Result (List Item) ScriptFault} {n : ℕ} {seen : SeenView} {left : List (List ℕ)} {front : List Item} (line : List ℕ) (lines : List (List ℕ)) (item : Option Item) (next : SeenView)
    → Goes all n seen left front → left ≡ line ∷ lines → line_item seen line ≡ Ok item → next ≡ seen_next seen item → Goes all (n + 1) next lines (front ++ with_item item [])
unfolding items_of
goes_on line lines item next goes e is counts = grind (arith, common_steps, at_first, append-nil, append_assoc)

pub goes_wrong : {all : Result (List Item) ScriptFault} {n : ℕ} {seen : SeenView} {left : List (List ℕ)} {front : List Item} (line : List ℕ) (lines : List (List ℕ)) (kind : FaultKind)
    → Goes all n seen left front → left ≡ line ∷ lines → line_item seen line ≡ Err kind → all ≡ Err (record { line = n; kind = kind })
unfolding items_of
goes_wrong line lines kind goes e is = grind (arith, common_steps, at_first)

pub goes_to_end : {all : Result (List Item) ScriptFault} {n : ℕ} {seen : SeenView} {left : List (List ℕ)} {front : List Item} → Goes all n seen left front → left ≡ [] → all ≡ Ok front
unfolding items_of
goes_to_end {front = front} goes e = at_first [] goes e ∙ ap Ok (append-nil front)

pub counts_on : (seen : SeenView) (item : Option Item) → (seen_next seen item).commands ≤ seen.commands + 1
counts_on seen item = grind (arith, common_steps)

-- the limits that were seen are those of the items
limits_step : (b : Option Bounds) (front : List Item) (item : Item) → limits_after b (front ++ item ∷ []) ≡ limits_after (limits_after b front) (item ∷ [])
limits_step b [] item = refl
limits_step b (items.Sizes sizes ∷ front) item = limits_step b front item
limits_step b (items.Limits c ∷ front) item = limits_step (Some c) front item
limits_step b (items.Process p ∷ front) item = limits_step b front item
limits_step b (items.Line l ∷ front) item = limits_step b front item

pub limits_go_on : (front : List Item) (seen next : SeenView) (item : Option Item) → limits_after None front ≡ seen.limits → next ≡ seen_next seen item → limits_after None (front ++ with_item item []) ≡ next.limits
limits_go_on front seen next item e is = grind (arith, common_steps, append-nil, limits_step)

pub processes_in-append : (xs ys : List Item) → processes_in (xs ++ ys) ≡ processes_in xs ++ processes_in ys
processes_in-append [] ys = refl
processes_in-append (items.Sizes sizes ∷ xs) ys = processes_in-append xs ys
processes_in-append (items.Limits b ∷ xs) ys = processes_in-append xs ys
processes_in-append (items.Process p ∷ xs) ys = ap (λ l. p ∷ l) (processes_in-append xs ys)
processes_in-append (items.Line l ∷ xs) ys = processes_in-append xs ys

pub lines_in-append : (xs ys : List Item) → lines_in (xs ++ ys) ≡ lines_in xs ++ lines_in ys
lines_in-append [] ys = refl
lines_in-append (items.Sizes sizes ∷ xs) ys = lines_in-append xs ys
lines_in-append (items.Limits b ∷ xs) ys = lines_in-append xs ys
lines_in-append (items.Process p ∷ xs) ys = lines_in-append xs ys
lines_in-append (items.Line l ∷ xs) ys = ap (λ k. l ∷ k) (lines_in-append xs ys)

-- all that the items say was kept, if there was memory for it
abbrev pub Keeps : KeptView → List Item → Type 0
Keeps kept front = kept.is_whole ≡ true → (kept.processes ≡ processes_in front) × (kept.lines ≡ lines_in front)

pub keeps_on : (front : List Item) (before after : KeptView) (item : Option Item) → Keeps before front → KeepsUp before after item → Keeps after (front ++ with_item item [])
keeps_on front before after item kept next whole =
    let step = next whole in
    let so_far = kept step.0 in (
      step.1 ∙ ap (λ l. l ++ processes_in (with_item item [])) so_far.0 ∙ sym (processes_in-append front (with_item item [])),
      step.2 ∙ ap (λ l. l ++ lines_in (with_item item [])) so_far.1 ∙ sym (lines_in-append front (with_item item [])),
    )

-- a script is not too long
short_by : (long : Bool) (n : ℕ) (r : Result ScriptView ScriptFault) (fault : ScriptFault) (script : ScriptView) → nat_lt 1048576 n ≡ long → cond long (Err fault) r ≡ Ok script → n ≤ 1048576
short_by long n r fault script h1 e = grind (arith, common_steps)

pub short_script : (bytes : List ℕ) (script : ScriptView) → script_of bytes ≡ Ok script → length bytes ≤ 1048576
unfolding script_of
short_script bytes script e = short_by _ (length bytes) _ _ script refl e

-- a fault in a text that is cut after the longest script is the fault of the whole text
same_by : (long : Bool) (input front rest : List ℕ) (fault : ScriptFault) → nat_lt 1048576 (length front) ≡ long → input ≡ front ++ rest → (length front ≤ 1048576 → rest ≡ []) → script_of front ≡ Err fault → script_of input ≡ Err fault
unfolding script_of
same_by long input front rest fault h1 split whole e = grind (arith, common_steps, append-nil, length-append)

pub same_fault : (input front rest : List ℕ) (fault : ScriptFault) → input ≡ front ++ rest → (length front ≤ 1048576 → rest ≡ []) → script_of front ≡ Err fault → script_of input ≡ Err fault
same_fault input front rest fault split whole e = same_by _ input front rest fault refl split whole e

-- the script that the items make
pub said_wrong : (all : Result (List Item) ScriptFault) (fault : ScriptFault) → all ≡ Err fault → (all >>= script_from) ≡ Err fault
said_wrong all fault e = ap (λ r. r >>= script_from) e

pub said_by : (all : Result (List Item) ScriptFault) (front : List Item) (b : Option Bounds) → all ≡ Ok front → limits_after None front ≡ b → (all >>= script_from) ≡ script_by b front
said_by all front b e h = ap (λ r. r >>= script_from) e ∙ ap (λ l. script_by l front) h

pub ok_with : (b : Option Bounds) (front : List Item) → is_some b ≡ true → IsOk (script_by b front)
ok_with b front e = grind (arith, common_steps)
