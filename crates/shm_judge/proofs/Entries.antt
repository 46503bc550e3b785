-- The lines of a log, from a place on.
use Rattle.shm_judge.proofs.Names.{◌≡◌, ◌<◌, ℕ, ◌+◌, ◌==◌, List, [], ◌∷◌, ◌++◌, length, Result, Ok, Err, ap, refl, sym, ◌∙◌, arith, inl, inr, cases_Bool, Process, Entry, IsSaid, all_before, entries_from, joined, line_says, lines_in, with_first, past, until, IsRefusedLog, LogFault, LogRefused}
use Rattle.shm_judge.specs.declared.fault.LogRefused.TheVariants as refusals

-- the first line, and those after it
first-line : (b : ℕ) (bs : List ℕ) → lines_in (b ∷ bs) ≡ until 10 (b ∷ bs) ∷ lines_in (past 10 (b ∷ bs))
first-line b [] = elim (cases_Bool (b == 10)) [
  | inl same ↦ rw same refl
  | inr other ↦ rw other refl
]
first-line b (c ∷ cs) =
    let rest = first-line c cs in
    elim (cases_Bool (b == 10)) [
      | inl same ↦ rw same refl
      | inr other ↦ rw other (ap (with_first b) rest)
    ]

pub next-line : (text : List ℕ) → 0 < length text → lines_in text ≡ until 10 text ∷ lines_in (past 10 text)
next-line [] some = absurd (omega (arith, some))
next-line (b ∷ bs) some = first-line b bs

append-assoc : (xs ys zs : List Entry) → xs ++ (ys ++ zs) ≡ (xs ++ ys) ++ zs
append-assoc [] ys zs = refl
append-assoc (x ∷ xs) ys zs = ap (λ (l : List Entry). x ∷ l) (append-assoc xs ys zs)

before-before : (xs ys : List Entry) (rest : Result (List Entry) LogFault) → all_before xs (all_before ys rest) ≡ all_before (xs ++ ys) rest
before-before xs ys (Ok more) = ap Ok (append-assoc xs ys more)
before-before xs ys (Err fault) = refl

-- one line more
pub one-line :
    (processes : List Process) (number : ℕ) (text line rest : List ℕ) (olds news : List Entry) (all : Result (List Entry) LogFault)
    → all ≡ all_before olds (entries_from processes number (lines_in text)) → 0 < length text
    → line ≡ until 10 text → rest ≡ past 10 text → IsSaid (line_says processes number line) olds news
    → all ≡ all_before news (entries_from processes (number + 1) (lines_in rest))
one-line processes number text line rest olds news all is some first last said =
    is
    ∙ ap (λ (ls : List (List ℕ)). all_before olds (entries_from processes number ls)) (next-line text some)
    ∙ ap (λ (l : List ℕ). all_before olds (joined (line_says processes number l) (entries_from processes (number + 1) (lines_in (past 10 text))))) (sym first)
    ∙ ap (λ (says : Result (List Entry) LogFault). all_before olds (joined says (entries_from processes (number + 1) (lines_in (past 10 text))))) said.1
    ∙ before-before olds said.0 (entries_from processes (number + 1) (lines_in (past 10 text)))
    ∙ ap (λ (es : List Entry). all_before es (entries_from processes (number + 1) (lines_in (past 10 text)))) (sym said.2)
    ∙ ap (λ (r : List ℕ). all_before news (entries_from processes (number + 1) (lines_in r))) (sym last)

-- or the first fault
pub line-fault :
    (processes : List Process) (number : ℕ) (text line : List ℕ) (olds : List Entry) (all : Result (List Entry) LogFault) (fault : LogFault)
    → all ≡ all_before olds (entries_from processes number (lines_in text)) → 0 < length text
    → line ≡ until 10 text → line_says processes number line ≡ Err fault → all ≡ Err fault
line-fault processes number text line olds all fault is some first says =
    is
    ∙ ap (λ (ls : List (List ℕ)). all_before olds (entries_from processes number ls)) (next-line text some)
    ∙ ap (λ (l : List ℕ). all_before olds (joined (line_says processes number l) (entries_from processes (number + 1) (lines_in (past 10 text))))) (sym first)
    ∙ ap (λ (s : Result (List Entry) LogFault). all_before olds (joined s (entries_from processes (number + 1) (lines_in (past 10 text))))) says

pub refused-line :
    (processes : List Process) (number : ℕ) (text line : List ℕ) (olds : List Entry) (all : Result (List Entry) LogFault) (why : LogRefused)
    → all ≡ all_before olds (entries_from processes number (lines_in text)) → 0 < length text
    → line ≡ until 10 text → IsRefusedLog why (line_says processes number line) → IsRefusedLog why all
refused-line processes number text line olds all (refusals.Fault fault) is some first says = line-fault processes number text line olds all fault is some first says
refused-line processes number text line olds all refusals.HostMemory is some first says = tt
