-- What is asked for one after the other, and what that makes of a line, a round, a start.
use Rattle.shm_threads.proofs.Names.{◌+◌, ◌++◌, ℕ, Bool, true, false, List, [], ◌∷◌, subst, sym, append_assoc, append-nil, Asked, Before, Stepped, After, Adds, asks_of, RoundAsked, May, Round, asks_of_rounds}
use Prim.Native.Nat.{suc}
use Rattle.shm_threads.specs.Asked.{Made}

pub adds_none : {X : Type 0} → (A : List X → Type 0) → Adds A [] A
adds_none A log a = subst A (sym (append-nil log)) a

pub adds_then : {X : Type 0} → (A B C : List X → Type 0) (xs ys : List X) → Adds A xs B → Adds B ys C → Adds A (xs ++ ys) C
adds_then A B C xs ys f g log a = subst C (append_assoc log xs ys) (g (log ++ xs) (f log a))

-- a line, and those after it
pub line_asked : (A B C D E : List Asked → Type 0) (n lines : ℕ) (steps : List Bool) → Adds A (Before n true ∷ []) B → Adds B (Stepped true ∷ []) C → Adds C (After n ∷ []) D
    → Adds D (asks_of (n + 1) lines steps) E → Adds A (asks_of n (suc lines) (true ∷ steps)) E
line_asked A B C D E n lines steps before step after rest =
    adds_then A B E (Before n true ∷ []) _ before (
    adds_then B C E (Stepped true ∷ []) _ step (
    adds_then C D E (After n ∷ []) _ after rest))

-- the last line of a process, and none after it
pub last_asked : (A B C D : List Asked → Type 0) (n lines : ℕ) → Adds A (Before n true ∷ []) B → Adds B (Stepped false ∷ []) C → Adds C (After n ∷ []) D → Adds A (asks_of n (suc lines) (false ∷ [])) D
last_asked A B C D n lines before step after =
    adds_then A B D (Before n true ∷ []) _ before (
    adds_then B C D (Stepped false ∷ []) (After n ∷ []) step after)

-- a round, and those after it
pub round_asked : (A B C D E : List RoundAsked → Type 0) (n rounds more : ℕ)
    → Adds A (May n true ∷ []) B → Adds B (Round ∷ []) C → Adds C (Made n ∷ []) D → Adds D (asks_of_rounds (n + 1) rounds more) E
    → Adds A (asks_of_rounds n (suc rounds) (suc more)) E
round_asked A B C D E n rounds more may round made rest =
    adds_then A B E (May n true ∷ []) _ may (
    adds_then B C E (Round ∷ []) _ round (
    adds_then C D E (Made n ∷ []) _ made rest))
