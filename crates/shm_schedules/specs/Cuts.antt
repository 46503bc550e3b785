-- The parts of a word or a line.
use Rattle.std.specs.Prelude.{ℕ, ◌==◌, Bool, false, if◌then◌else◌, List, [], ◌∷◌}

-- a single question mark
abbrev pub is_any : List ℕ → Bool
is_any [] = false
is_any (c ∷ []) = c == 63
is_any (c ∷ d ∷ cs) = false

-- the bytes before the first such byte, and those after it
abbrev pub until : ℕ → List ℕ → List ℕ
until c [] = []
until c (b ∷ bs) = if b == c then [] else b ∷ until c bs

abbrev pub past : ℕ → List ℕ → List ℕ
past c [] = []
past c (b ∷ bs) = if b == c then bs else past c bs
