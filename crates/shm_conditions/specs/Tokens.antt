-- The words and marks of a condition's text.
use Rattle.std.specs.Prelude.{ℕ, ◌+◌, ◌==◌, ◌&&◌, Bool, true, false, if◌then◌else◌, List, [], ◌∷◌, ◌++◌, length, Option, Some, None, slice_index}
use Rattle.shm_conditions.specs.declared.tokens.Mark.{Mark}
use Rattle.shm_conditions.specs.declared.tokens.Mark.TheVariants.{Word, Not, Open, Close, And, Or}

-- the number of its first byte, from 1; a mark has no word
pub record Token : Type 0 where
  pub at : ℕ
  pub mark : Mark
  pub word : List ℕ

-- the tokens so far, a word that may continue, the number of its first byte, and whether the next byte is the end of a mark
pub record Cut : Type 0 where
  pub tokens : List Token
  pub word : List ℕ
  pub begin : ℕ
  pub skips : Bool

abbrev pub uncut : Cut
uncut = record { tokens = []; word = []; begin = 1; skips = false }

-- the tokens, if the word ends
abbrev pub ended : Cut → List Token
ended c = if length c.word == 0 then c.tokens else c.tokens ++ record { at = c.begin; mark = Word; word = c.word } ∷ []

-- the mark that begins with this byte, which is before another
abbrev pub mark_of : ℕ → ℕ → Option Mark
mark_of b next =
    if b == 126 then Some Not else
    if b == 40 then Some Open else
    if b == 41 then Some Close else
    if b == 47 && (next == 92) then Some And else
    if b == 92 && (next == 47) then Some Or else
    None

-- the mark has two bytes
abbrev pub is_double : Mark → Bool
is_double And = true
is_double Or = true
is_double mark = false

abbrev pub with_mark : ℕ → Cut → Mark → Cut
with_mark at c mark = record { tokens = ended c ++ record { at = at; mark = mark; word = [] } ∷ []; word = []; begin = at + 1; skips = is_double mark }

-- a space ends a word
abbrev pub with_byte : ℕ → Cut → ℕ → Cut
with_byte at c b =
    if b == 32
    then record { tokens = ended c; word = []; begin = at + 1; skips = false }
    else record { tokens = c.tokens; word = c.word ++ b ∷ []; begin = c.begin; skips = false }

abbrev pub marked : ℕ → Cut → ℕ → Option Mark → Cut
marked at c b None = with_byte at c b
marked at c b (Some mark) = with_mark at c mark

-- the byte with this number, which is before another, or before 0 at the end
abbrev pub cut_after : ℕ → Cut → ℕ → ℕ → Cut
cut_after at c b next = if c.skips then record c { begin = at + 1; skips = false } else marked at c b (mark_of b next)

abbrev pub cut_from : ℕ → Cut → List ℕ → Cut
cut_from at c [] = c
cut_from at c (b ∷ bs) = cut_from (at + 1) (cut_after at c b (slice_index bs 0)) bs

abbrev pub tokens_of : List ℕ → List Token
tokens_of text = ended (cut_from 1 uncut text)
