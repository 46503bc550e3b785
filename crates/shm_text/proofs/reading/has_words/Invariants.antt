use Rattle.shm_text.proofs.Names.{◌≡◌, length, list_all, is_wordless, lines_of}
use Rattle.shm_text.proofs.reading.has_words.Given as goal

-- the lines that are left decide
abbrev pub invariant-loop-lines : goal.invariant-loop-lines
invariant-loop-lines l = list_all is_wordless l.lines.left ≡ list_all is_wordless (lines_of l.bytes)

abbrev pub decreases-loop-lines : goal.decreases-loop-lines
decreases-loop-lines l = length l.lines.left
