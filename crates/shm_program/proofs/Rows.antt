-- The lines of a table, one index after another.
use Rattle.shm_program.proofs.Names.{arith, add-one, ◌≡◌, ◌<◌, ◌+◌, refl, ℕ, zero, suc, List, [], ◌∷◌, ◌++◌, length, drop, slice_get, Entry, Machine, listed_entry, segment_at, line_shown, lines_from}

lines_from-drop : (m : Machine) (k i : ℕ) (es : List Entry) → i < length es → lines_from m k (drop i es) ≡ line_shown (listed_entry m k (slice_get es i)) ++ lines_from m (k + 1) (drop (suc i) es)
lines_from-drop m k i [] h = absurd (omega arith)
lines_from-drop m k zero (e ∷ es) h = refl
lines_from-drop m k (suc i) (e ∷ es) h = lines_from-drop m k i es (omega arith)

pub lines_from-next : (m : Machine) (i : ℕ) → i < length m.table → lines_from m i (drop i m.table) ≡ line_shown (segment_at m i) ++ lines_from m (i + 1) (drop (i + 1) m.table)
lines_from-next m i h = let step = lines_from-drop m i i m.table h in rw (← add-one i) at step
