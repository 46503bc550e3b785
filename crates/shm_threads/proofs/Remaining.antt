-- The command lines of a process: how many there are, and those that are left at a line.
use Rattle.shm_threads.proofs.Names.{◌≡◌, ◌<◌, ◌+◌, ◌++◌, ◌==◌, ℕ, List, [], ◌∷◌, length, drop, filter, ap, ◌∙◌, refl, inl, inr, eq-eqb, ne_eqb, get_or, cases_eq, drop_more, CommandView, Line, Command, Flush, callers_of, commands_of}
use Rattle.std.proofs.Common.{suc}

first : (pid : ℕ) (l : Line) (ls : List Line) → commands_of pid (l ∷ ls) ≡ commands_of pid (l ∷ []) ++ commands_of pid ls
first pid (Flush n) ls = refl
first pid (Command c) ls =
    elim (cases_eq c.pid pid) [
      | inl own ↦ rw (eq-eqb c.pid pid own) refl
      | inr other ↦ rw (ne_eqb c.pid pid other) refl
    ]

-- a process has as many command lines as callers
pub count_callers : (pid : ℕ) (ls : List Line) → length (filter (λ p. p == pid) (callers_of ls)) ≡ length (commands_of pid ls)
count_callers pid [] = refl
count_callers pid (Flush n ∷ ls) = count_callers pid ls
count_callers pid (Command c ∷ ls) =
    elim (cases_eq c.pid pid) [
      | inl own ↦ rw (eq-eqb c.pid pid own) (ap suc (count_callers pid ls))
      | inr other ↦ rw (ne_eqb c.pid pid other) (count_callers pid ls)
    ]

module _ (pid : ℕ) (ls : List Line) (i : ℕ) (l : Line) (lt : i < length ls) (here : get_or ls i l ≡ l) (found : List CommandView) (is : commands_of pid (l ∷ []) ≡ found) where
  -- those from this line on
  pub from-line : commands_of pid (drop i ls) ≡ found ++ commands_of pid (drop (i + 1) ls)
  from-line =
      ap (commands_of pid) (drop_more ls i l lt ∙ ap (λ (x : Line). x ∷ drop (i + 1) ls) here)
      ∙ first pid l (drop (i + 1) ls) ∙ ap (λ (cs : List CommandView). cs ++ commands_of pid (drop (i + 1) ls)) is
