-- What the lines of a script leave as it was.
use Rattle.shm_program.proofs.Names.{◌≡◌, List, [], ◌∷◌, ap, subst, sym, ◌∙◌, WorldState, GoesOn, GoesOn-refl, GoesOn-trans, Line, Command, Flush, HasRun, HaveRun, RunStep, HolderView}

-- the opening stays, and the counts of failures go on from where they were
abbrev GoesOnFrom : WorldState → WorldState → Type 0
GoesOnFrom before after = (after.opening ≡ before.opening) × GoesOn before.memory.swap after.memory.swap

line-kept : (hs : List HolderView) (w : WorldState) (l : Line) (s : RunStep) → HasRun hs w l s → GoesOnFrom w s.world
line-kept hs w (Command c) s (reply, is, called, values) = (called.opening, called.keeps.goes_on)
line-kept hs w (Flush pages) s (report, is, round, values) = (ap (λ (v : WorldState). v.opening) round.rest, round.keeps.goes_on)

pub run-kept : (hs later : List HolderView) (w end : WorldState) (ls : List Line) (ss : List RunStep) → HaveRun hs w ls ss later end → GoesOnFrom w end
run-kept hs later w end [] [] (values, same) =
    (ap (λ (v : WorldState). v.opening) same, subst (λ (v : WorldState). GoesOn w.memory.swap v.memory.swap) (sym same) (GoesOn-refl w.memory.swap))
run-kept hs later w end [] (s ∷ ss) ran = absurd ran
run-kept hs later w end (l ∷ ls) [] ran = absurd ran
run-kept hs later w end (l ∷ ls) (s ∷ ss) (first, rest) =
    let one = line-kept hs w l s first in
    let more = run-kept s.values later s.world end ls ss rest in
    (more.0 ∙ one.0, GoesOn-trans w.memory.swap s.world.memory.swap end.memory.swap one.1 more.1)
