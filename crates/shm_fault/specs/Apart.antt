-- All held segments have different identifiers.
use Rattle.std.specs.Prelude.{◌≡◌, false, List, [], ◌∷◌, ⊤}
use Rattle.shm_fault.specs.Held.{Held, is_held}

abbrev pub AreHeldApart : List Held → Type 0
AreHeldApart [] = ⊤
AreHeldApart (g ∷ gs) = (is_held gs g.id ≡ false) × AreHeldApart gs
