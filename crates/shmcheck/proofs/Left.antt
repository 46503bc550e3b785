-- What the words that are left ask for.
use Rattle.std.proofs.Common.{◌≡◌, ◌∙◌, ap, sym, refl, ℕ, List, [], ◌∷◌, map, true, false, Option, Some}
use Rattle.std.specs.Prelude.{option_and_then, codes}
use Rattle.std.specs.Str.{bytes_eq}
use Rattle.shmcheck.specs.Words.{draw_by, draws_of, option_by, options_of}
use Rattle.shmcheck.specs.declared.command.Draws.{Draws}
use Rattle.shmcheck.specs.declared.command.Options.{Options}

module _ {X : Type 0} (text : X → List ℕ) where
  -- one option of runs was read
  pub draws_left : (left rest : List X) (name value : X) (old new : Draws) (all : Option Draws) → left ≡ name ∷ value ∷ rest → draw_by (text name) (text value) old ≡ Some new
      → draws_of (map text left) old ≡ all → draws_of (map text rest) new ≡ all
  draws_left left rest name value old new all split read same =
      sym (ap (λ l. draws_of (map text l) old) split ∙ ap (option_and_then (draws_of (map text rest))) read) ∙ same

  -- one option of a search was read
  pub options_left : (left rest : List X) (name value : X) (old new : Options) (all : Option Options) → left ≡ name ∷ value ∷ rest → bytes_eq (text name) (codes "--masked") ≡ false → option_by (text name) (text value) old ≡ Some new
      → options_of (map text left) old ≡ all → options_of (map text rest) new ≡ all
  options_left left rest name value old new all split other read same =
      sym (ap (λ l. options_of (map text l) old) split ∙ (rw other (ap (option_and_then (options_of (map text rest))) read))) ∙ same

  masked_first : (rest : List X) (name : X) (old : Options) → bytes_eq (text name) (codes "--masked") ≡ true → options_of (map text (name ∷ rest)) old ≡ options_of (map text rest) (record old { masked = true })
  masked_first [] name old is = rw is refl
  masked_first (value ∷ rest) name old is = rw is refl

  -- the word that masks was read
  pub masked_left : (left rest : List X) (name : X) (old : Options) (all : Option Options) → left ≡ name ∷ rest → bytes_eq (text name) (codes "--masked") ≡ true
      → options_of (map text left) old ≡ all → options_of (map text rest) (record old { masked = true }) ≡ all
  masked_left left rest name old all split is same = sym (ap (λ l. options_of (map text l) old) split ∙ masked_first rest name old is) ∙ same
