-- What is read of the values that `clap` found.
use Rattle.std.specs.Prelude.{◌≡◌, List, [], Option, Some, None, IsSomeAnd, map, option_map, unwrap_or}
use Rattle.std.proofs.Common.{ap, ◌∙◌, refl}
use Rattle.std.specs.Borrow.{Bor}
use Rattle.clap.specs.Words.{Text}

pub some-is : {X : Type 0} (found : Option X) (x : X) → IsSomeAnd found (λ y. y ≡ x) → found ≡ Some x
some-is None x is = absurd is
some-is (Some y) x is = rw is refl

-- the text of an argument, or an empty one
pub text-of : (found : Option (Bor Text)) (other text : Bor Text) (value : Option Text) → option_map (λ s. s.now) found ≡ value → other.now ≡ [] → text ≡ unwrap_or found other → text.now ≡ unwrap_or value []
text-of None other text value is empty same = ap (λ (t : Bor Text). t.now) same ∙ empty ∙ ap (λ (v : Option Text). unwrap_or v []) is
text-of (Some s) other text value is empty same = ap (λ (t : Bor Text). t.now) same ∙ ap (λ (v : Option Text). unwrap_or v []) is

abbrev texts : Bor (List (Bor Text)) → List Text
texts s = map (λ v. v.now) s.now

-- the texts of an argument, or none
pub texts-of : (found : Option (Bor (List (Bor Text)))) (other words : Bor (List (Bor Text))) (values : Option (List Text)) → option_map texts found ≡ values → other.now ≡ [] → words ≡ unwrap_or found other
    → texts words ≡ unwrap_or values []
texts-of None other words values is empty same = ap texts same ∙ ap (λ (ws : List (Bor Text)). map (λ v. v.now) ws) empty ∙ ap (λ (v : Option (List Text)). unwrap_or v []) is
texts-of (Some s) other words values is empty same = ap texts same ∙ ap (λ (v : Option (List Text)). unwrap_or v []) is
