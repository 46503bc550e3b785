-- What steps count, one after another.
use Rattle.shm_fault.proofs.Names.{◌≡◌, ℕ, zero, suc, ◌+◌, Bool, true, false, refl, ◌∙◌, arith, Touched, StoreView, next_count, raised, one_if, IsUncounted, CountsOn, common_steps, nat_tests, ◌⊎◌, Result, Ok, Err, OnOk, OnErr, inl, inr}
use mir.Val.{bool_byte}

pub raised-trans : (n a b : ℕ) → raised (raised n a) b ≡ raised n (a + b)
raised-trans n zero b = let e : 0 + b ≡ b = omega arith in rw e refl
raised-trans n (suc a) b = let e : suc a + b ≡ suc (a + b) = omega arith in rw e (raised-trans (next_count n) a b)

-- a bit that is counted
pub byte-one : (b : Bool) → bool_byte b ≡ one_if b
byte-one true = refl
byte-one false = refl

-- a step that counted these reads and writes
pub counts-more : (u v : Touched) (s t : StoreView) (a b : ℕ) → v.ins ≡ u.ins + a → t.ins ≡ raised s.ins a → v.outs ≡ u.outs + b → t.outs ≡ raised s.outs b → CountsOn u v s t
counts-more u v s t a b ins read_in outs written_out = grind (arith, nat_tests, common_steps, raised-trans, u.ins, u.outs)

pub counts-still : (u : Touched) (s t : StoreView) → t.ins ≡ s.ins → t.outs ≡ s.outs → CountsOn u u s t
counts-still u s t ins outs = record { ins = λ n e. ins ∙ e; outs = λ n e. outs ∙ e }

pub uncounted-trans : (s t u : StoreView) → IsUncounted s t → IsUncounted t u → IsUncounted s u
uncounted-trans s t u a b = record { ins = b.ins ∙ a.ins; outs = b.outs ∙ a.outs }

-- what either result has
pub either_way : {A E : Type 0} (r : Result A E) (P Q : Type 0) → OnOk r P → OnErr r Q → P ⊎ Q
either_way (Ok a) P Q p q = inl p
either_way (Err x) P Q p q = inr q
