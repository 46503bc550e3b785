-- A condition as a list that gives it back: its parts, each after those that it joins.
use Rattle.std.specs.Prelude.{◌≡◌, ℕ, zero, suc, List, [], ◌∷◌, refl}
use Rattle.std.proofs.Common.{◌∙◌, ap}
use Rattle.std.specs.Coded.{Coded, code_by, coded×, coded_ℕ, coded_list}
use Rattle.shm_conditions.specs.Conditions.{Condition, Says, Not, Both, Either}

abbrev pub Part : Type 0
Part = ℕ × (ℕ × (ℕ × List ℕ))

-- a part of this kind that only joins
abbrev pub joint : ℕ → Part
joint kind = (kind, (0, (0, [])))

abbrev pub parts : Condition → List Part → List Part
parts (Says l word) rest = (0, (l.process, (l.line, word))) ∷ rest
parts (Not c) rest = parts c (joint 1 ∷ rest)
parts (Both a b) rest = parts a (parts b (joint 2 ∷ rest))
parts (Either a b) rest = parts a (parts b (joint 3 ∷ rest))

abbrev pub join : ℕ → Condition → List Condition → List Condition
join zero said cs = said ∷ cs
join (suc zero) said (c ∷ cs) = Not c ∷ cs
join (suc (suc zero)) said (b ∷ a ∷ cs) = Both a b ∷ cs
join (suc (suc (suc n))) said (b ∷ a ∷ cs) = Either a b ∷ cs
join kind said cs = cs

abbrev pub whole : List Condition → Condition
whole [] = Says (record { process = 0; line = 0 }) []
whole (c ∷ cs) = c

abbrev pub join_all : List Part → List Condition → List Condition
join_all [] cs = cs
join_all (p ∷ ps) cs = join_all ps (join p.0 (Says (record { process = p.1.0; line = p.1.1.0 }) p.1.1.1) cs)

abbrev pub joined-back : (c : Condition) (rest : List Part) (cs : List Condition) → join_all (parts c rest) cs ≡ join_all rest (c ∷ cs)
joined-back (Says l word) rest cs = refl
joined-back (Not c) rest cs = joined-back c (joint 1 ∷ rest) cs
joined-back (Both a b) rest cs = joined-back a (parts b (joint 2 ∷ rest)) cs ∙ joined-back b (joint 2 ∷ rest) (a ∷ cs)
joined-back (Either a b) rest cs = joined-back a (parts b (joint 3 ∷ rest)) cs ∙ joined-back b (joint 3 ∷ rest) (a ∷ cs)

abbrev pub back : (c : Condition) → whole (join_all (parts c []) []) ≡ c
back c = ap whole (joined-back c [] [])

abbrev pub condition_code : Coded Condition
condition_code =
    code_by (List Part) (coded_list (coded× coded_ℕ (coded× coded_ℕ (coded× coded_ℕ (coded_list coded_ℕ)))))
    (λ c. parts c []) (λ ps. whole (join_all ps [])) back
