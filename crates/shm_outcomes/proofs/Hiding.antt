-- Outcomes lose their identifiers and addresses one by one.
use Rattle.shm_outcomes.proofs.Names.{◌≡◌, ◌<◌, ℕ, suc, zero, ◌+◌, List, [], ◌∷◌, All, Contains, length, take, slice_index_or, refl, sym, ap, subst, arith, inl, inr, All-contains, All-more, All-push, All-weaker, Contains-get_or, Reply, ScriptView, AreMaskedOutcomes, IsMaskedFinding, hidden_finding, hidden_outcome, outcome_of, Run, IsSchedule, AreDistinct, AreOutcomes, IsFinding, IsInserted, outcomes_in, Finding}
use Rattle.shm_outcomes.proofs.Searching.{inserted-distinct, inserted-keeps, inserted-there}

abbrev IsHiddenOf : List Finding → Finding → Type 0
IsHiddenOf found f = (g : Finding) × Contains found g × (f ≡ hidden_finding g)

abbrev IsThere : List Finding → Finding → Type 0
IsThere masked g = Contains (outcomes_in masked) (hidden_outcome g.outcome)

-- the first findings, each outcome without identifiers and addresses once
pub record AreHidden (found : List Finding) (i : ℕ) (masked : List Finding) : Type 0 where
  pub sound : All (IsHiddenOf found) masked
  pub complete : All (IsThere masked) (take i found)
  pub distinct : AreDistinct (outcomes_in masked)

inserted-hidden : (found olds news : List Finding) (g : Finding) → Contains found g → IsInserted olds (hidden_finding g) news → All (IsHiddenOf found) olds → All (IsHiddenOf found) news
inserted-hidden found olds news g here (inl old) all = rw old.1 all
inserted-hidden found olds news g here (inr new) all = rw new.1 (All-push (IsHiddenOf found) olds (hidden_finding g) all (g, here, refl))

pub more-hidden :
    (found olds news : List Finding) (i : ℕ) (g : Finding)
    → i < length found → g ≡ slice_index_or found i g → AreHidden found i olds → IsInserted olds (hidden_finding g) news → AreHidden found (i + 1) news
more-hidden found olds news i g lt at before inserted =
    let here : Contains found g = subst (Contains found) (sym at) (Contains-get_or found i g lt) in
    let kept : (x : Finding) → IsThere olds x → IsThere news x = λ x there. inserted-keeps olds news (hidden_finding g) inserted (hidden_outcome x.outcome) there in
    let own : IsThere news g = inserted-there olds news (hidden_finding g) inserted in
    record {
      sound = inserted-hidden found olds news g here inserted before.sound;
      complete = All-more (IsThere news) found i g lt (All-weaker (IsThere olds) (IsThere news) kept (take i found) before.complete) (subst (IsThere news) at own);
      distinct = inserted-distinct olds news (hidden_finding g) inserted before.distinct;
    }

-- an outcome that is there is that of a finding
found-with : (found : List Finding) (k : ℕ) (o : List (List Reply)) → k < length found → slice_index_or (outcomes_in found) k o ≡ o → (g : Finding) × Contains found g × (g.outcome ≡ o)
found-with [] k o lt at = absurd (omega (arith, lt))
found-with (g ∷ found) zero o lt at = (g, (0, omega arith, refl), at)
found-with (g ∷ found) (suc k) o lt at =
    let rest = found-with found k o (omega (arith, lt)) at in
    let there = rest.1 in
    (rest.0, (suc there.0, (let e = there.1 in omega (arith, e)), there.2), rest.2)

same-length : (found : List Finding) → length (outcomes_in found) ≡ length found
same-length [] = refl
same-length (g ∷ found) = ap suc (same-length found)

take-all : (found : List Finding) → take (length found) found ≡ found
take-all [] = refl
take-all (g ∷ found) = ap (λ (l : List Finding). g ∷ l) (take-all found)

pub all-hidden :
    (found masked : List Finding) → AreHidden found (length found) masked
    → (script : ScriptView) (first : Run) → AreOutcomes script first found → AreMaskedOutcomes script first masked
all-hidden found masked all script first outcomes =
    record {
      sound = All-weaker (IsHiddenOf found) (IsMaskedFinding script first) sound masked all.sound;
      complete = complete;
      distinct = all.distinct;
    }
  where
    sound : (f : Finding) → IsHiddenOf found f → IsMaskedFinding script first f
    sound f h =
        let g = All-contains (IsFinding script first) found h.0 outcomes.sound h.1 in
        subst (IsMaskedFinding script first) (sym h.2) (g.0, g.1, g.2, ap hidden_outcome g.3)

    every : All (IsThere masked) found
    every = subst (All (IsThere masked)) (take-all found) all.complete

    complete : (schedule : List ℕ) (end : Run) → IsSchedule script first schedule end → Contains (outcomes_in masked) (hidden_outcome (outcome_of script end.events))
    complete schedule end is =
        let there = outcomes.complete schedule end is in
        let short = same-length found in
        let g = found-with found there.0 (outcome_of script end.events) (let e = there.1 in omega (arith, e, short)) there.2 in
        subst (λ (o : List (List Reply)). Contains (outcomes_in masked) (hidden_outcome o)) g.2 (All-contains (IsThere masked) found g.0 every g.1)
