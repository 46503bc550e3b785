-- One strand of several that is changed.
use Rattle.shm_threads.proofs.Names.{◌≡◌, ◌≢◌, ◌<◌, ◌≤◌, ◌+◌, ℕ, true, false, List, [], ◌∷◌, length, All, subst, sym, ap, ◌∙◌, refl, arith, inl, inr, eq-eqb, true≢false, get_or, set, cases_eq, or_left, or_right, get_or-set_other, get_or-set_same, length-set, has_pid, Process, are_pids, IsProcessAt, left_in, left_of, Strand}
use Rattle.std.specs.Prelude.{zero, suc}

-- what holds of each, once one is changed
pub each-set : {X : Type 0} (P Q : X → Type 0) (xs : List X) (k : ℕ) (x : X) → k < length xs → All P xs
    → ((j : ℕ) (d : X) → j < length xs → j ≢ k → P (get_or xs j d) → Q (get_or xs j d)) → Q x → All Q (set xs k x)
each-set P Q xs k x lt all others own =
    λ j d less.
    let short : j < length xs = omega (arith, less, length-set xs k x) in
    elim (cases_eq j k) [
      | inl same ↦ subst (λ (i : ℕ). Q (get_or (set xs k x) i d)) (sym same) (subst Q (sym (get_or-set_same xs k x d lt)) own)
      | inr apart ↦ subst Q (sym (get_or-set_other xs k j x d apart)) (others j d short apart (all j d short))
    ]

-- PIDS

pub has-at : (ps : List Process) (q j : ℕ) (d : Process) → j < length ps → (get_or ps j d).pid ≡ q → has_pid q ps ≡ true
has-at [] q j d lt is = absurd (omega (arith, lt))
has-at (p ∷ ps) q zero d lt is = or_left _ (has_pid q ps) (eq-eqb p.pid q is)
has-at (p ∷ ps) q (suc j) d lt is = or_right _ (has_pid q ps) (has-at ps q j d (omega (arith, lt)) is)

-- no two processes have the same pid
pub apart-pids : (ps : List Process) → are_pids ps ≡ true → (i j : ℕ) (d : Process) → i < length ps → j < length ps → (get_or ps i d).pid ≡ (get_or ps j d).pid → i ≡ j
apart-pids [] pids i j d lt less same = absurd (omega (arith, lt))
apart-pids (p ∷ ps) pids zero zero d lt less same = refl
apart-pids (p ∷ ps) pids zero (suc j) d lt less same = absurd (true≢false (sym (has-at ps p.pid j d (omega (arith, less)) (sym same)) ∙ once p ps pids))
  where
    once : (p : Process) (ps : List Process) → are_pids (p ∷ ps) ≡ true → has_pid p.pid ps ≡ false
    once p ps is = grind (arith, is)
apart-pids (p ∷ ps) pids (suc i) zero d lt less same = absurd (true≢false (sym (has-at ps p.pid i d (omega (arith, lt)) same) ∙ once p ps pids))
  where
    once : (p : Process) (ps : List Process) → are_pids (p ∷ ps) ≡ true → has_pid p.pid ps ≡ false
    once p ps is = grind (arith, is)
apart-pids (p ∷ ps) pids (suc i) (suc j) d lt less same = ap suc (apart-pids ps (others p ps pids) i j d (omega (arith, lt)) (omega (arith, less)) same)
  where
    others : (p : Process) (ps : List Process) → are_pids (p ∷ ps) ≡ true → are_pids ps ≡ true
    others p ps is = grind (arith, is)

-- LINES THAT ARE LEFT

pub left-some : (ss : List Strand) (k : ℕ) (d : Strand) → k < length ss → left_of (get_or ss k d) ≤ left_in ss
left-some [] k d lt = absurd (omega (arith, lt))
left-some (s ∷ ss) zero d lt = omega arith
left-some (s ∷ ss) (suc k) d lt = let more = left-some ss k d (omega (arith, lt)) in omega (arith, more)

pub left-set : (ss : List Strand) (k : ℕ) (t d : Strand) → k < length ss → left_of t + 1 ≡ left_of (get_or ss k d) → left_in (set ss k t) + 1 ≡ left_in ss
left-set [] k t d lt is = absurd (omega (arith, lt))
left-set (s ∷ ss) zero t d lt is = omega (arith, is)
left-set (s ∷ ss) (suc k) t d lt is = let more = left-set ss k t d (omega (arith, lt)) is in omega (arith, more)

-- THE PROCESS AT AN INDEX

-- is one of the script's
pub declared-at : (ps : List Process) (index pid : ℕ) → IsProcessAt ps index pid → has_pid pid ps ≡ true
declared-at [] index pid (lt, own) = absurd (omega (arith, lt))
declared-at (p ∷ ps) index pid (lt, own) = has-at (p ∷ ps) pid index p lt (own p)
