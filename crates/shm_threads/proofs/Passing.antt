-- The calls that a run's gate passed, from one call to the next.
use Rattle.shm_threads.proofs.Names.{◌≡◌, ◌<◌, ◌≤◌, ◌+◌, ◌++◌, ℕ, Bool, true, List, [], ◌∷◌, length, map, All, subst, sym, ap, ◌∙◌, arith, inl, inr, get_or, set, cases_eq, length_push, All-map, ScriptView, rounds_of, AreAllPassed, ArePassed, Passes, IsFresh, transcript_of, Strand, Entry, Transcript}
use Rattle.shm_threads.proofs.Placing.{each-set}

module _ (answers : ℕ → ℕ → Bool → Bool) where
  passes-more : (pid count n : ℕ) → n ≡ count + 1 → Passes answers pid count → answers pid n true ≡ true → Passes answers pid (count + 1)
  passes-more pid count n is all one =
      λ k within.
      elim (cases_eq k n) [
        | inl same ↦ subst (λ (j : ℕ). answers pid j true ≡ true) (sym same) one
        | inr apart ↦ all k (within.0, omega (arith, within.1, apart, is))
      ]

  -- before the first call
  pub passed-fresh : (callers : List ℕ) (ss : List Strand) → All (IsFresh callers) ss → ArePassed answers ss 0
  passed-fresh callers ss fresh =
      record {
        calls = λ k d lt n within. let none : length (get_or ss k d).entries.items ≡ 0 = ap length (fresh k d lt).entries in absurd (omega (arith, none, within.0, within.1));
        rounds = λ n within. absurd (omega (arith, within.0, within.1));
      }

  -- after a round
  pub passed-flush : (ss : List Strand) (made n : ℕ) → made + 1 ≡ n → answers 0 n true ≡ true → ArePassed answers ss made → ArePassed answers ss (made + 1)
  passed-flush ss made n is one passed = record { calls = passed.calls; rounds = passes-more 0 made n (sym is) passed.rounds one }

  -- after a call of a strand
  pub passed-step : (ss : List Strand) (made k n pid : ℕ) (s t : Strand) (e : Entry) → k < length ss → ((d : Strand) → get_or ss k d ≡ s) → s.pid ≡ pid → length s.entries.items + 1 ≡ n → answers pid n true ≡ true
      → t.pid ≡ s.pid → t.entries.items ≡ s.entries.items ++ e ∷ [] → ArePassed answers ss made → ArePassed answers (set ss k t) made
  passed-step ss made k n pid s t e lt here own is one same grows passed =
      let Passed : Strand → Type 0 = λ x. Passes answers x.pid (length x.entries.items) in
      let old : Passed s = subst Passed (here s) (passed.calls k s lt) in
      let mine : answers s.pid n true ≡ true = ap (λ (p : ℕ). answers p n true) own ∙ one in
      let new : Passes answers s.pid (length s.entries.items + 1) = passes-more s.pid (length s.entries.items) n (sym is) old mine in
      let long : length t.entries.items ≡ length s.entries.items + 1 = ap length grows ∙ length_push s.entries.items e in
      let here : Passed t = rw (same, long) new in
      record { calls = each-set Passed Passed ss k t lt passed.calls (λ j d less apart theirs. theirs) here; rounds = passed.rounds }

  -- at the end
  pub passed-all : (script : ScriptView) (ss : List Strand) (made : ℕ) (all : List Transcript) → length (rounds_of script.lines) ≤ made → all ≡ map transcript_of ss → ArePassed answers ss made → AreAllPassed answers script all
  passed-all script ss made all whole is passed =
      let Passed : Transcript → Type 0 = λ t. Passes answers t.pid (length t.entries.items) in
      record {
        calls = subst (All Passed) (sym is) (All-map Passed transcript_of ss passed.calls);
        rounds = λ n within. passed.rounds n (within.0, omega (arith, within.1, whole));
      }
