-- One more move of a run.
use Rattle.shm_threads.proofs.Names.{◌≡◌, ◌≢◌, ◌<◌, ◌+◌, ◌++◌, ℕ, List, [], ◌∷◌, length, take, subst, sym, ap, ◌∙◌, refl, append-nil, eq-eqb, ne_eqb, inl, inr, get_or, set, cases_eq, take_more, FlushReport, WorldState, IsRound, CommandView, Line, rounds_of, AreMoves, Called, Flushed, Leads, Makes, Moment, Move, entries_by, entries_in, rounds_by, rounds_in, IsMade, Strand, Entry}
use Rattle.shm_threads.specs.declared.strand.Made.{Made}
use Rattle.shm_threads.proofs.Placing.{each-set}

leads-push : (start world : WorldState) (ms : List Moment) (m : Moment) → Leads start ms world → Makes world m.move m.world → Leads start (ms ++ m ∷ []) m.world
leads-push start world [] m is makes = (subst (λ (w : WorldState). Makes w m.move m.world) is makes, refl)
leads-push start world (o ∷ ms) m (first, rest) makes = (first, leads-push o.world world ms m rest makes)

-- what a move adds comes at the end
entries-by : (pid : ℕ) (move : Move) (rest more all : List Entry) → all ≡ rest ++ more → entries_by pid move all ≡ entries_by pid move rest ++ more
entries-by pid (Called by entry) rest more all is =
    elim (cases_eq by pid) [
      | inl own ↦ rw (eq-eqb by pid own) (ap (λ (es : List Entry). entry ∷ es) is)
      | inr other ↦ rw (ne_eqb by pid other) is
    ]
entries-by pid (Flushed pages) rest more all is = is

entries-push : (pid : ℕ) (ms : List Moment) (m : Moment) → entries_in pid (ms ++ m ∷ []) ≡ entries_in pid ms ++ entries_by pid m.move []
entries-push pid [] m = refl
entries-push pid (o ∷ ms) m = entries-by pid o.move (entries_in pid ms) (entries_by pid m.move []) (entries_in pid (ms ++ m ∷ [])) (entries-push pid ms m)

rounds-by : (move : Move) (rest more all : List ℕ) → all ≡ rest ++ more → rounds_by move all ≡ rounds_by move rest ++ more
rounds-by (Called by entry) rest more all is = is
rounds-by (Flushed pages) rest more all is = ap (λ (ps : List ℕ). pages ∷ ps) is

rounds-push : (ms : List Moment) (m : Moment) → rounds_in (ms ++ m ∷ []) ≡ rounds_in ms ++ rounds_by m.move []
rounds-push [] m = refl
rounds-push (o ∷ ms) m = rounds-by o.move (rounds_in ms) (rounds_by m.move []) (rounds_in (ms ++ m ∷ [])) (rounds-push ms m)

module _ (lines : List Line) (start before after : WorldState) (ss : List Strand) (made : ℕ) (ms : List Moment) (are : AreMoves lines start before ss made ms) where
  -- a round was made, and no call
  pub moves-flush : (pages : ℕ) (report : FlushReport) → made < length (rounds_of lines) → get_or (rounds_of lines) made pages ≡ pages → IsRound before pages report after
      → AreMoves lines start after ss (made + 1) (ms ++ record { move = Flushed pages; world = after } ∷ [])
  moves-flush pages report lt is round =
      let m : Moment = record { move = Flushed pages; world = after } in
      record {
        leads = leads-push start before ms m are.leads (report, round);
        entries = λ k d less. are.entries k d less ∙ sym (entries-push (get_or ss k d).pid ms m ∙ append-nil (entries_in (get_or ss k d).pid ms));
        rounds = rounds-push ms m ∙ ap (λ (ps : List ℕ). ps ++ pages ∷ []) are.rounds ∙ ap (λ (p : ℕ). take made (rounds_of lines) ++ p ∷ []) (sym is) ∙ sym (take_more (rounds_of lines) made pages lt);
      }

  -- a strand has one more entry, and no other has
  pub moves-step : (k : ℕ) (s t : Strand) (command : CommandView) (effect : Made) → k < length ss → ((d : Strand) → get_or ss k d ≡ s) → ((j : ℕ) (d : Strand) → j < length ss → j ≢ k → (get_or ss j d).pid ≢ s.pid)
      → (is : IsMade before s command effect after t) → AreMoves lines start after (set ss k t) made (ms ++ record { move = Called s.pid is.entry; world = after } ∷ [])
  moves-step k s t command effect lt here others is =
      let m : Moment = record { move = Called s.pid is.entry; world = after } in
      let Has : List Moment → Strand → Type 0 = λ all x. x.entries.items ≡ entries_in x.pid all in
      let old : Has ms s = subst (Has ms) (here s) (are.entries k s lt) in
      let one : entries_by s.pid m.move [] ≡ is.entry ∷ [] = rw (eq-eqb s.pid s.pid refl) refl in
      let mine : Has (ms ++ m ∷ []) t =
      is.entries ∙ ap (λ (es : List Entry). es ++ is.entry ∷ []) old ∙ ap (λ (es : List Entry). entries_in s.pid ms ++ es) (sym one) ∙ sym (entries-push s.pid ms m) ∙ ap (λ (p : ℕ). entries_in p (ms ++ m ∷ [])) (sym is.pid) in
      let theirs : (j : ℕ) (d : Strand) → j < length ss → j ≢ k → Has ms (get_or ss j d) → Has (ms ++ m ∷ []) (get_or ss j d) =
      λ j d less apart has.
      (let pid = (get_or ss j d).pid in
      let none : entries_by pid m.move [] ≡ [] = rw (ne_eqb s.pid pid (λ same. others j d less apart (sym same))) refl in
      has ∙ sym (entries-push pid ms m ∙ ap (λ (es : List Entry). entries_in pid ms ++ es) none ∙ append-nil (entries_in pid ms))) in
      record {
        leads = leads-push start before ms m are.leads is.answered;
        entries = each-set (Has ms) (Has (ms ++ m ∷ [])) ss k t lt are.entries theirs mine;
        rounds = rounds-push ms m ∙ append-nil (rounds_in ms) ∙ are.rounds;
      }
