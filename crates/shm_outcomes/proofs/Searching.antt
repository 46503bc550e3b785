-- Findings, states and levels: the steps of the search.
use Rattle.shm_outcomes.proofs.Names.{◌≡◌, ◌<◌, ◌≤◌, ℕ, suc, zero, ◌+◌, ◌⊎◌, List, [], ◌∷◌, ◌++◌, Option, Some, All, Contains, length, slice_index_or, AllPairs, refl, sym, ap, subst, ◌∙◌, arith, inl, inr, length-append, map-append, get_or_append_left, get_or_push, All-head, All-map, All-nil, All-push, All-tail, Contains-append_left, Contains-get_or, Contains-push, all_pairs_push, cases_lt, none-some, Machine, Reply, ScriptView, AreAllTransitions, Groups, AreAdded, AreExpanded, Frontier, IsAdded, IsEndInserted, IsExpanded, Path, State, path_after, paths_after, state_in, states_in, walked, Run, fresh, goes, Leads, IsOver, schedule_of, outcome_of, AreDistinct, IsFinding, IsInserted, outcome_in, outcomes_in, Finding, Transition, goes-schedule}
use Rattle.shm_outcomes.proofs.Grouping.{AreGroups, IsOne, goes-by-transition, moved, transitions-by-goes, not-over, over-all}

pub inserted-keeps :
    (olds news : List Finding) (f : Finding) → IsInserted olds f news
    → (o : List (List Reply)) → Contains (outcomes_in olds) o → Contains (outcomes_in news) o
inserted-keeps olds news f inserted o here =
    elim inserted [
      | inl old ↦ rw old.1 here
      | inr new ↦
          rw new.1 (subst (λ (l : List (List (List Reply))). Contains l o) (sym (map-append outcome_in olds (f ∷ []))) (Contains-append_left (outcomes_in olds) (f.outcome ∷ []) o here))
    ]

pub inserted-there : (olds news : List Finding) (f : Finding) → IsInserted olds f news → Contains (outcomes_in news) f.outcome
inserted-there olds news f inserted =
    elim inserted [
      | inl old ↦ rw old.1 old.0
      | inr new ↦
          rw new.1 (subst (λ (l : List (List (List Reply))). Contains l f.outcome) (sym (map-append outcome_in olds (f ∷ []))) (Contains-push (outcomes_in olds) f.outcome))
    ]

inserted-sound :
    (script : ScriptView) (first : Run) (olds news : List Finding) (f : Finding)
    → IsInserted olds f news → IsFinding script first f → All (IsFinding script first) olds → All (IsFinding script first) news
inserted-sound script first olds news f inserted is all =
    elim inserted [
      | inl old ↦ rw old.1 all
      | inr new ↦ rw new.1 (All-push (IsFinding script first) olds f all is)
    ]

distinct-append : (outcomes : List (List (List Reply))) (new : List (List Reply)) → (Contains outcomes new → ⊥) → AreDistinct outcomes → AreDistinct (outcomes ++ new ∷ [])
distinct-append outcomes new not before i j o ij j-lt at-i at-j =
    let all : length (outcomes ++ new ∷ []) ≡ length outcomes + 1 = length-append outcomes (new ∷ []) in
    let within : i < length outcomes = omega (arith, all, ij, j-lt) in
    let first : slice_index_or outcomes i o ≡ o = sym (get_or_append_left outcomes (new ∷ []) o i within) ∙ at-i in
    elim (cases_lt j (length outcomes)) [
      | inl lt ↦ before i j o ij lt first (sym (get_or_append_left outcomes (new ∷ []) o j lt) ∙ at-j)
      | inr ge ↦
          let same : new ≡ o = sym (get_or_push outcomes new o j (omega (arith, all, j-lt, ge))) ∙ at-j in
          not (i, within, subst (λ (x : List (List Reply)). slice_index_or outcomes i x ≡ x) (sym same) first)
    ]

pub inserted-distinct :
    (olds news : List Finding) (f : Finding) → IsInserted olds f news → AreDistinct (outcomes_in olds) → AreDistinct (outcomes_in news)
inserted-distinct olds news f inserted before =
    elim inserted [
      | inl old ↦ rw old.1 before
      | inr new ↦ rw new.1 (subst AreDistinct (sym (map-append outcome_in olds (f ∷ []))) (distinct-append (outcomes_in olds) f.outcome new.0 before))
    ]

-- ENDS

-- a schedule leads to the run that one walks to
pub walked-leads : (script : ScriptView) (schedule : List ℕ) (a b : Run) → Leads script schedule a b → walked script schedule a ≡ Some b
walked-leads script [] a b h = ap (λ (r : Run). Some r) h
walked-leads script (pid ∷ schedule) a b h = rw (h.1) (walked-leads script schedule h.0 b h.2)

-- STATES

-- a schedule leads to a run of the state
pub record IsPath (script : ScriptView) (machine : Machine) (g : Groups) (w : Path) : Type 0 where
  pub run : Run
  pub one : IsOne script machine g w.state run
  pub schedule : schedule_of run.events ≡ w.schedule

abbrev pub AreApart : List State → Type 0
AreApart states = AllPairs (λ (a b : State). a ≡ b → ⊥) states

pub record AreStates (script : ScriptView) (machine : Machine) (g : Groups) (paths : List Path) : Type 0 where
  pub each : All (IsPath script machine g) paths
  pub apart : AreApart (states_in paths)

pub no-paths : (script : ScriptView) (machine : Machine) (g : Groups) → AreStates script machine g []
no-paths script machine g = record { each = All-nil (IsPath script machine g); apart = λ i j d ij none. absurd (omega (arith, none)) }

-- what adding states does
pub record Adds (script : ScriptView) (machine : Machine) (most : ℕ) (g : Groups) (paths : List Path) (olds news : Frontier) : Type 0 where
  pub states : AreStates script machine g news.paths
  pub keeps : (x : State) → Contains (states_in olds.paths) x → Contains (states_in news.paths) x
  pub has : (w : Path) → Contains paths w → Contains (states_in news.paths) w.state
  pub counted : news.count + length olds.paths ≡ olds.count + length news.paths
  pub few : olds.count ≤ most → news.count ≤ most

pub states-push : (script : ScriptView) (machine : Machine) (g : Groups) (paths : List Path) (w : Path) → AreStates script machine g paths → IsPath script machine g w → (Contains (states_in paths) w.state → ⊥) → AreStates script machine g (paths ++ w ∷ [])
states-push script machine g paths w all is unmet =
    record {
      each = All-push (IsPath script machine g) paths w all.each is;
      apart = subst AreApart (sym (map-append state_in paths (w ∷ [])))
          (all_pairs_push (λ (a b : State). a ≡ b → ⊥) (states_in paths) w.state all.apart (λ k d lt same. unmet (subst (Contains (states_in paths)) same (Contains-get_or (states_in paths) k d lt))));
    }

one-there : (w x : Path) → Contains (w ∷ []) x → w ≡ x
one-there w x (zero, lt, at) = at
one-there w x (suc i, lt, at) = absurd (omega (arith, lt))

adds-one : (script : ScriptView) (machine : Machine) (most : ℕ) (g : Groups) (w : Path) (olds news : Frontier) → AreStates script machine g olds.paths → IsPath script machine g w → IsAdded most w olds news → Adds script machine most g (w ∷ []) olds news
adds-one script machine most g w olds news all is (inl (met, same)) =
    rw same
    (record {
      states = all;
      keeps = λ x h. h;
      has = λ x there. subst (λ (v : Path). Contains (states_in olds.paths) v.state) (one-there w x there) met;
      counted = refl;
      few = λ h. h;
    })
adds-one script machine most g w olds news all is (inr (unmet, less, same)) =
    let longer = map-append state_in olds.paths (w ∷ []) in
    rw same
    (record {
      states = states-push script machine g olds.paths w all is unmet;
      keeps = λ x h. subst (λ (l : List State). Contains l x) (sym longer) (Contains-append_left (states_in olds.paths) (w.state ∷ []) x h);
      has = λ x there. subst (λ (v : Path). Contains (states_in (olds.paths ++ w ∷ [])) v.state) (one-there w x there) (subst (λ (l : List State). Contains l w.state) (sym longer) (Contains-push (states_in olds.paths) w.state));
      counted = (let long = length-append olds.paths (w ∷ []) in omega (arith, long));
      few = λ h. omega (arith, less);
    })

contains-cons : (w : Path) (ws : List Path) (x : Path) → Contains (w ∷ ws) x → (w ≡ x) ⊎ Contains ws x
contains-cons w ws x (zero, lt, at) = inl at
contains-cons w ws x (suc i, lt, at) = inr (i, omega (arith, lt), at)

pub adds-all : (script : ScriptView) (machine : Machine) (most : ℕ) (g : Groups) (paths : List Path) (olds news : Frontier) → AreStates script machine g olds.paths → All (IsPath script machine g) paths → AreAdded most paths olds news → Adds script machine most g paths olds news
adds-all script machine most g [] olds news all each same =
    subst (Adds script machine most g [] olds) same
    (record { states = all; keeps = λ x h. h; has = λ x (i, lt, at). absurd (omega (arith, lt)); counted = refl; few = λ h. h })
adds-all script machine most g (w ∷ ws) olds news all each (mid, added, more) =
    let one = adds-one script machine most g w olds mid all (All-head (IsPath script machine g) w ws each) added in
    let rest = adds-all script machine most g ws mid news one.states (All-tail (IsPath script machine g) w ws each) more in
    record {
      states = rest.states;
      keeps = λ x h. rest.keeps x (one.keeps x h);
      has = λ x there. elim (contains-cons w ws x there) [
        | inl same ↦ rest.keeps x.state (one.has x (0, omega arith, same))
        | inr later ↦ rest.has x later
      ];
      counted = (let a = one.counted in let b = rest.counted in omega (arith, a, b));
      few = λ h. rest.few (one.few h);
    }

-- THE SUCCESSORS OF A STATE

some-path : (script : ScriptView) (w : Path) (ts : List Transition) (t : Transition) → Contains ts t → Contains (paths_after script.processes w ts) (path_after script.processes w t)
some-path script w [] t (i, lt, at) = absurd (omega (arith, lt))
some-path script w (o ∷ ts) t (zero, lt, at) = (0, omega arith, ap (path_after script.processes w) at)
some-path script w (o ∷ ts) t (suc i, lt, at) = (let rest = some-path script w ts t (i, omega (arith, lt), at) in (suc rest.0, (let e = rest.1 in omega (arith, e)), rest.2))

-- one of these states has this run
pub record HasOne (script : ScriptView) (machine : Machine) (g : Groups) (paths : List Path) (run : Run) : Type 0 where
  pub x : State
  pub there : Contains (states_in paths) x
  pub one : IsOne script machine g x run

-- what expanding states does
pub record Expands (script : ScriptView) (machine : Machine) (olds nexts : Groups) (paths : List Path) (next : Frontier) (before news : List Finding) : Type 0 where
  pub sound : All (IsFinding script (fresh machine)) news
  pub distinct : AreDistinct (outcomes_in news)
  pub earlier : (o : List (List Reply)) → Contains (outcomes_in before) o → Contains (outcomes_in news) o
  pub onwards : (w : Path) → Contains paths w → (run : Run) → IsOne script machine olds w.state run → (pid : ℕ) (m : Run) → goes script pid run ≡ Some m → HasOne script machine nexts next.paths m
  pub over : (w : Path) → Contains paths w → (run : Run) → IsOne script machine olds w.state run → IsOver script run → Contains (outcomes_in news) (outcome_of script run.events)

pub record AreKnown (script : ScriptView) (machine : Machine) (found : List Finding) : Type 0 where
  pub sound : All (IsFinding script (fresh machine)) found
  pub distinct : AreDistinct (outcomes_in found)

module _ (script : ScriptView) (machine : Machine) (n : ℕ) (olds nexts : Groups) (all : AreGroups script machine n olds) (transitions : List (List Transition)) (are : AreAllTransitions script nexts olds.all transitions) (most : ℕ) where
  abbrev first : Run
  first = fresh machine

  abbrev mine : Path → List Transition
  mine w = slice_index_or transitions w.state.group []

  -- the successors of a state
  pub paths-reach : (w : Path) → IsPath script machine olds w → All (IsPath script machine nexts) (paths_after script.processes w (mine w))
  paths-reach w is =
      All-map (IsPath script machine nexts) (path_after script.processes w) (mine w)
      (λ k d lt.
      let m = slice_index_or (mine w) k d in
      let g = goes-by-transition script machine n olds nexts w.state is.run all is.one transitions are m (Contains-get_or (mine w) k d lt) in
      record {
        run = g.0;
        one = g.2;
        schedule = goes-schedule script m.event.pid is.run g.0 g.1 ∙ ap (λ (s : List ℕ). s ++ m.event.pid ∷ []) is.schedule;
      })

  -- one that is over
  expands-end : (w : Path) (next : Frontier) (before news : List Finding) → IsPath script machine olds w → AreKnown script machine before → mine w ≡ []
      → IsEndInserted (walked script w.schedule first) w.state.replies before news → Expands script machine olds nexts (w ∷ []) next before news
  expands-end w next before news is known over inserted =
      let run = is.run in
      let leads : Leads script w.schedule first run = subst (λ (s : List ℕ). Leads script s first run) is.schedule is.one.reached in
      let finding : Finding = record { events = run.events; outcome = w.state.replies } in
      let by : IsInserted before finding news = subst (λ (o : Option Run). IsEndInserted o w.state.replies before news) (walked-leads script w.schedule first run leads) inserted in
      let ends = over-all script machine n olds nexts w.state run all is.one transitions are over in
      record {
        sound = inserted-sound script first before news finding by (run, (is.one.reached, ends), refl, is.one.replies) known.sound;
        distinct = inserted-distinct before news finding by known.distinct;
        earlier = inserted-keeps before news finding by;
        onwards = λ x there r one pid m follows.
            none-left x there r one pid m follows;
        over = λ x there r one o.
            subst (Contains (outcomes_in news)) (ap (λ (v : Path). v.state.replies) (one-there w x there) ∙ one.replies) (inserted-there before news finding by);
      }
    where
      none-left : (x : Path) → Contains (w ∷ []) x → (r : Run) → IsOne script machine olds x.state r → (pid : ℕ) (m : Run) → goes script pid r ≡ Some m → HasOne script machine nexts next.paths m
      none-left x there r one pid m follows =
          let own : IsOne script machine olds w.state r = subst (λ (v : Path). IsOne script machine olds v.state r) (sym (one-there w x there)) one in
          absurd (none-some m (sym (over-all script machine n olds nexts w.state r all own transitions are over pid) ∙ follows))

  -- one that has a continuation
  expands-on : (w : Path) (next mid : Frontier) (before : List Finding) → IsPath script machine olds w → AreKnown script machine before → (mine w ≡ [] → ⊥)
      → Adds script machine most nexts (paths_after script.processes w (mine w)) next mid → Expands script machine olds nexts (w ∷ []) mid before before
  expands-on w next mid before is known some adds =
      record {
        sound = known.sound;
        distinct = known.distinct;
        earlier = λ o h. h;
        onwards = λ x there r one pid m follows.
            let own : IsOne script machine olds w.state r = subst (λ (v : Path). IsOne script machine olds v.state r) (sym (one-there w x there)) one in
            let transition = transitions-by-goes script machine n olds nexts w.state r all own transitions are pid m follows in
            record {
              x = moved script w.state transition.0;
              there = adds.has (path_after script.processes w transition.0) (some-path script w (mine w) transition.0 transition.1);
              one = transition.2;
            };
        over = λ x there r one o.
            let own : IsOne script machine olds w.state r = subst (λ (v : Path). IsOne script machine olds v.state r) (sym (one-there w x there)) one in
            absurd (not-over script machine n olds nexts w.state r all own transitions are some o);
      }

  -- a state is expanded
  pub record Steps (paths : List Path) (next news : Frontier) (before found : List Finding) : Type 0 where
    pub states : AreStates script machine nexts news.paths
    pub keeps : (x : State) → Contains (states_in next.paths) x → Contains (states_in news.paths) x
    pub counted : news.count + length next.paths ≡ next.count + length news.paths
    pub few : next.count ≤ most → news.count ≤ most
    pub expands : Expands script machine olds nexts paths news before found

  known-of : (paths : List Path) (next news : Frontier) (before found : List Finding) → Steps paths next news before found → AreKnown script machine found
  known-of paths next news before found steps = record { sound = steps.expands.sound; distinct = steps.expands.distinct }

  step-one : (w : Path) (next news : Frontier) (before found : List Finding) → AreStates script machine nexts next.paths → AreKnown script machine before → IsPath script machine olds w
      → IsExpanded script first most (mine w) w next news before found → Steps (w ∷ []) next news before found
  step-one w next news before found states known is (inl (over, same, inserted)) =
      record {
        states = subst (λ (m : Frontier). AreStates script machine nexts m.paths) (sym same) states;
        keeps = λ x h. subst (λ (m : Frontier). Contains (states_in m.paths) x) (sym same) h;
        counted = rw same refl;
        few = rw same (λ h. h);
        expands = expands-end w news before found is known over inserted;
      }
  step-one w next news before found states known is (inr (some, same, added)) =
      let adds = adds-all script machine most nexts (paths_after script.processes w (mine w)) next news states (paths-reach w is) added in
      record {
        states = adds.states;
        keeps = adds.keeps;
        counted = adds.counted;
        few = adds.few;
        expands = subst (Expands script machine olds nexts (w ∷ []) news before) (sym same) (expands-on w next news before is known some adds);
      }

  pub step-all : (paths : List Path) (next news : Frontier) (before found : List Finding) → AreStates script machine nexts next.paths → AreKnown script machine before → All (IsPath script machine olds) paths
      → AreExpanded script first most transitions paths next news before found → Steps paths next news before found
  step-all [] next news before found states known each (same, found-is) =
      subst (λ (m : Frontier). Steps [] next m before found) same
      (subst (Steps [] next next before) found-is
      (record {
        states = states;
        keeps = λ x h. h;
        counted = refl;
        few = λ h. h;
        expands = record {
          sound = known.sound;
          distinct = known.distinct;
          earlier = λ o h. h;
          onwards = λ w (i, lt, at). absurd (omega (arith, lt));
          over = λ w (i, lt, at). absurd (omega (arith, lt));
        };
      }))
  step-all (w ∷ ws) next news before found states known each (mid, between, expanded, more) =
      let one = step-one w next mid before between states known (All-head (IsPath script machine olds) w ws each) expanded in
      let rest = step-all ws mid news between found one.states (known-of (w ∷ []) next mid before between one) (All-tail (IsPath script machine olds) w ws each) more in
      record {
        states = rest.states;
        keeps = λ x h. rest.keeps x (one.keeps x h);
        counted = (let a = one.counted in let b = rest.counted in omega (arith, a, b));
        few = λ h. rest.few (one.few h);
        expands = record {
          sound = rest.expands.sound;
          distinct = rest.expands.distinct;
          earlier = λ o h. rest.expands.earlier o (one.expands.earlier o h);
          onwards = λ x there run is pid m follows. elim (contains-cons w ws x there) [
            | inl same ↦ (let y = one.expands.onwards x (0, omega arith, same) run is pid m follows in record { x = y.x; there = rest.keeps y.x y.there; one = y.one })
            | inr later ↦ rest.expands.onwards x later run is pid m follows
          ];
          over = λ x there run is o. elim (contains-cons w ws x there) [
            | inl same ↦ rest.expands.earlier (outcome_of script run.events) (one.expands.over x (0, omega arith, same) run is o)
            | inr later ↦ rest.expands.over x later run is o
          ];
        };
      }
