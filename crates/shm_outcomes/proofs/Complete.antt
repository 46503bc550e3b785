-- The levels of a search, and what it has when none is left.
use Rattle.shm_outcomes.proofs.Names.{◌≡◌, ◌<◌, ◌≤◌, ℕ, suc, zero, ◌+◌, ◌-◌, List, [], ◌∷◌, ◌++◌, map, All, Contains, length, slice_index_or, Some, AllPairs, refl, sym, ap, subst, ◌∙◌, arith, inl, inr, length-append, cases_eq, cases_lt, append-nil, append_assoc, get_or-map, get_or_append_left, get_or-append_right, get_or_default, length-map, All-append, All-cons, All-contains, All-head, All-nil, All-tail, Contains-append_right, Machine, Event, ScriptView, root, IsAt, Groups, relevant_key, group_key_of, AreMoreKeys, AreOther, IsKeyOf, Key, key_of, IsLevelFull, IsNextLevel, Level, first_level, SearchError, State, Path, state, state_in, states_in, empty_frontier, path, outcome_of, Run, fresh, goes, IsOver, Leads, schedule_of, IsReached, AreMoreRuns, AreOutcomes, IfBound, IsCause, IsFinding, outcomes_in, Finding, follower-reached, goes-length, goes-schedule}
use Rattle.shm_outcomes.proofs.Adding.{if-bound}
use Rattle.shm_outcomes.proofs.Grouping.{AreGroups, IsGroup, IsOne, at-once, group-of, next-groups, one-long}
use Rattle.shm_outcomes.proofs.Searching.{AreKnown, AreStates, HasOne, IsPath, Steps, adds-all, states-push, no-paths, step-all, paths-reach}

-- SCHEDULES

-- on the way to a run there is one with each smaller number of calls
on-the-way : (script : ScriptView) (first : Run) (n : ℕ) (schedule : List ℕ) (a c : Run) → Leads script schedule a c → IsReached script first a → length a.events ≤ n → n ≤ length c.events
    → (b : Run) × IsReached script first b × (length b.events ≡ n)
on-the-way script first n [] a c same reached low high = (a, reached, (let e = ap (λ (r : Run). length r.events) same in omega (arith, e, low, high)))
on-the-way script first n (pid ∷ schedule) a c (mid, follows, rest) reached low high =
    elim (cases_eq (length a.events) n) [
      | inl is ↦ (a, reached, is)
      | inr other ↦
          let more = goes-length script pid a mid follows in
          on-the-way script first n schedule mid c rest (follower-reached script first a reached pid mid follows) (omega (arith, more, low, other)) high
    ]

leads-long : (script : ScriptView) (schedule : List ℕ) (a c : Run) → Leads script schedule a c → length c.events ≡ length a.events + length schedule
leads-long script [] a c same = (let e = ap (λ (r : Run). length r.events) same in omega (arith, e))
leads-long script (pid ∷ schedule) a c (mid, follows, rest) =
    let more = goes-length script pid a mid follows in
    let long = leads-long script schedule mid c rest in
    omega (arith, more, long)

none-more : (script : ScriptView) (schedule : List ℕ) (a c : Run) → Leads script schedule a c → length c.events ≡ length a.events → a ≡ c
none-more script [] a c same long = same
none-more script (pid ∷ schedule) a c leads long = absurd (let more = leads-long script (pid ∷ schedule) a c leads in omega (arith, more, long))

leads-schedule : (script : ScriptView) (schedule : List ℕ) (a c : Run) → Leads script schedule a c → schedule_of c.events ≡ schedule_of a.events ++ schedule
leads-schedule script [] a c same = ap (λ (r : Run). schedule_of r.events) (sym same) ∙ sym (append-nil (schedule_of a.events))
leads-schedule script (pid ∷ schedule) a c (mid, follows, rest) =
    leads-schedule script schedule mid c rest
    ∙ ap (λ (l : List ℕ). l ++ schedule) (goes-schedule script pid a mid follows)
    ∙ append_assoc (schedule_of a.events) (pid ∷ []) schedule

All-left : (P : Path → Type 0) (xs ys : List Path) → All P (xs ++ ys) → All P xs
All-left P xs ys all k d lt =
    let long = length-append xs ys in
    subst P (get_or_append_left xs ys d k lt) (all k d (omega (arith, long, lt)))

-- a run with a call follows one with a call less
last-call : (script : ScriptView) (first : Run) (n : ℕ) (schedule : List ℕ) (a c : Run) → Leads script schedule a c → IsReached script first a → length a.events ≤ n → length c.events ≡ n + 1
    → (b : Run) × (pid : ℕ) × IsReached script first b × (length b.events ≡ n) × (goes script pid b ≡ Some c)
last-call script first n [] a c same reached low long = absurd (let e = ap (λ (r : Run). length r.events) same in omega (arith, e, low, long))
last-call script first n (pid ∷ schedule) a c (mid, follows, rest) reached low long =
    let more = goes-length script pid a mid follows in
    elim (cases_eq (length a.events) n) [
      | inl is ↦
          let end : mid ≡ c = none-more script schedule mid c rest (omega (arith, long, more, is)) in
          (a, pid, reached, is, subst (λ (r : Run). goes script pid a ≡ Some r) end follows)
      | inr other ↦ last-call script first n schedule mid c rest (follower-reached script first a reached pid mid follows) (omega (arith, more, low, other)) long
    ]

-- KEYS

-- keys of runs with fewer calls, of which no two are the same
pub record AreKeys (script : ScriptView) (machine : Machine) (n : ℕ) (keys : List Key) : Type 0 where
  pub each : All (IsKeyOf script (fresh machine)) keys
  pub apart : AllPairs AreOther keys
  pub below : All (λ (k : Key). k.count < n) keys

module _ (script : ScriptView) (machine : Machine) (n : ℕ) (g : Groups) (all : AreGroups script machine n g) where
  abbrev first : Run
  first = fresh machine

  -- the key of a state's runs
  abbrev key_in : Path → Key
  key_in w = record { count = n; replies = w.state.replies; effects = (slice_index_or g.all w.state.group (root script first)).effects }

  key-is : (w : Path) (is : IsPath script machine g w) → key_in w ≡ key_of script first is.run
  key-is w is =
      let own = group-of script machine n g w.state is.run all is.one in
      let effects = ap (λ b. b.effects) (get_or_default g.all w.state.group (root script first) own.b own.within ∙ own.at) ∙ ap (λ (k : Key). k.effects) own.is.key ∙ sym own.same.effects in
      let count = sym (one-long script machine n g w.state is.run all is.one) in
      λ j. record { count = count j; replies = is.one.replies j; effects = effects j }

  -- states with one key are the same
  key-once : (v w : Path) → IsPath script machine g v → IsPath script machine g w → key_in v ≡ key_in w → v.state ≡ w.state
  key-once v w left right same =
      let keys : key_of script first left.run ≡ key_of script first right.run = sym (key-is v left) ∙ same ∙ key-is w right in
      let group : v.state.group ≡ w.state.group =
      at-once g.keys all.apart v.state.group w.state.group (group_key_of script first right.run)
      (subst (IsAt g.keys v.state.group) (ap (relevant_key script) keys) left.one.at) right.one.at in
      let replies = ap (λ (k : Key). k.replies) same in
      λ j. record { group = group j; replies = replies j }

  keys-apart : (paths : List Path) → AreStates script machine g paths → AllPairs AreOther (map key_in paths)
  keys-apart paths states i j d ij within same =
      let long : length (map key_in paths) ≡ length paths = length-map paths key_in in
      let j-lt : j < length paths = omega (arith, within, long) in
      let i-lt : i < length paths = omega (arith, ij, j-lt) in
      let v = path-at paths i i-lt in
      let w = path-at paths j j-lt in
      let at-v : slice_index_or (map key_in paths) i d ≡ key_in v.0 = get_or-map key_in paths i v.0 d i-lt ∙ ap key_in v.1 in
      let at-w : slice_index_or (map key_in paths) j d ≡ key_in w.0 = get_or-map key_in paths j w.0 d j-lt ∙ ap key_in w.1 in
      let one = key-once v.0 w.0 (All-contains (IsPath script machine g) paths v.0 states.each (i, i-lt, v.1)) (All-contains (IsPath script machine g) paths w.0 states.each (j, j-lt, w.1)) (sym at-v ∙ same ∙ at-w) in
      states.apart i j v.0.state ij (omega (arith, j-lt, length-map paths state_in))
      (get_or-map state_in paths i v.0 v.0.state i-lt ∙ ap state_in v.1 ∙ one ∙ sym (get_or-map state_in paths j w.0 v.0.state j-lt ∙ ap state_in w.1))
    where
      path-at : (paths : List Path) (i : ℕ) → i < length paths → (w : Path) × (slice_index_or paths i w ≡ w)
      path-at [] i lt = absurd (omega (arith, lt))
      path-at (w ∷ ws) zero lt = (w, refl)
      path-at (w ∷ ws) (suc i) lt = path-at ws i (omega (arith, lt))

  keys-each : (paths : List Path) → All (IsPath script machine g) paths → All (IsKeyOf script first) (map key_in paths)
  keys-each [] each = All-nil (IsKeyOf script first)
  keys-each (w ∷ ws) each =
      let is = All-head (IsPath script machine g) w ws each in
      All-cons (IsKeyOf script first) (key_in w) (map key_in ws) (is.run, is.one.reached, key-is w is) (keys-each ws (All-tail (IsPath script machine g) w ws each))

  keys-count : (paths : List Path) → All (λ (k : Key). k.count ≡ n) (map key_in paths)
  keys-count [] = All-nil (λ (k : Key). k.count ≡ n)
  keys-count (w ∷ ws) = All-cons (λ (k : Key). k.count ≡ n) (key_in w) (map key_in ws) refl (keys-count ws)

  -- the keys of a level are others than those of runs with fewer calls
  pub more-keys : (keys : List Key) (paths : List Path) → AreKeys script machine n keys → AreStates script machine g paths → AreKeys script machine (n + 1) (keys ++ map key_in paths)
  more-keys keys paths before states =
      let news = map key_in paths in
      record {
        each = All-append (IsKeyOf script first) keys news before.each (keys-each paths states.each);
        apart = pairs-append keys news before.apart (keys-apart paths states) before.below (keys-count paths);
        below = All-append (λ (k : Key). k.count < n + 1) keys news (λ k d lt. (let b = before.below k d lt in omega (arith, b))) (λ k d lt. (let e = keys-count paths k d lt in omega (arith, e)));
      }
    where
      pairs-append : (xs ys : List Key) → AllPairs AreOther xs → AllPairs AreOther ys → All (λ (k : Key). k.count < n) xs → All (λ (k : Key). k.count ≡ n) ys → AllPairs AreOther (xs ++ ys)
      pairs-append xs ys left right low high i j d ij within =
          let long = length-append xs ys in
          elim (cases_lt j (length xs)) [
            | inl below ↦ rw (get_or_append_left xs ys d i (omega (arith, ij, below)), get_or_append_left xs ys d j below) (left i j d ij below)
            | inr above ↦
                let at-j : slice_index_or (xs ++ ys) j d ≡ slice_index_or ys (j - length xs) d = get_or-append_right xs ys (length xs) j d refl above in
                let j-lt : j - length xs < length ys = omega (arith, long, within, above) in
                elim (cases_lt i (length xs)) [
                  | inl below ↦
                      λ same.
                      (let a = low i d below in
                      let b = high (j - length xs) d j-lt in
                      let e = ap (λ (k : Key). k.count) (sym (get_or_append_left xs ys d i below) ∙ same ∙ at-j) in
                      omega (arith, a, b, e))
                  | inr over ↦
                      rw (get_or-append_right xs ys (length xs) i d refl over, at-j) (right (i - length xs) (j - length xs) d (omega (arith, ij, over)) j-lt)
                ]
          ]

-- LEVELS

-- a level has all runs with n calls
pub record AreLevel (script : ScriptView) (machine : Machine) (n : ℕ) (level : Level) : Type 0 where
  pub groups : AreGroups script machine n level.groups
  pub states : AreStates script machine level.groups level.frontier.paths
  pub complete : (run : Run) → IsReached script (fresh machine) run → length run.events ≡ n → HasOne script machine level.groups level.frontier.paths run

-- the search so far: this is the level with n calls, and the outcomes of runs with fewer were found
pub record AreSearched (script : ScriptView) (machine : Machine) (most : ℕ) (level : Level) (found : List Finding) : Type 0 where
  pub n : ℕ
  pub is : AreLevel script machine n level
  pub known : AreKnown script machine found
  pub ended : (run : Run) → IsReached script (fresh machine) run → IsOver script run → length run.events < n → Contains (outcomes_in found) (outcome_of script run.events)
  pub keys : List Key
  pub are : AreKeys script machine n keys
  pub counted : level.frontier.count ≡ length keys + length level.frontier.paths
  pub few : level.frontier.count ≤ most

module _ (script : ScriptView) (machine : Machine) (most : ℕ) (level : Level) (before : List Finding) (all : AreSearched script machine most level before) where
  abbrev paths : List Path
  paths = level.frontier.paths

  expansion : (next : Level) (found : List Finding) (h : IsNextLevel script (fresh machine) most level next before found) → Steps script machine all.n level.groups next.groups all.is.groups h.transitions h.all most paths (empty_frontier level.frontier.count) next.frontier before found
  expansion next found h = step-all script machine all.n level.groups next.groups all.is.groups h.transitions h.all most paths (empty_frontier level.frontier.count) next.frontier before found (no-paths script machine next.groups) all.known all.is.states.each h.expanded

  pub next-counted : (next : Level) (found : List Finding) → IsNextLevel script (fresh machine) most level next before found → next.frontier.count ≡ level.frontier.count + length next.frontier.paths
  next-counted next found h = (let e = (expansion next found h).counted in omega (arith, e))

  -- the state of a run of this level
  state-of : (run : Run) → IsReached script (fresh machine) run → length run.events ≡ all.n → (w : Path) × Contains paths w × IsOne script machine level.groups w.state run
  state-of run reached long =
      let h = all.is.complete run reached long in
      let w = path-in paths h.x h.there in
      (w.0, w.1, subst (λ (x : State). IsOne script machine level.groups x run) (sym w.2) h.one)
    where
      path-in : (paths : List Path) (x : State) → Contains (states_in paths) x → (w : Path) × Contains paths w × (w.state ≡ x)
      path-in [] x (i, lt, at) = absurd (omega (arith, lt))
      path-in (w ∷ ws) x (zero, lt, at) = (w, (0, omega arith, refl), at)
      path-in (w ∷ ws) x (suc i, lt, at) =
          let rest = path-in ws x (i, omega (arith, lt), at) in
          let there = rest.1 in
          (rest.0, (suc there.0, (let l = there.1 in omega (arith, l)), there.2), rest.2)

  -- the next level is searched too
  pub next-searched : (next : Level) (found : List Finding) → IsNextLevel script (fresh machine) most level next before found → AreSearched script machine most next found
  next-searched next found h =
      let groups = next-groups script machine all.n level.groups next.groups all.is.groups h.put in
      let steps = expansion next found h in
      let keys = all.keys ++ map (key_in script machine all.n level.groups all.is.groups) paths in
      record {
        n = all.n + 1;
        is = record {
          groups = groups;
          states = steps.states;
          complete = λ run reached long.
              let last = last-call script (fresh machine) all.n (schedule_of run.events) (fresh machine) run reached refl (omega arith) long in
              let m = state-of last.0 last.2 last.3 in
              steps.expands.onwards m.0 m.1 last.0 m.2 last.1 run last.4;
        };
        known = record { sound = steps.expands.sound; distinct = steps.expands.distinct };
        ended = λ run reached over less.
            elim (cases_lt (length run.events) all.n) [
              | inl fewer ↦ steps.expands.earlier (outcome_of script run.events) (all.ended run reached over fewer)
              | inr more ↦
                  let m = state-of run reached (omega (arith, less, more)) in
                  steps.expands.over m.0 m.1 run m.2 over
            ];
        keys = keys;
        are = more-keys script machine all.n level.groups all.is.groups all.keys paths all.are all.is.states;
        counted = (
            let c = steps.counted in
            let b = all.counted in
            let long = length-append all.keys (map (key_in script machine all.n level.groups all.is.groups) paths) in
            let one = length-map paths (key_in script machine all.n level.groups all.is.groups) in
            omega (arith, c, b, long, one)
            );
        few = steps.few all.few;
      }

  -- each state is of a group
  pub within-level : (w : Path) → Contains paths w → w.state.group < length level.groups.all
  within-level w there =
      let is = All-contains (IsPath script machine level.groups) paths w all.is.states.each there in
      (group-of script machine all.n level.groups w.state is.run all.is.groups is.one).within

  -- there are more runs than the bound
  pub full-level : IsLevelFull script (fresh machine) level before most → AreMoreKeys script (fresh machine) most
  full-level h =
      let s = h.stopped in
      let groups = next-groups script machine all.n level.groups h.groups all.is.groups h.put in
      let each : All (IsPath script machine level.groups) (s.done ++ s.path ∷ s.rest) = subst (All (IsPath script machine level.groups)) s.all all.is.states.each in
      let own : IsPath script machine level.groups s.path = All-contains (IsPath script machine level.groups) (s.done ++ s.path ∷ s.rest) s.path each (Contains-append_right s.done (s.path ∷ s.rest) s.path (0, omega arith, refl)) in
      let steps = step-all script machine all.n level.groups h.groups all.is.groups h.transitions h.all most s.done (empty_frontier level.frontier.count) s.mid before s.between (no-paths script machine h.groups) all.known (All-left (IsPath script machine level.groups) s.done (s.path ∷ s.rest) each) s.expanded in
      let m = s.many in
      let on : All (IsPath script machine h.groups) (m.before ++ m.path ∷ m.after) = subst (All (IsPath script machine h.groups)) m.all (paths-reach script machine all.n level.groups h.groups all.is.groups h.transitions h.all most s.path own) in
      let adds = adds-all script machine most h.groups m.before s.mid m.mid steps.states (All-left (IsPath script machine h.groups) m.before (m.path ∷ m.after) on) m.added in
      let last : IsPath script machine h.groups m.path = All-contains (IsPath script machine h.groups) (m.before ++ m.path ∷ m.after) m.path on (Contains-append_right m.before (m.path ∷ m.after) m.path (0, omega arith, refl)) in
      let nexts = m.mid.paths ++ m.path ∷ [] in
      let states = states-push script machine h.groups m.mid.paths m.path adds.states last m.many.0 in
      let olds = all.keys ++ map (key_in script machine all.n level.groups all.is.groups) paths in
      let here = more-keys script machine all.n level.groups all.is.groups all.keys paths all.are all.is.states in
      let there = more-keys script machine (all.n + 1) h.groups groups olds nexts here states in (
        olds ++ map (key_in script machine (all.n + 1) h.groups groups) nexts,
        (
            let a = all.counted in
            let b = steps.counted in
            let c = adds.counted in
            let d = m.many.1 in
            let e = length-append all.keys (map (key_in script machine all.n level.groups all.is.groups) paths) in
            let f = length-map paths (key_in script machine all.n level.groups all.is.groups) in
            let i = length-append olds (map (key_in script machine (all.n + 1) h.groups groups) nexts) in
            let j = length-map nexts (key_in script machine (all.n + 1) h.groups groups) in
            let k = length-append m.mid.paths (m.path ∷ []) in
            omega (arith, a, b, c, d, e, f, i, j, k)
            ),
        there.each,
        there.apart,
      )

  -- when no run is left, each schedule's outcome was found
  pub searched-all : paths ≡ [] → AreOutcomes script (fresh machine) before
  searched-all none =
      record {
        sound = all.known.sound;
        complete = λ schedule end is.
            let s : schedule_of end.events ≡ schedule = leads-schedule script schedule (fresh machine) end is.0 in
            let reached : IsReached script (fresh machine) end = subst (λ (l : List ℕ). Leads script l (fresh machine) end) (sym s) is.0 in
            elim (cases_lt (length end.events) all.n) [
              | inl fewer ↦ all.ended end reached is.1 fewer
              | inr more ↦
                  let b = on-the-way script (fresh machine) all.n (schedule_of end.events) (fresh machine) end reached refl (omega arith) more in
                  let m = state-of b.0 b.1 b.2 in
                  absurd (no-path m.0 (subst (λ (l : List Path). Contains l m.0) none m.1))
            ];
        distinct = all.known.distinct;
      }
    where
      no-path : (w : Path) → Contains ([]) w → ⊥
      no-path w (i, lt, at) = omega (arith, lt)

-- WHAT IS LEFT TO DO

abbrev at_most_one : ℕ → ℕ
at_most_one zero = 0
at_most_one (suc n) = 1

-- the states that there may still be, and the level if it has some
abbrev pub left_of : ℕ → Level → ℕ
left_of most level = (most - level.frontier.count) + at_most_one (length level.frontier.paths)

pub less-left : (most : ℕ) (level next : Level) → (level.frontier.paths ≡ [] → ⊥) → next.frontier.count ≡ level.frontier.count + length next.frontier.paths → next.frontier.count ≤ most → left_of most next < left_of most level
less-left most level next some counted few = by level.frontier.paths refl (length next.frontier.paths) refl
  where
    by : (ws : List Path) → level.frontier.paths ≡ ws → (n : ℕ) → length next.frontier.paths ≡ n → left_of most next < left_of most level
    by [] is n long = absurd (some is)
    by (w ∷ ws) is zero long = rw (is, long) (omega (arith, counted, few, long))
    by (w ∷ ws) is (suc n) long = rw (is, long) (omega (arith, counted, few, long))

-- THE FIRST LEVEL

pub first-searched : (script : ScriptView) (machine : Machine) (most : ℕ) → 0 < most → AreSearched script machine most (first_level script (fresh machine)) []
first-searched script machine most some =
    let first = fresh machine in
    let b = root script first in
    let level = first_level script first in
    let is : IsGroup script machine 0 b = record { reached = refl; long = refl; key = refl } in
    let one : (run : Run) → IsReached script first run → length run.events ≡ 0 → HasOne script machine level.groups level.frontier.paths run =
    λ run reached long.
    let same : first ≡ run = none-more script (schedule_of run.events) first run reached long in
    subst (HasOne script machine level.groups level.frontier.paths) same
    (record { x = state 0 b.replies; there = (0, omega arith, refl); one = start-one script machine }) in
    record {
      n = 0;
      is = record {
        groups = record {
          each = All-cons (IsGroup script machine 0) b [] is (All-nil (IsGroup script machine 0));
          keyed = refl;
          apart = λ i j d ij lt. absurd (omega (arith, ij, lt));
        };
        states = record {
          each = All-cons (IsPath script machine level.groups) (path (state 0 b.replies) []) [] (record { run = first; one = start-one script machine; schedule = refl }) (All-nil (IsPath script machine level.groups));
          apart = λ i j d ij lt. absurd (omega (arith, ij, lt));
        };
        complete = one;
      };
      known = record { sound = All-nil (IsFinding script first); distinct = λ i j o ij j-lt at-i at-j. omega (arith, j-lt) };
      ended = λ run reached over less. absurd (omega (arith, less));
      keys = [];
      are = record { each = All-nil (IsKeyOf script first); apart = λ i j d ij none. absurd (omega (arith, none)); below = All-nil (λ (k : Key). k.count < 0) };
      counted = refl;
      few = omega (arith, some);
    }
  where
    start-one : (script : ScriptView) (machine : Machine) → IsOne script machine (first_level script (fresh machine)).groups (state 0 (root script (fresh machine)).replies) (fresh machine)
    start-one script machine =
        record {
          reached = refl;
          replies = refl;
          at = (omega arith, λ d. refl);
        }

-- at a bound of 0 the first run is one too many
pub first-full : (script : ScriptView) (machine : Machine) (most : ℕ) → most ≡ 0 → AreMoreKeys script (fresh machine) most
first-full script machine most none =
    let first = fresh machine in (
      key_of script first first ∷ [],
      omega (arith, none),
      All-cons (IsKeyOf script first) (key_of script first first) [] (first, refl, refl) (All-nil (IsKeyOf script first)),
      λ i j d ij lt. absurd (omega (arith, ij, lt)),
    )

-- CAUSES

-- runs that have these keys
runs-of : (script : ScriptView) (first : Run) (keys : List Key) → All (IsKeyOf script first) keys → (runs : List Run) × All (IsReached script first) runs × (map (key_of script first) runs ≡ keys)
runs-of script first [] each = ([], All-nil (IsReached script first), refl)
runs-of script first (k ∷ ks) each =
    let (run, reached, is) = All-head (IsKeyOf script first) k ks each in
    let (runs, all, same) = runs-of script first ks (All-tail (IsKeyOf script first) k ks each) in
    (run ∷ runs, All-cons (IsReached script first) run runs reached all, ap (λ (l : List Key). key_of script first run ∷ l) same ∙ ap (λ (x : Key). x ∷ ks) (sym is))

-- the same calls and replies make the same key
same-key : (script : ScriptView) (first a b : Run) → a.events ≡ b.events → key_of script first a ≡ key_of script first b
same-key script first a b same = ap (λ (es : List Event). key_of script first (record { machine = first.machine; events = es })) same

-- more keys than the bound are those of more beginnings
more-runs : (script : ScriptView) (first : Run) (most : ℕ) → AreMoreKeys script first most → AreMoreRuns script first most
more-runs script first most (keys, more, each, apart) =
    let (runs, reached, same) = runs-of script first keys each in
    let long : length runs ≡ length keys = sym (length-map runs (key_of script first)) ∙ ap length same in
    let others : AllPairs AreOther (map (key_of script first) runs) = subst (AllPairs AreOther) (sym same) apart in (
      runs,
      omega (arith, more, long),
      reached,
      λ i j d ij lt alike.
          let key = key_of script first in
          let within : j < length (map key runs) = rw (length-map runs key) lt in
          others i j (key d) ij within (get_or-map key runs i d (key d) (omega (arith, ij, lt)) ∙ same-key script first (slice_index_or runs i d) (slice_index_or runs j d) alike ∙ sym (get_or-map key runs j d (key d) lt)),
    )

pub first-cause : (script : ScriptView) (machine : Machine) (most : ℕ) (error : SearchError) → IfBound (most ≡ 0) error → IsCause script (fresh machine) most error
first-cause script machine most error h =
    if-bound (most ≡ 0) (AreMoreRuns script (fresh machine) most) (λ none. more-runs script (fresh machine) most (first-full script machine most none)) error h

pub next-cause : (script : ScriptView) (machine : Machine) (most : ℕ) (level : Level) (before : List Finding) (error : SearchError)
    → AreSearched script machine most level before → IfBound (IsLevelFull script (fresh machine) level before most) error → IsCause script (fresh machine) most error
next-cause script machine most level before error all h =
    if-bound (IsLevelFull script (fresh machine) level before most) (AreMoreRuns script (fresh machine) most)
    (λ full. more-runs script (fresh machine) most (full-level script machine most level before all full)) error h
