-- Adding states one after another.
use Rattle.shm_outcomes.proofs.Names.{◌≡◌, ◌<◌, ℕ, suc, zero, ◌+◌, List, [], ◌∷◌, ◌++◌, take, drop, length, map, slice_index_or, Contains, refl, sym, ap, subst, ◌∙◌, arith, map-append, keys_of, values_of, Process, ScriptView, AreAdded, AreExpanded, AreTooMany, Frontier, IsAdded, IsExpanded, IsOneTooMany, IsStopped, Path, State, empty_frontier, path, path_after, path_in, paths_after, state_in, states_in, IfBound, Run, Finding, Transition, SearchError, HostMemory, Bound, AreAllTransitions, ArePut, Groups, no_groups, IsLevelFull, Level, get_or_default}

-- STATES WITH THEIR SCHEDULES

pub states-paths : (es : List (State × List ℕ)) → states_in (map path_in es) ≡ keys_of es
states-paths [] = refl
states-paths (e ∷ es) = ap (λ (l : List State). e.0 ∷ l) (states-paths es)

pub paths-push : (es : List (State × List ℕ)) (m : State) (s : List ℕ) → map path_in (es ++ (m, s) ∷ []) ≡ map path_in es ++ path m s ∷ []
paths-push es m s = map-append path_in es ((m, s) ∷ [])

pub state-at : (es : List (State × List ℕ)) (i : ℕ) (w : Path) (x : State) → i < length es → slice_index_or (map path_in es) i w ≡ w → x ≡ slice_index_or (keys_of es) i x → x ≡ w.state
state-at [] i w x lt at is = absurd (omega (arith, lt))
state-at (e ∷ es) zero w x lt at is = is ∙ ap state_in at
state-at (e ∷ es) (suc i) w x lt at is = state-at es i w x (omega (arith, lt)) at is

pub schedule-at : (es : List (State × List ℕ)) (i : ℕ) (w : Path) (x : List ℕ) → i < length es → slice_index_or (map path_in es) i w ≡ w → x ≡ slice_index_or (values_of es) i x → x ≡ w.schedule
schedule-at [] i w x lt at is = absurd (omega (arith, lt))
schedule-at (e ∷ es) zero w x lt at is = is ∙ ap (λ (v : Path). v.schedule) at
schedule-at (e ∷ es) (suc i) w x lt at is = schedule-at es i w x (omega (arith, lt)) at is

pub path-at : (paths : List Path) (i : ℕ) → i < length paths → (w : Path) × (slice_index_or paths i w ≡ w)
path-at [] i lt = absurd (omega (arith, lt))
path-at (w ∷ ws) zero lt = (w, refl)
path-at (w ∷ ws) (suc i) lt = path-at ws i (omega (arith, lt))

-- ADDING

pub if-bound : (P Q : Type 0) → (P → Q) → (error : SearchError) → IfBound P error → IfBound Q error
if-bound P Q f HostMemory h = tt
if-bound P Q f Bound h = f h

added-push : (most : ℕ) (xs : List Path) (w : Path) (a b c : Frontier) → AreAdded most xs a b → IsAdded most w b c → AreAdded most (xs ++ w ∷ []) a c
added-push most [] w a b c same one = (c, subst (λ (m : Frontier). IsAdded most w m c) (sym same) one, refl)
added-push most (x ∷ xs) w a b c (mid, first, rest) one = (mid, first, added-push most xs w mid b c rest one)

-- a list up to an index, and all of it
pub at-index : {X : Type 0} → (xs : List X) (i : ℕ) (x : X) → i < length xs → slice_index_or xs i x ≡ x → (take (i + 1) xs ≡ take i xs ++ x ∷ []) × (xs ≡ take i xs ++ x ∷ drop (i + 1) xs)
at-index [] i w lt at = absurd (omega (arith, lt))
at-index (x ∷ xs) zero w lt at = (ap (λ v. v ∷ []) at, ap (λ v. v ∷ xs) at)
at-index (x ∷ xs) (suc i) w lt at =
    let next : suc i + 1 ≡ suc (i + 1) = omega arith in
    let rest = at-index xs i w (omega (arith, lt)) at in (
      ap (λ (n : ℕ). take n (x ∷ xs)) next ∙ ap (λ l. x ∷ l) rest.0,
      ap (λ l. x ∷ l) rest.1 ∙ ap (λ (n : ℕ). (x ∷ take i xs) ++ w ∷ drop n (x ∷ xs)) (sym next),
    )

-- one more successor
pub added-at : (ps : List Process) (w : Path) (ts : List Transition) (i : ℕ) (t : Transition) (a b c : Frontier) (most : ℕ)
    → i < length ts → slice_index_or ts i t ≡ t
    → AreAdded most (paths_after ps w (take i ts)) a b → IsAdded most (path_after ps w t) b c → AreAdded most (paths_after ps w (take (i + 1) ts)) a c
added-at ps w ts i t a b c most lt at before one =
    let same = ap (paths_after ps w) (at-index ts i t lt at).0 ∙ map-append (path_after ps w) (take i ts) (t ∷ []) in
    subst (λ (l : List Path). AreAdded most l a c) (sym same) (added-push most (paths_after ps w (take i ts)) (path_after ps w t) a b c before one)

-- it is one too many
pub full-at : (ps : List Process) (w : Path) (ts : List Transition) (i : ℕ) (t : Transition) (a b : Frontier) (most : ℕ) (error : SearchError)
    → i < length ts → slice_index_or ts i t ≡ t
    → AreAdded most (paths_after ps w (take i ts)) a b → IfBound (IsOneTooMany (path_after ps w t) b most) error → IfBound (AreTooMany (paths_after ps w ts) a most) error
full-at ps w ts i t a b most error lt at before many =
    if-bound (IsOneTooMany (path_after ps w t) b most) (AreTooMany (paths_after ps w ts) a most)
    (λ one. record {
      before = paths_after ps w (take i ts);
      path = path_after ps w t;
      after = paths_after ps w (drop (i + 1) ts);
      all = ap (paths_after ps w) (at-index ts i t lt at).1 ∙ map-append (path_after ps w) (take i ts) (t ∷ drop (i + 1) ts);
      mid = b;
      added = before;
      many = one;
    }) error many

-- EXPANDING

expanded-next :
    (script : ScriptView) (first : Run) (most : ℕ) (transitions : List (List Transition)) (paths : List Path) (w : Path) (a b c : Frontier) (f g h : List Finding)
    → AreExpanded script first most transitions paths a b f g → IsExpanded script first most (slice_index_or transitions w.state.group []) w b c g h → AreExpanded script first most transitions (paths ++ w ∷ []) a c f h
expanded-next script first most transitions [] w a b c f g h (same, found-is) one =
    let first-state = subst (λ (m : Frontier). IsExpanded script first most (slice_index_or transitions w.state.group []) w m c g h) (sym same) one in
    (c, h, subst (λ (l : List Finding). IsExpanded script first most (slice_index_or transitions w.state.group []) w a c l h) (sym found-is) first-state, (refl, refl))
expanded-next script first most transitions (x ∷ paths) w a b c f g h (mid, between, expanded, rest) one = (mid, between, expanded, expanded-next script first most transitions paths w mid b c between g h rest one)

expanded-more :
    (script : ScriptView) (first : Run) (most : ℕ) (transitions : List (List Transition)) (paths : List Path) (i : ℕ) (w : Path) (a b c : Frontier) (f g h : List Finding)
    → i < length paths → slice_index_or paths i w ≡ w
    → AreExpanded script first most transitions (take i paths) a b f g → IsExpanded script first most (slice_index_or transitions w.state.group []) w b c g h → AreExpanded script first most transitions (take (i + 1) paths) a c f h
expanded-more script first most transitions paths i w a b c f g h lt at before one =
    subst (λ (l : List Path). AreExpanded script first most transitions l a c f h) (sym (at-index paths i w lt at).0) (expanded-next script first most transitions (take i paths) w a b c f g h before one)

stopped :
    (script : ScriptView) (first : Run) (most : ℕ) (transitions : List (List Transition)) (paths : List Path) (i : ℕ) (w : Path) (a b : Frontier) (f g : List Finding)
    → i < length paths → slice_index_or paths i w ≡ w
    → AreExpanded script first most transitions (take i paths) a b f g → AreTooMany (paths_after script.processes w (slice_index_or transitions w.state.group [])) b most → IsStopped script first transitions paths a f most
stopped script first most transitions paths i w a b f g lt at before full =
    record { done = take i paths; path = w; rest = drop (i + 1) paths; all = (at-index paths i w lt at).1; mid = b; between = g; expanded = before; many = full }

-- the transitions of a state's group
own-transitions : (transitions : List (List Transition)) (k g : ℕ) (own : List Transition) → k < length transitions → own ≡ slice_index_or transitions k own → k ≡ g → own ≡ slice_index_or transitions g []
own-transitions transitions k g own lt is same = is ∙ get_or_default transitions k own [] lt ∙ ap (λ (n : ℕ). slice_index_or transitions n []) same

-- the state at an index, and the place of its group's transitions
pub record IsStateAt (paths : List Path) (transitions : List (List Transition)) (i g : ℕ) (m : State) (s : List ℕ) : Type 0 where
  pub own : Path
  pub lt : i < length paths
  pub at : slice_index_or paths i own ≡ own
  pub is : path m s ≡ own
  pub group : g ≡ own.state.group
  pub within : g < length transitions

pub state-by :
    (inside now : Frontier) (transitions : List (List Transition)) (i end g : ℕ) (m : State) (s : List ℕ)
    → inside ≡ now → end ≡ length inside.paths → i < end
    → ((w : Path) → slice_index_or inside.paths i w ≡ w → m ≡ w.state) → ((w : Path) → slice_index_or inside.paths i w ≡ w → s ≡ w.schedule)
    → g ≡ m.group → ((w : Path) → Contains now.paths w → w.state.group < length transitions) → IsStateAt now.paths transitions i g m s
state-by inside now transitions i end g m s same end-is before states schedules group-is all =
    let inside-lt : i < length inside.paths = omega (arith, end-is, before) in
    let lt : i < length now.paths = subst (λ (x : Frontier). i < length x.paths) same inside-lt in
    let w = path-at now.paths i lt in
    let at : slice_index_or inside.paths i w.0 ≡ w.0 = subst (λ (x : Frontier). slice_index_or x.paths i w.0 ≡ w.0) (sym same) w.1 in
    let state-is = states w.0 at in
    let schedule-is = schedules w.0 at in
    let group : g ≡ w.0.state.group = group-is ∙ ap (λ (x : State). x.group) state-is in
    let bound = all w.0 (i, lt, w.1) in
    record {
      own = w.0;
      lt = lt;
      at = w.1;
      is = λ j. record { state = state-is j; schedule = schedule-is j };
      group = group;
      within = omega (arith, group, bound);
    }

pub expanded-at :
    (script : ScriptView) (first : Run) (most : ℕ) (transitions : List (List Transition)) (paths : List Path) (i g : ℕ) (m : State) (s : List ℕ) (steps : List Transition) (a b c : Frontier) (f h k : List Finding)
    → IsStateAt paths transitions i g m s → steps ≡ slice_index_or transitions g steps
    → AreExpanded script first most transitions (take i paths) a b f h → IsExpanded script first most steps (path m s) b c h k → AreExpanded script first most transitions (take (i + 1) paths) a c f k
expanded-at script first most transitions paths i g m s steps a b c f h k here is before one =
    let same = own-transitions transitions g here.own.state.group steps here.within is here.group in
    expanded-more script first most transitions paths i here.own a b c f h k here.lt here.at before
    (subst (λ (l : List Transition). IsExpanded script first most l here.own b c h k) same (subst (λ (v : Path). IsExpanded script first most steps v b c h k) here.is one))

pub stopped-at :
    (script : ScriptView) (first : Run) (most : ℕ) (transitions : List (List Transition)) (paths : List Path) (i g : ℕ) (m : State) (s : List ℕ) (steps : List Transition) (a b : Frontier) (f h : List Finding) (error : SearchError)
    → IsStateAt paths transitions i g m s → steps ≡ slice_index_or transitions g steps
    → AreExpanded script first most transitions (take i paths) a b f h → IfBound (AreTooMany (paths_after script.processes (path m s) steps) b most) error → IfBound (IsStopped script first transitions paths a f most) error
stopped-at script first most transitions paths i g m s steps a b f h error here is before full =
    let same = own-transitions transitions g here.own.state.group steps here.within is here.group in
    if-bound (AreTooMany (paths_after script.processes (path m s) steps) b most) (IsStopped script first transitions paths a f most)
    (λ many.
    stopped script first most transitions paths i here.own a b f h here.lt here.at before
    (subst (λ (l : List Transition). AreTooMany (paths_after script.processes here.own l) b most) same (subst (λ (v : Path). AreTooMany (paths_after script.processes v steps) b most) here.is many)))
    error full

pub level-full :
    (script : ScriptView) (first : Run) (level : Level) (before : List Finding) (most : ℕ) (groups : Groups) (transitions : List (List Transition)) (error : SearchError)
    → AreAllTransitions script groups level.groups.all transitions → ArePut script level.groups.all no_groups groups
    → IfBound (IsStopped script first transitions level.frontier.paths (empty_frontier level.frontier.count) before most) error → IfBound (IsLevelFull script first level before most) error
level-full script first level before most groups transitions error all put h =
    if-bound (IsStopped script first transitions level.frontier.paths (empty_frontier level.frontier.count) before most) (IsLevelFull script first level before most)
    (λ stopped. record { groups = groups; transitions = transitions; all = all; put = put; stopped = stopped }) error h
