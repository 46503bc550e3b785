-- The steps of the judge.
use Rattle.shm_judge.proofs.Names.{◌≡◌, ◌≤◌, ℕ, ◌+◌, ◌==◌, ◌⊎◌, IsPermutation, Bool, true, false, List, [], ◌∷◌, ◌++◌, All, Contains, map, length, Option, Some, None, option_map, slice_index_or, IsTrue, cond, Result, Ok, Err, IfErr, IsErrAnd, AllPairs, list_any, insert_key, ap, refl, sym, subst, ◌∙◌, arith, inl, inr, length-append, common_steps, get_or_append_left, length-map, map-append, All-append, All-contains, All-push, Contains-append_left, Contains-append_right, Contains-get_or, Contains-push, Contains-push_cases, filter-append, all_pairs_push, All-permutation, Contains-permutation, is_member-Decides, none-some, is_refusal, own_part, Machine, ProcessCall, has_pid, Event, Process, Reply, ScriptView, AreMore, IsBeginning, IsDoubt, IsExplained, IsKeyOfBeginning, IsStuck, IsUnexplained, stuck_at, AreExplored, HasRun, IsAdmitted, IsExpanded, IsExplored, IsLonger, IsNew, IsNode, IsOpen, IsTooMany, one_successor, successors, Stuck, Verdict, Answer, AllBegin, AllFill, Begins, Fits, FitsAs, is_any, masked, masked_time, masked_replies, outcome_of, Run, after, fresh, goes, is_live, next, replies_to, reply_of, Leads, IsOver, IsReached, followers, reply_words, time_text, SearchError, HostMemory, AreOther, Key, key_of, Node, key_at, root, successor, if-bound, AreEquivalent, equivalent-goes, equivalent-over, successor-key, key_eq, same-key, leads-grow, replies-at, follower-reached, has-cases, made-by, none-over, over-none, test-first}

-- WHAT BEGINS A LOG

begins-nil : (a : List Answer) → Begins a []
begins-nil [] = tt
begins-nil (x ∷ a) = tt

begins-prefix : (a : List Answer) (rs more : List Reply) → Begins a (rs ++ more) → Begins a rs
begins-prefix a [] more h = begins-nil a
begins-prefix [] (r ∷ rs) more h = absurd h
begins-prefix (x ∷ a) (r ∷ rs) more h = (h.0, begins-prefix a rs more h.1)

replies-append : (pid : ℕ) (es more : List Event) → replies_to pid (es ++ more) ≡ replies_to pid es ++ replies_to pid more
replies-append pid es more =
    ap (map reply_of) (filter-append (λ (e : Event). e.pid == pid) es more) ∙ map-append reply_of (own_part pid es) (own_part pid more)

-- so does what begins it
all-prefix : (script : ScriptView) (log : List (List Answer)) (es more all : List Event) → all ≡ es ++ more → AllBegin script log all → AllBegin script log es
all-prefix script log es more all is h i p lt at =
    begins-prefix (slice_index_or log i []) (replies_to p.pid es) (replies_to p.pid more)
    (subst (Begins (slice_index_or log i [])) (replies-append p.pid es more) (subst (λ (l : List Event). Begins (slice_index_or log i []) (replies_to p.pid l)) is (h i p lt at)))

time-masked : (t : ℕ) → time_text (masked_time t) ≡ time_text t
time-masked t = grind arith

words-masked : (r : Reply) → reply_words (masked r) ≡ reply_words r
words-masked r = grind (arith, common_steps, time-masked)

refusal-masked : (r : Reply) → is_refusal (masked r) ≡ is_refusal r
refusal-masked r = grind arith

fits-as : (b : Bool) (words : List ℕ) (r s : Reply) → is_refusal r ≡ is_refusal s → reply_words r ≡ reply_words s → FitsAs b words r → FitsAs b words s
fits-as true words r s h k fits = sym h ∙ fits
fits-as false words r s h k fits = fits ∙ k

fits-masked : (a : Answer) (r s : Reply) → masked r ≡ masked s → Fits a r → Fits a s
fits-masked a r s same =
    fits-as (is_any a.reply) a.reply r s (sym (refusal-masked r) ∙ ap is_refusal same ∙ refusal-masked s) (sym (words-masked r) ∙ ap reply_words same ∙ words-masked s)

-- times don't matter
begins-masked : (a : List Answer) (rs ss : List Reply) → map masked rs ≡ map masked ss → Begins a rs → Begins a ss
begins-masked a rs [] same h = begins-nil a
begins-masked a [] (s ∷ ss) same h = (let e : 0 ≡ length (map masked (s ∷ ss)) = ap length same in absurd (omega (arith, e)))
begins-masked [] (r ∷ rs) (s ∷ ss) same h = absurd h
begins-masked (x ∷ a) (r ∷ rs) (s ∷ ss) same h = (fits-masked x r s (first-same r s rs ss same) h.0, begins-masked a rs ss (rest-same r s rs ss same) h.1)
  where
    first-same : (r s : Reply) (rs ss : List Reply) → masked r ∷ map masked rs ≡ masked s ∷ map masked ss → masked r ≡ masked s
    first-same r s rs ss h = grind (arith, h)

    rest-same : (r s : Reply) (rs ss : List Reply) → masked r ∷ map masked rs ≡ masked s ∷ map masked ss → map masked rs ≡ map masked ss
    rest-same r s rs ss h = grind (arith, h)

all-begin-same : (script : ScriptView) (log : List (List Answer)) (a b : Run) → outcome_of script a.events ≡ outcome_of script b.events → AllBegin script log a.events → AllBegin script log b.events
all-begin-same script log a b same h i p lt at =
    begins-masked (slice_index_or log i []) (replies_to p.pid a.events) (replies_to p.pid b.events) (replies-at (masked_replies a.events) (masked_replies b.events) script.processes same i p lt at) (h i p lt at)

all-fill-same : (script : ScriptView) (log : List (List Answer)) (a b : Run) → outcome_of script a.events ≡ outcome_of script b.events → AllFill script log a.events → AllFill script log b.events
all-fill-same script log a b outcomes h i p lt at =
    let same = replies-at (masked_replies a.events) (masked_replies b.events) script.processes outcomes i p lt at in
    let count : length (replies_to p.pid a.events) ≡ length (replies_to p.pid b.events) =
    sym (length-map (replies_to p.pid a.events) masked) ∙ ap length same ∙ length-map (replies_to p.pid b.events) masked in
    (begins-masked (slice_index_or log i []) (replies_to p.pid a.events) (replies_to p.pid b.events) same (h i p lt at).0, sym count ∙ (h i p lt at).1)

fill-begins : (script : ScriptView) (log : List (List Answer)) (es : List Event) → AllFill script log es → AllBegin script log es
fill-begins script log es h i p lt at = (h i p lt at).0

pub first-begins : (script : ScriptView) (log : List (List Answer)) (machine : Machine) → IsBeginning script log (fresh machine) (fresh machine)
first-begins script log machine = (refl, λ i p lt at. begins-nil (slice_index_or log i []))

-- SUCCESSORS

no-nodes : {X : Type 0} → (x : X) → Contains ([]) x → ⊥
no-nodes x h = omega (arith, h.1)

one-all : (script : ScriptView) (P : Node → Type 0) (b : Node) (pid : ℕ) (o : Option ProcessCall) → ((call : ProcessCall) → o ≡ Some call → P (successor script b pid call)) → All P (one_successor script b pid o)
one-all script P b pid None each = λ k d lt. absurd (omega (arith, lt))
one-all script P b pid (Some call) each = λ k d lt. (let e : k ≡ 0 = omega (arith, lt) in rw e (each call refl))

-- what holds for the node after each next call holds for all successors
successors-all : (script : ScriptView) (P : Node → Type 0) (b : Node) → ((pid : ℕ) (call : ProcessCall) → next script b.run pid ≡ Some call → P (successor script b pid call))
    → (ps : List Process) → All P (successors script ps b)
successors-all script P b each [] = λ k d lt. absurd (omega (arith, lt))
successors-all script P b each (p ∷ ps) =
    All-append P (one_successor script b p.pid (next script b.run p.pid)) (successors script ps b)
    (one-all script P b p.pid (next script b.run p.pid) (each p.pid)) (successors-all script P b each ps)

successors-some : (script : ScriptView) (b : Node) (pid : ℕ) (call : ProcessCall) → next script b.run pid ≡ Some call
    → (ps : List Process) → has_pid pid ps ≡ true → Contains (successors script ps b) (successor script b pid call)
successors-some script b pid call is [] has = absurd (cc)
successors-some script b pid call is (p ∷ ps) has =
    elim (has-cases pid p ps has) [
      | inl same ↦
          Contains-append_left (one_successor script b p.pid (next script b.run p.pid)) (successors script ps b) (successor script b pid call)
          (subst (λ (q : ℕ). Contains (one_successor script b q (next script b.run q)) (successor script b pid call)) (sym same)
          (subst (λ (o : Option ProcessCall). Contains (one_successor script b pid o) (successor script b pid call)) (sym is) (0, omega arith, refl)))
      | inr more ↦ Contains-append_right (one_successor script b p.pid (next script b.run p.pid)) (successors script ps b) (successor script b pid call) (successors-some script b pid call is ps more)
    ]

-- each run that follows is that of a successor
successors-have : (script : ScriptView) (b : Node) (pid : ℕ) (m : Run) → goes script pid b.run ≡ Some m → HasRun (successors script script.processes b) m
successors-have script b pid m h =
    let made = made-by (next script b.run pid) b.run pid m h in
    let has = test-first (has_pid pid script.processes) (is_live b.run.machine pid) _ made.0 made.1 in
    (successor script b pid made.0, successors-some script b pid made.0 made.1 script.processes has, made.2)

-- without successors a run has no followers
pub none-follow : (script : ScriptView) (b : Node) → successors script script.processes b ≡ [] → followers script script.processes b.run ≡ []
none-follow script b none = over-none script b.run over
  where
    over : IsOver script b.run
    over pid = by (goes script pid b.run) refl
      where
        by : (o : Option Run) → goes script pid b.run ≡ o → o ≡ None
        by None is = refl
        by (Some m) is = (let there = successors-have script b pid m is in absurd (no-nodes there.0 (subst (λ (l : List Node). Contains l there.0) none there.1)))

-- and without followers it has no successors
pub none-succeed : (script : ScriptView) (b : Node) → followers script script.processes b.run ≡ [] → successors script script.processes b ≡ []
none-succeed script b none = by script.processes
  where
    over : IsOver script b.run
    over = none-over script b.run none

    call-none : (pid : ℕ) (o : Option ProcessCall) → option_map (after b.run pid) o ≡ None → one_successor script b pid o ≡ []
    call-none pid None h = refl
    call-none pid (Some call) h = absurd (none-some _ (sym h))

    by : (ps : List Process) → successors script ps b ≡ []
    by [] = refl
    by (p ∷ ps) = rw (call-none p.pid (next script b.run p.pid) (over p.pid)) (by ps)

-- ADMITTING

-- a key is found exactly when it is there
pub key-there : (keys : List Key) (k : Key) (b : Bool) → b ≡ list_any (key_eq k) keys → (IsTrue b → Contains keys k) × (Contains keys k → IsTrue b)
key-there keys k b is = (let d = is_member-Decides same-key keys k in (λ t. d.0 (sym is ∙ t), λ there. is ∙ d.1 there))

-- a key that is not there goes last
pub key-last : (keys : List Key) (k : Key) → (Contains keys k → ⊥) → insert_key key_eq keys k ≡ keys ++ k ∷ []
key-last keys k other = by (list_any (key_eq k) keys) refl
  where
    by : (b : Bool) → b ≡ list_any (key_eq k) keys → cond b keys (keys ++ k ∷ []) ≡ keys ++ k ∷ []
    by true is = absurd (other ((key-there keys k true is).0 refl))
    by false is = refl

none-apart : AllPairs AreOther []
none-apart = λ i j d ij none. absurd (omega (arith, none))

apart-more : (explored : List Key) (k : Key) → AllPairs AreOther explored → (Contains explored k → ⊥) → AllPairs AreOther (explored ++ k ∷ [])
apart-more explored k apart other = all_pairs_push AreOther explored k apart (λ i d lt same. other (subst (Contains explored) same (Contains-get_or explored i d lt)))

last-node : (P : Node → Type 0) (rest : List Node) (b : Node) → All P (rest ++ b ∷ []) → P b
last-node P rest b all = All-contains P (rest ++ b ∷ []) b all (Contains-push rest b)

rest-nodes : (P : Node → Type 0) (rest : List Node) (b : Node) → All P (rest ++ b ∷ []) → All P rest
rest-nodes P rest b all k d lt =
    let long : length (rest ++ b ∷ []) ≡ length rest + 1 = length-append rest (b ∷ []) in
    subst P (get_or_append_left rest (b ∷ []) d k lt) (all k d (omega (arith, long, lt)))

pub admitted-count : (script : ScriptView) (log : List (List Answer)) (olds news : List Key) (frontier others : List Node) (b : Node) → IsAdmitted script log b olds news frontier others → length others + length olds ≡ length frontier + length news
admitted-count script log olds news frontier others b (inl left) = rw (left.explored, left.frontier) refl
admitted-count script log olds news frontier others b (inr new) =
    let e = length-append olds (key_at b ∷ []) in
    let f = length-append frontier (b ∷ []) in
    rw (new.1.explored, new.1.frontier) (omega (arith, e, f))

-- a search that gets no memory has a reason
pub refused : (script : ScriptView) (log : List (List Answer)) (first : Run) (most : ℕ) (r : Result Verdict SearchError) → IsErrAnd r (λ e. e ≡ HostMemory) → IfErr r (IsDoubt script log first most)
refused script log first most (Ok v) h = absurd h
refused script log first most (Err e) h = rw h tt

module _ (script : ScriptView) (log : List (List Answer)) (machine : Machine) where
  abbrev first : Run
  first = fresh machine

  -- a node that is left: it does not begin the log, or its key was explored
  left-out :
      (explored : List Key) (frontier rest : List Node) (longest : ℕ) (b : Node)
      → AreExplored script log first explored frontier (rest ++ b ∷ []) longest
      → (AllBegin script log b.run.events → ⊥) ⊎ Contains explored (key_at b) → AreExplored script log first explored frontier rest longest
  left-out explored frontier rest longest b all why =
      record {
        begun = all.begun;
        each = λ key is. (let x = all.each key is in (x.0, x.1, x.2, by x.0 x.3));
        apart = all.apart;
        unexpanded = all.unexpanded;
        nodes = rest-nodes (IsNode script first) rest b all.nodes;
      }
    where
      own : key_at b ≡ key_of script first b.run
      own = (last-node (IsNode script first) rest b all.nodes).1

      onwards : (n : Run) → AllBegin script log n.events → Contains explored (key_of script first n) ⊎ HasRun (rest ++ b ∷ []) n → Contains explored (key_of script first n) ⊎ HasRun rest n
      onwards n begins (inl there) = inl there
      onwards n begins (inr has) =
          elim (Contains-push_cases rest b has.0 has.1) [
            | inl there ↦ inr (has.0, there, has.2)
            | inr same ↦
                let run : b.run ≡ n = ap (λ (x : Node). x.run) same ∙ has.2 in
                elim why [
                  | inl not ↦ absurd (not (subst (λ (r : Run). AllBegin script log r.events) (sym run) begins))
                  | inr there ↦ inl (subst (Contains explored) (own ∙ ap (key_of script first) run) there)
                ]
          ]

      by : (run : Run) → HasRun frontier run ⊎ IsExpanded script log first explored (rest ++ b ∷ []) longest run → HasRun frontier run ⊎ IsExpanded script log first explored rest longest run
      by run (inl waits) = inl waits
      by run (inr x) = inr (record { part = x.part; short = x.short; onwards = λ pid n goes begins. onwards n begins (x.onwards pid n goes begins) })

  -- a new node
  put-in :
      (explored : List Key) (frontier rest : List Node) (longest : ℕ) (b : Node)
      → AreExplored script log first explored frontier (rest ++ b ∷ []) longest
      → IsNew script log explored b → AreExplored script log first (explored ++ key_at b ∷ []) (frontier ++ b ∷ []) rest longest
  put-in explored frontier rest longest b all new =
      record {
        begun = Contains-append_left explored (key_at b ∷ []) (key_of script first first) all.begun;
        each = λ key is. by key (Contains-push_cases explored (key_at b) key is);
        apart = apart-more explored (key_at b) all.apart new.other;
        unexpanded = All-push (IsOpen script log first) frontier b all.unexpanded (node, new.begins);
        nodes = rest-nodes (IsNode script first) rest b all.nodes;
      }
    where
      node : IsNode script first b
      node = last-node (IsNode script first) rest b all.nodes

      onwards : (n : Run) → Contains explored (key_of script first n) ⊎ HasRun (rest ++ b ∷ []) n → Contains (explored ++ key_at b ∷ []) (key_of script first n) ⊎ HasRun rest n
      onwards n (inl there) = inl (Contains-append_left explored (key_at b ∷ []) (key_of script first n) there)
      onwards n (inr has) =
          elim (Contains-push_cases rest b has.0 has.1) [
            | inl there ↦ inr (has.0, there, has.2)
            | inr same ↦
                let run : b.run ≡ n = ap (λ (x : Node). x.run) same ∙ has.2 in
                inl (subst (Contains (explored ++ key_at b ∷ [])) (node.1 ∙ ap (key_of script first) run) (Contains-push explored (key_at b)))
          ]

      waits : (run : Run) → HasRun frontier run ⊎ IsExpanded script log first explored (rest ++ b ∷ []) longest run → HasRun (frontier ++ b ∷ []) run ⊎ IsExpanded script log first (explored ++ key_at b ∷ []) rest longest run
      waits run (inl has) = inl (has.0, Contains-append_left frontier (b ∷ []) has.0 has.1, has.2)
      waits run (inr x) = inr (record { part = x.part; short = x.short; onwards = λ pid n goes begins. onwards n (x.onwards pid n goes begins) })

      by : (key : Key) → Contains explored key ⊎ (key_at b ≡ key) → IsExplored script log first (explored ++ key_at b ∷ []) (frontier ++ b ∷ []) rest longest key
      by key (inl there) = (let x = all.each key there in (x.0, x.1, x.2, waits x.0 x.3))
      by key (inr same) = (b.run, (node.0, new.begins), sym same ∙ node.1, inl (b, Contains-push frontier b, refl))

  -- the last of the nodes that were offered is admitted, or left
  pub admitted :
      (olds news : List Key) (frontier others rest : List Node) (longest : ℕ) (b : Node)
      → AreExplored script log first olds frontier (rest ++ b ∷ []) longest → IsAdmitted script log b olds news frontier others → AreExplored script log first news others rest longest
  admitted olds news frontier others rest longest b all (inl left) = rw (left.explored, left.frontier) (left-out olds frontier rest longest b all left.why)
  admitted olds news frontier others rest longest b all (inr new) = rw (new.1.explored, new.1.frontier) (put-in olds frontier rest longest b all new.0)

  key-begins : (explored : List Key) (frontier offered : List Node) (longest : ℕ) → AreExplored script log first explored frontier offered longest → All (IsKeyOfBeginning script log first) explored
  key-begins explored frontier offered longest all k d lt =
      let x = all.each (slice_index_or explored k d) (Contains-get_or explored k d lt) in
      (x.0, x.1, x.2)

  too-many : (explored : List Key) (b : Node) (most : ℕ) (error : SearchError)
      → All (IsKeyOfBeginning script log first) explored → AllPairs AreOther explored → IsNode script first b → IsTooMany script log b explored most error → IsDoubt script log first most error
  too-many explored b most error keys apart node too =
      if-bound (IsNew script log explored b × (most ≤ length explored)) (AreMore script log first most)
      (λ h. (
        explored ++ key_at b ∷ [],
        (let e = length-append explored (key_at b ∷ []) in omega (arith, e, h.1)),
        All-push (IsKeyOfBeginning script log first) explored (key_at b) keys (b.run, (node.0, h.0.begins), node.1),
        apart-more explored (key_at b) apart h.0.other,
      )) error too

  pub doubt : (explored : List Key) (frontier rest : List Node) (longest most : ℕ) (b : Node) (error : SearchError)
      → AreExplored script log first explored frontier (rest ++ b ∷ []) longest → IsTooMany script log b explored most error → IsDoubt script log first most error
  doubt explored frontier rest longest most b error all h =
      too-many explored b most error (key-begins explored frontier (rest ++ b ∷ []) longest all) all.apart (last-node (IsNode script first) rest b all.nodes) h

  -- THE ROOT

  root-node : IsNode script first (root script first)
  root-node = (refl, refl)

  pub first-doubt : (most : ℕ) (error : SearchError) → IsTooMany script log (root script first) [] most error → IsDoubt script log first most error
  first-doubt most error h = too-many [] (root script first) most error (λ k d lt. absurd (omega (arith, lt))) none-apart root-node h

  pub first-explored : (news : List Key) (frontier : List Node) (longest : ℕ) → IsAdmitted script log (root script first) [] news [] frontier → AreExplored script log first news frontier [] longest
  first-explored news frontier longest (inl left) =
      elim left.why [
        | inl not ↦ absurd (not (first-begins script log machine).1)
        | inr there ↦ absurd (omega (arith, there.1))
      ]
  first-explored news frontier longest (inr new) =
      rw (new.1.explored, new.1.frontier)
      (record {
        begun = (0, omega arith, refl);
        each = λ key is. (first, first-begins script log machine, by key (Contains-push_cases [] (key_at (root script first)) key is), inl (root script first, (0, omega arith, refl), refl));
        apart = apart-more [] (key_at (root script first)) none-apart new.0.other;
        unexpanded = All-push (IsOpen script log first) [] (root script first) (λ k d lt. absurd (omega (arith, lt))) (root-node, new.0.begins);
        nodes = λ k d lt. absurd (omega (arith, lt));
      })
    where
      by : (key : Key) → Contains [] key ⊎ (key_at (root script first) ≡ key) → key ≡ key_of script first first
      by key (inl there) = absurd (omega (arith, there.1))
      by key (inr same) = sym same

  -- AN EXPANSION

  pub expanded :
      (explored : List Key) (rest : List Node) (b : Node) (short long : ℕ)
      → AreExplored script log first explored (rest ++ b ∷ []) [] short → (IsOver script b.run → AllFill script log b.run.events → ⊥) → length b.run.events ≤ long → short ≤ long
      → AreExplored script log first explored rest (successors script script.processes b) long
  expanded explored rest b short long all part within longer =
      record {
        begun = all.begun;
        each = λ key is. (let x = all.each key is in (x.0, x.1, x.2, by x.0 x.3));
        apart = all.apart;
        unexpanded = rest-nodes (IsOpen script log first) rest b all.unexpanded;
        nodes = successors-all script (IsNode script first) b after-node script.processes;
      }
    where
      node : IsNode script first b
      node = (last-node (IsOpen script log first) rest b all.unexpanded).0

      after-node : (pid : ℕ) (call : ProcessCall) → next script b.run pid ≡ Some call → IsNode script first (successor script b pid call)
      after-node pid call is = (
        follower-reached script first b.run node.0 pid (after b.run pid call) (ap (option_map (after b.run pid)) is),
        successor-key script machine b node.0 node.1 pid call,
      )

      own : IsExpanded script log first explored (successors script script.processes b) long b.run
      own = record { part = part; short = within; onwards = λ pid m goes begins. inr (successors-have script b pid m goes) }

      onwards : (n : Run) → Contains explored (key_of script first n) ⊎ HasRun [] n → Contains explored (key_of script first n) ⊎ HasRun (successors script script.processes b) n
      onwards n (inl there) = inl there
      onwards n (inr none) = absurd (no-nodes none.0 none.1)

      by : (run : Run) → HasRun (rest ++ b ∷ []) run ⊎ IsExpanded script log first explored [] short run
          → HasRun rest run ⊎ IsExpanded script log first explored (successors script script.processes b) long run
      by run (inl has) =
          elim (Contains-push_cases rest b has.0 has.1) [
            | inl there ↦ inl (has.0, there, has.2)
            | inr same ↦ inr (subst (IsExpanded script log first explored (successors script script.processes b) long) (ap (λ (x : Node). x.run) same ∙ has.2) own)
          ]
      by run (inr x) =
          inr
          (record {
            part = x.part;
            short = (let a = x.short in omega (arith, a, longer));
            onwards = λ pid n goes begins. onwards n (x.onwards pid n goes begins);
          })

  -- the order of the nodes that are offered does not matter
  pub permuted :
      (explored : List Key) (frontier offered others : List Node) (longest : ℕ)
      → IsPermutation offered others → AreExplored script log first explored frontier offered longest → AreExplored script log first explored frontier others longest
  permuted explored frontier offered others longest same all =
      record {
        begun = all.begun;
        each = λ key is. (let x = all.each key is in (x.0, x.1, x.2, by x.0 x.3));
        apart = all.apart;
        unexpanded = all.unexpanded;
        nodes = All-permutation (IsNode script first) offered others same all.nodes;
      }
    where
      moved : (n : Run) → Contains explored (key_of script first n) ⊎ HasRun offered n → Contains explored (key_of script first n) ⊎ HasRun others n
      moved n (inl there) = inl there
      moved n (inr has) = inr (has.0, Contains-permutation offered others has.0 same has.1, has.2)

      by : (run : Run) → HasRun frontier run ⊎ IsExpanded script log first explored offered longest run → HasRun frontier run ⊎ IsExpanded script log first explored others longest run
      by run (inl waits) = inl waits
      by run (inr x) = inr (record { part = x.part; short = x.short; onwards = λ pid n goes begins. moved n (x.onwards pid n goes begins) })

  -- WHEN THE FRONTIER IS EMPTY

  module _ (explored : List Key) (longest : ℕ) (all : AreExplored script log first explored [] [] longest) where
    -- a run with this key was expanded
    abbrev Has : Key → Type 0
    Has key = (run : Run) × IsBeginning script log first run × (key ≡ key_of script first run) × IsExpanded script log first explored [] longest run

    has-expanded : (key : Key) → Contains explored key → Has key
    has-expanded key is =
        let x = all.each key is in
        elim x.3 [
          | inl waits ↦ absurd (no-nodes waits.0 waits.1)
          | inr done ↦ (x.0, x.1, x.2, done)
        ]

    abbrev Equivalent : Run → Type 0
    Equivalent end = (c : Run) × IsBeginning script log first c × IsExpanded script log first explored [] longest c × AreEquivalent script machine end c

    -- a schedule whose replies begin the log leads to a run that is equivalent to one that was expanded
    follow : (schedule : List ℕ) (a b end : Run) → Leads script schedule a end → AllBegin script log end.events → AreEquivalent script machine a b
        → IsBeginning script log first b → IsExpanded script log first explored [] longest b → Equivalent end
    follow [] a b end h begins alike is done = (b, is, done, subst (λ (r : Run). AreEquivalent script machine r b) h alike)
    follow (pid ∷ schedule) a b end h begins alike is done =
        let m = h.0 in
        let more = leads-grow script schedule m end h.2 in
        let m-begins = all-prefix script log m.events more.0 end.events more.1 begins in
        let there = equivalent-goes script machine a b alike pid m h.1 in
        let n = there.0 in
        let n-begins = all-begin-same script log m n (ap (λ (k : Key). k.replies) there.2.key) m-begins in
        elim (done.onwards pid n there.1 n-begins) [
          | inl met ↦
              let x = has-expanded (key_of script first n) met in
              follow schedule m x.0 end h.2 begins (record { left = there.2.left; right = x.1.0; key = there.2.key ∙ x.2 }) x.1 x.3
          | inr none ↦ absurd (no-nodes none.0 none.1)
        ]

    from-first : (schedule : List ℕ) (end : Run) → Leads script schedule first end → AllBegin script log end.events → Equivalent end
    from-first schedule end leads begins =
        let x = has-expanded (key_of script first first) all.begun in
        follow schedule first x.0 end leads begins (record { left = (first-begins script log machine).0; right = x.1.0; key = x.2 }) x.1 x.3

    pub unexplained : IsUnexplained script log first
    unexplained schedule end is fills =
        let c = from-first schedule end is.0 (fill-begins script log end.events fills) in
        c.2.part (equivalent-over script machine end c.0 c.3 is.1) (all-fill-same script log end c.0 (ap (λ (k : Key). k.replies) c.3.key) fills)

    pub longest-all : (schedule : List ℕ) (run : Run) → Leads script schedule first run → AllBegin script log run.events → length run.events ≤ longest
    longest-all schedule run leads begins =
        let c = from-first schedule run leads begins in
        let short = c.2.short in
        let count = ap (λ (k : Key). k.count) c.3.key in
        omega (arith, short, count)

-- AN EXPANSION AS THE CODE MAKES IT

-- what a node that has all of the log is
pub legal :
    (script : ScriptView) (log : List (List Answer)) (machine : Machine) (explored : List Key) (frontier rest : List Node) (b : Node) (short : ℕ)
    → AreExplored script log (fresh machine) explored frontier [] short → frontier ≡ rest ++ b ∷ [] → successors script script.processes b ≡ [] → AllFill script log b.run.events
    → IsExplained script log (fresh machine) b.run.events
legal script log machine explored frontier rest b short all was none fills =
    let node = (last-node (IsOpen script log (fresh machine)) rest b (subst (All (IsOpen script log (fresh machine))) was all.unexpanded)).0 in
    (b.run, (node.0, none-over script b.run (none-follow script b none)), refl, fills)

pub goes-on :
    (script : ScriptView) (log : List (List Answer)) (machine : Machine) (explored : List Key) (frontier rest : List Node) (b : Node) (old new : Stuck)
    → AreExplored script log (fresh machine) explored frontier [] (length old.events) → frontier ≡ rest ++ b ∷ []
    → ((successors script script.processes b ≡ []) × AllFill script log b.run.events → ⊥) → IsLonger script b.run old new
    → AreExplored script log (fresh machine) explored rest (successors script script.processes b) (length new.events)
goes-on script log machine explored frontier rest b old new all was part longer =
    expanded script log machine explored rest b (length old.events) (length new.events)
    (subst (λ (f : List Node). AreExplored script log (fresh machine) explored f [] (length old.events)) was all)
    (λ over fills. part (none-succeed script b (over-none script b.run over), fills)) (within longer) (longer-yet longer)
  where
    within : IsLonger script b.run old new → length b.run.events ≤ length new.events
    within (inl l) = rw l.1 (omega arith)
    within (inr l) = rw l.1 l.0

    longer-yet : IsLonger script b.run old new → length old.events ≤ length new.events
    longer-yet (inl l) = (let e = l.0 in rw l.1 (omega (arith, e)))
    longer-yet (inr l) = rw l.1 (omega arith)

abbrev pub IsStuckAt : ScriptView → List (List Answer) → Run → Stuck → Type 0
IsStuckAt script log first s = (run : Run) × IsBeginning script log first run × (s ≡ stuck_at script run)

pub stuck-on :
    (script : ScriptView) (log : List (List Answer)) (first : Run) (rest frontier : List Node) (b : Node) (old new : Stuck)
    → All (IsOpen script log first) frontier → frontier ≡ rest ++ b ∷ [] → IsLonger script b.run old new → IsStuckAt script log first old → IsStuckAt script log first new
stuck-on script log first rest frontier b old new all was (inl l) before =
    let open-node = last-node (IsOpen script log first) rest b (subst (All (IsOpen script log first)) was all) in
    (b.run, (open-node.0.0, open-node.1), l.1)
stuck-on script log first rest frontier b old new all was (inr l) before = rw l.1 before

-- when no node is left
pub illegal :
    (script : ScriptView) (log : List (List Answer)) (machine : Machine) (explored : List Key) (frontier : List Node) (s : Stuck)
    → AreExplored script log (fresh machine) explored frontier [] (length s.events) → frontier ≡ [] → IsStuckAt script log (fresh machine) s
    → IsUnexplained script log (fresh machine) × IsStuck script log (fresh machine) s
illegal script log machine explored frontier s all none at =
    let last = subst (λ (f : List Node). AreExplored script log (fresh machine) explored f [] (length s.events)) none all in
    (unexplained script log machine explored (length s.events) last, record { beginning = at; longest = longest-all script log machine explored (length s.events) last })

-- the calls of a schedule that has the replies of the log
pub explained : (script : ScriptView) (log : List (List Answer)) (start run : Run) → IsReached script start run → followers script script.processes run ≡ [] → AllFill script log run.events
    → IsExplained script log start run.events
explained script log start run reached none fills = (run, (reached, none-over script run none), refl, fills)
