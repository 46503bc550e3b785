-- Groups of runs, and their continuations.
use Rattle.shm_outcomes.proofs.Names.{◌≡◌, ◌<◌, ◌⊎◌, ℕ, suc, zero, ◌+◌, true, take, List, [], ◌∷◌, ◌++◌, map, length, option_map, Option, Some, None, All, Contains, slice_index_or, AllPairs, refl, ap, sym, subst, ◌∙◌, arith, inl, inr, length-append, append-nil, get_or_append_left, get_or_push, map-append, All-append, All-cons, All-contains, All-more, All-nil, All-push, All-weaker, Contains-append_left, Contains-get_or, Contains-push, all_pairs_push, cases_lt, none-some, same_Some, has_pid, Machine, ProcessCall, Event, Process, ScriptView, Node, event_after, key_at, successor, AreAllTransitions, AreTransitions, ArePut, Continues, Groups, IsAt, IsExtended, IsFrom, IsPut, IsTransition, StayThere, group_key_at, group_key_of, no_groups, relevant_key, AreOther, Key, key_of, State, state, outcome_of, replies_after, Run, after, fresh, goes, next, IsOver, IsReached, Transition, replies-after, replies-same, follower-reached, has-cases, made-by, goes-length, test-first}
use Rattle.shm_outcomes.proofs.Adding.{at-index}
use Rattle.shm_outcomes.proofs.Equivalence.{successor-key}
use Rattle.shm_outcomes.proofs.Relevance.{GoSame, after-same, go-same, next-same, reply-same, same-group-key}

-- PLACES

pub stay-same : (keys : List Key) → StayThere keys keys
stay-same keys place key h = h

pub stay-trans : (a b c : List Key) → StayThere a b → StayThere b c → StayThere a c
stay-trans a b c h k place key there = k place key (h place key there)

stay-more : (keys : List Key) (key : Key) → StayThere keys (keys ++ key ∷ [])
stay-more keys key place x (lt, at) =
    let long = length-append keys (key ∷ []) in
    (omega (arith, long, lt), λ d. get_or_append_left keys (key ∷ []) d place lt ∙ at d)

pub at-last : {X : Type 0} → (xs : List X) (x : X) → IsAt (xs ++ x ∷ []) (length xs) x
at-last xs x = (let long = length-append xs (x ∷ []) in omega (arith, long), λ d. get_or_push xs x d (length xs) refl)

-- a thing is at one place only
pub at-once : (keys : List Key) → AllPairs AreOther keys → (i j : ℕ) (key : Key) → IsAt keys i key → IsAt keys j key → i ≡ j
at-once keys apart i j key left right =
    elim (cases_lt i j) [
      | inl below ↦ absurd (apart i j key below right.0 (left.1 key ∙ sym (right.1 key)))
      | inr above ↦
          elim (cases_lt j i) [
            | inl below ↦ absurd (apart j i key below left.0 (right.1 key ∙ sym (left.1 key)))
            | inr not ↦ omega (arith, above, not)
          ]
    ]

-- PUTTING

pub put-none : (script : ScriptView) (froms : List Node) (g : Groups) → ArePut script froms g g
put-none script froms g = record { stay = stay-same g.keys; keyed = λ h. h; apart = λ h. h; from = λ k d lt. inl (Contains-get_or g.all k d lt) }

pub put-trans : (script : ScriptView) (froms : List Node) (a b c : Groups) → ArePut script froms a b → ArePut script froms b c → ArePut script froms a c
put-trans script froms a b c h k =
    record {
      stay = stay-trans a.keys b.keys c.keys h.stay k.stay;
      keyed = λ m. k.keyed (h.keyed m);
      apart = λ m. k.apart (h.apart m);
      from = λ i d lt. (let x = slice_index_or c.all i d in elim (k.from i d lt) [
        | inl there ↦ All-contains (λ (y : Node). Contains a.all y ⊎ IsFrom script froms y) b.all x h.from there
        | inr new ↦ inr new
      ]);
    }

-- more groups may be those that one comes from
pub put-wider : (script : ScriptView) (bs : List Node) (b : Node) (a c : Groups) → Contains bs b → ArePut script (b ∷ []) a c → ArePut script bs a c
put-wider script bs b a c there h =
    record {
      stay = h.stay;
      keyed = h.keyed;
      apart = h.apart;
      from = λ i d lt. elim (h.from i d lt) [
        | inl old ↦ inl old
        | inr new ↦ inr (new.0, new.1, new.2, subst (Contains bs) (one-node b new.0 new.3) there, new.4, new.5)
      ];
    }
  where
    one-node : (b x : Node) → Contains (b ∷ []) x → b ≡ x
    one-node b x (zero, lt, at) = at
    one-node b x (suc i, lt, at) = absurd (omega (arith, lt))

-- one group was put, or was there
pub put-one : (script : ScriptView) (froms : List Node) (olds news : Groups) (b : Node) (place : ℕ) → IsFrom script froms b → IsPut script olds b place news → ArePut script froms olds news
put-one script froms olds news b place from (at, inl same) = rw same (put-none script froms olds)
put-one script froms olds news b place from (at, inr (unmet, is)) =
    let key = group_key_at script b in
    rw is
    (record {
      stay = stay-more olds.keys key;
      keyed = λ h. ap (λ (l : List Key). l ++ key ∷ []) h ∙ sym (map-append (group_key_at script) olds.all (b ∷ []));
      apart = λ h. all_pairs_push AreOther olds.keys key h (λ k d lt same. unmet (subst (Contains olds.keys) same (Contains-get_or olds.keys k d lt)));
      from = All-push (λ (x : Node). Contains olds.all x ⊎ IsFrom script froms x) olds.all b (λ k d lt. inl (Contains-get_or olds.all k d lt)) (inr from);
    })

-- what a list's images have at a place is the image of what the list has there
map-at : (script : ScriptView) (bs : List Node) (i : ℕ) (key : Key) → IsAt (map (group_key_at script) bs) i key
    → (b : Node) × (i < length bs) × (slice_index_or bs i b ≡ b) × (group_key_at script b ≡ key)
map-at script [] i key (lt, at) = absurd (omega (arith, lt))
map-at script (b ∷ bs) zero key (lt, at) = (b, omega arith, refl, at key)
map-at script (b ∷ bs) (suc i) key (lt, at) =
    let rest = map-at script bs i key (omega (arith, lt), at) in
    (rest.0, (let r = rest.1 in omega (arith, r)), rest.2, rest.3)

-- GROUPS OF ONE LEVEL

-- a run of a group with this many calls
pub record IsGroup (script : ScriptView) (machine : Machine) (n : ℕ) (b : Node) : Type 0 where
  pub reached : IsReached script (fresh machine) b.run
  pub long : length b.run.events ≡ n
  pub key : key_at b ≡ key_of script (fresh machine) b.run

pub record AreGroups (script : ScriptView) (machine : Machine) (n : ℕ) (g : Groups) : Type 0 where
  pub each : All (IsGroup script machine n) g.all
  pub keyed : g.keys ≡ map (group_key_at script) g.all
  pub apart : AllPairs AreOther g.keys

successor-group : (script : ScriptView) (machine : Machine) (n : ℕ) (b : Node) → IsGroup script machine n b → (pid : ℕ) (call : ProcessCall) → next script b.run pid ≡ Some call → IsGroup script machine (n + 1) (successor script b pid call)
successor-group script machine n b is pid call then =
    let follows : goes script pid b.run ≡ Some (after b.run pid call) = ap (option_map (after b.run pid)) then in
    record {
      reached = follower-reached script (fresh machine) b.run is.reached pid (after b.run pid call) follows;
      long = goes-length script pid b.run (after b.run pid call) follows ∙ ap (λ (k : ℕ). k + 1) is.long;
      key = successor-key script machine b is.reached is.key pid call;
    }

-- the groups to which those of a level go are those of the next one
pub next-groups : (script : ScriptView) (machine : Machine) (n : ℕ) (olds news : Groups) → AreGroups script machine n olds → ArePut script olds.all no_groups news → AreGroups script machine (n + 1) news
next-groups script machine n olds news all put =
    record {
      each = λ k d lt. by (slice_index_or news.all k d) (put.from k d lt);
      keyed = put.keyed refl;
      apart = put.apart (λ i j d ij none. absurd (omega (arith, none)));
    }
  where
    by : (b : Node) → Contains ([]) b ⊎ IsFrom script olds.all b → IsGroup script machine (n + 1) b
    by b (inl (i, lt, at)) = absurd (omega (arith, lt))
    by b (inr f) = subst (IsGroup script machine (n + 1)) (sym f.5) (successor-group script machine n f.0 (All-contains (IsGroup script machine n) olds.all f.0 all.each f.3) f.1 f.2 f.4)

-- TRANSITIONS, ONE AFTER ANOTHER

transition-stays : (script : ScriptView) (olds news : Groups) (b : Node) → StayThere olds.keys news.keys → (pid : ℕ) (t : Transition) → IsTransition script olds b pid t → IsTransition script news b pid t
transition-stays script olds news b stay pid t is = (is.0, is.1, is.2, stay t.group (group_key_at script (successor script b pid is.0)) is.3)

-- in later groups, and among more transitions
transitions-stay :
    (script : ScriptView) (olds news : Groups) (b : Node) (ps : List Process) (ts more : List Transition)
    → StayThere olds.keys news.keys → AreTransitions script olds b ps ts → All (λ (t : Transition). (pid : ℕ) × IsTransition script news b pid t) more → AreTransitions script news b ps (ts ++ more)
transitions-stay script olds news b ps ts more stay are each =
    record {
      each = All-append (λ (t : Transition). (pid : ℕ) × IsTransition script news b pid t) ts more
          (All-weaker (λ (t : Transition). (pid : ℕ) × IsTransition script olds b pid t) (λ (t : Transition). (pid : ℕ) × IsTransition script news b pid t) (λ t h. (h.0, transition-stays script olds news b stay h.0 t h.1)) ts are.each) each;
      all = All-weaker (Continues script olds b ts) (Continues script news b (ts ++ more)) by ps are.all;
    }
  where
    by : (p : Process) → Continues script olds b ts p → Continues script news b (ts ++ more) p
    by p (inl none) = inl none
    by p (inr (t, there, is)) = inr (t, Contains-append_left ts more t there, transition-stays script olds news b stay p.pid t is)

pub transitions-same : (script : ScriptView) (olds news : Groups) (b : Node) (ps : List Process) (ts : List Transition) → StayThere olds.keys news.keys → AreTransitions script olds b ps ts → AreTransitions script news b ps ts
transitions-same script olds news b ps ts stay are =
    subst (AreTransitions script news b ps) (append-nil ts) (transitions-stay script olds news b ps ts [] stay are (All-nil (λ (t : Transition). (pid : ℕ) × IsTransition script news b pid t)))

-- one more process
pub transitions-more :
    (script : ScriptView) (olds news : Groups) (b : Node) (ps : List Process) (ts more : List Transition) (i : ℕ) (d : Process)
    → i < length ps → StayThere olds.keys news.keys
    → AreTransitions script olds b (take i ps) ts → IsExtended script news b (slice_index_or ps i d).pid ts more → AreTransitions script news b (take (i + 1) ps) more
transitions-more script olds news b ps ts more i d lt stay are (inl (none, same)) =
    let all = transitions-same script olds news b (take i ps) ts stay are in
    rw same (record { each = all.each; all = All-more (Continues script news b ts) ps i d lt all.all (inl none) })
transitions-more script olds news b ps ts more i d lt stay are (inr (t, one, is)) =
    let each = All-cons (λ (x : Transition). (pid : ℕ) × IsTransition script news b pid x) t [] ((slice_index_or ps i d).pid, one) (All-nil (λ (x : Transition). (pid : ℕ) × IsTransition script news b pid x)) in
    let all = transitions-stay script olds news b (take i ps) ts (t ∷ []) stay are each in
    rw is (record { each = all.each; all = All-more (Continues script news b (ts ++ t ∷ [])) ps i d lt all.all (inr (t, Contains-push ts t, one)) })

pub all-transitions-more :
    (script : ScriptView) (olds news : Groups) (bs : List Node) (all : List (List Transition)) (i : ℕ) (b : Node) (o : List Transition)
    → i < length bs → slice_index_or bs i b ≡ b → StayThere olds.keys news.keys
    → AreAllTransitions script olds (take i bs) all → AreTransitions script news b script.processes o → AreAllTransitions script news (take (i + 1) bs) (all ++ o ∷ [])
all-transitions-more script olds news bs all i b o lt is stay are one =
    subst (λ (l : List Node). AreAllTransitions script news l (all ++ o ∷ [])) (sym (at-index bs i b lt is).0) (push (take i bs) are)
  where
    push : (cs : List Node) → AreAllTransitions script olds cs all → AreAllTransitions script news (cs ++ b ∷ []) (all ++ o ∷ [])
    push cs before = (
      (let e = before.0 in let l = length-append all (o ∷ []) in let m = length-append cs (b ∷ []) in omega (arith, e, l, m)),
      λ k c k-lt at.
          (let even = before.0 in
          let m = length-append cs (b ∷ []) in
          elim (cases_lt k (length cs)) [
            | inl below ↦
                subst (AreTransitions script news c script.processes) (sym (get_or_append_left all (o ∷ []) [] k (omega (arith, even, below))))
                (transitions-same script olds news c script.processes (slice_index_or all k []) stay (before.1 k c below (sym (get_or_append_left cs (b ∷ []) c k below) ∙ at)))
            | inr above ↦
                let last : k ≡ length cs = omega (arith, m, k-lt, above) in
                let same : b ≡ c = sym (get_or_push cs b c k (sym last)) ∙ at in
                subst (AreTransitions script news c script.processes) (sym (get_or_push all o [] k (omega (arith, even, last)))) (subst (λ (x : Node). AreTransitions script news x script.processes o) same one)
          ]),
    )

pub no-transitions : (script : ScriptView) (g : Groups) (b : Node) (ts : List Transition) → ts ≡ [] → AreTransitions script g b [] ts
no-transitions script g b ts none =
    subst (AreTransitions script g b []) (sym none) (record { each = All-nil (λ (t : Transition). (pid : ℕ) × IsTransition script g b pid t); all = All-nil (Continues script g b []) })

pub no-all-transitions : (script : ScriptView) (g : Groups) (all : List (List Transition)) → all ≡ [] → AreAllTransitions script g [] all
no-all-transitions script g all none = (ap (λ (l : List (List Transition)). length l) none, λ i b lt at. absurd (omega (arith, lt)))

pub one-from : (script : ScriptView) (b : Node) (pid : ℕ) (call : ProcessCall) (x : Node) → next script b.run pid ≡ Some call → x ≡ successor script b pid call → IsFrom script (b ∷ []) x
one-from script b pid call x then is = (b, pid, call, (0, omega arith, refl), then, is)

-- the transition by a process that makes this call next
pub transition-some : (script : ScriptView) (nexts : Groups) (b : Node) (pid : ℕ) (call : ProcessCall) (x : Node) (t : Transition) → next script b.run pid ≡ Some call → x ≡ successor script b pid call
    → t.event ≡ slice_index_or x.run.events (length b.run.events) t.event → IsAt nexts.keys t.group (group_key_at script x) → IsTransition script nexts b pid t
transition-some script nexts b pid call x t then is event at =
    let e = event_after b.run pid call in
    let last : t.event ≡ e = event ∙ ap (λ (y : Node). slice_index_or y.run.events (length b.run.events) t.event) is ∙ get_or_push b.run.events e t.event (length b.run.events) refl in
    (call, then, last, subst (λ (y : Node). IsAt nexts.keys t.group (group_key_at script y)) is at)

-- A RUN OF A GROUP

-- the run is of the state's group, and each process has the state's replies
pub record IsOne (script : ScriptView) (machine : Machine) (g : Groups) (x : State) (run : Run) : Type 0 where
  pub reached : IsReached script (fresh machine) run
  pub replies : x.replies ≡ outcome_of script run.events
  pub at : IsAt g.keys x.group (group_key_of script (fresh machine) run)

-- the run of its group, which has the same continuations
pub record HasGroup (script : ScriptView) (machine : Machine) (n : ℕ) (g : Groups) (x : State) (run : Run) : Type 0 where
  pub b : Node
  pub within : x.group < length g.all
  pub at : slice_index_or g.all x.group b ≡ b
  pub is : IsGroup script machine n b
  pub same : GoSame script machine run b.run

pub group-of : (script : ScriptView) (machine : Machine) (n : ℕ) (g : Groups) (x : State) (run : Run) → AreGroups script machine n g → IsOne script machine g x run → HasGroup script machine n g x run
group-of script machine n g x run all one =
    let there = map-at script g.all x.group (group_key_of script (fresh machine) run) (subst (λ (l : List Key). IsAt l x.group (group_key_of script (fresh machine) run)) all.keyed one.at) in
    let b = there.0 in
    let is : IsGroup script machine n b = All-contains (IsGroup script machine n) g.all b all.each (x.group, there.1, there.2) in
    record {
      b = b;
      within = there.1;
      at = there.2;
      is = is;
      same = go-same script machine run b.run one.reached is.reached (sym there.3 ∙ ap (relevant_key script) is.key);
    }

pub one-long : (script : ScriptView) (machine : Machine) (n : ℕ) (g : Groups) (x : State) (run : Run) → AreGroups script machine n g → IsOne script machine g x run → length run.events ≡ n
one-long script machine n g x run all one = (let h = group-of script machine n g x run all one in h.same.count ∙ h.is.long)

-- a declared process is there
has-there : (pid : ℕ) (ps : List Process) → has_pid pid ps ≡ true → (p : Process) × Contains ps p × (p.pid ≡ pid)
has-there pid [] has = absurd (cc)
has-there pid (p ∷ ps) has =
    elim (has-cases pid p ps has) [
      | inl same ↦ (p, (0, omega arith, refl), same)
      | inr more ↦ (let rest = has-there pid ps more in let c = rest.1 in (rest.0, (suc c.0, (let lt = c.1 in omega (arith, lt)), c.2), rest.2))
    ]

some-there : (ts : List Transition) → (ts ≡ [] → ⊥) → (t : Transition) × Contains ts t
some-there [] some = absurd (some refl)
some-there (t ∷ ts) some = (t, (0, omega arith, refl))

-- the state after a transition
abbrev pub moved : ScriptView → State → Transition → State
moved script x m = state m.group (replies_after script.processes m.event x.replies)

module _ (script : ScriptView) (machine : Machine) (n : ℕ) (olds nexts : Groups) (x : State) (run : Run) (all : AreGroups script machine n olds) (one : IsOne script machine olds x run) where
  own : HasGroup script machine n olds x run
  own = group-of script machine n olds x run all one

  -- the run after a call of the group is one of the group after it
  core : (pid : ℕ) (call : ProcessCall) (m : Transition) → next script run pid ≡ Some call → m.event ≡ event_after own.b.run pid call → IsAt nexts.keys m.group (group_key_at script (successor script own.b pid call)) → IsOne script machine nexts (moved script x m) (after run pid call)
  core pid call m there event at =
      let e = event_after run pid call in
      let f = event_after own.b.run pid call in
      let reply = reply-same script machine run own.b.run pid call own.same in
      let replies : replies_after script.processes m.event x.replies ≡ outcome_of script (run.events ++ e ∷ []) =
      ap (λ (v : Event). replies_after script.processes v x.replies) event
      ∙ replies-same script.processes f e refl (sym reply) x.replies
      ∙ ap (replies_after script.processes e) one.replies
      ∙ replies-after script.processes run.events e in
      let keys : group_key_at script (successor script own.b pid call) ≡ group_key_of script (fresh machine) (after run pid call) =
      ap (relevant_key script) (successor-key script machine own.b own.is.reached own.is.key pid call)
      ∙ sym (same-group-key script machine (after run pid call) (after own.b.run pid call) (after-same script machine run own.b.run pid call one.reached own.is.reached own.same)) in
      record {
        reached = follower-reached script (fresh machine) run one.reached pid (after run pid call) (ap (option_map (after run pid)) there);
        replies = replies;
        at = subst (IsAt nexts.keys m.group) keys at;
      }

  module _ (all-transitions : List (List Transition)) (are : AreAllTransitions script nexts olds.all all-transitions) where
    abbrev mine : List Transition
    mine = slice_index_or all-transitions x.group []

    own-transitions : AreTransitions script nexts own.b script.processes mine
    own-transitions = are.1 x.group own.b own.within own.at

    -- each transition leads to a run of the state after it
    pub goes-by-transition : (t : Transition) → Contains mine t → (r : Run) × (goes script t.event.pid run ≡ Some r) × IsOne script machine nexts (moved script x t) r
    goes-by-transition t there =
        let by = All-contains (λ (o : Transition). (pid : ℕ) × IsTransition script nexts own.b pid o) mine t own-transitions.each there in
        let pid = by.0 in
        let call = by.1.0 in
        let calls : next script run pid ≡ Some call = next-same script machine run own.b.run pid own.same ∙ by.1.1 in
        let follows : goes script pid run ≡ Some (after run pid call) = ap (option_map (after run pid)) calls in (
          after run pid call,
          subst (λ (q : ℕ). goes script q run ≡ Some (after run pid call)) (sym (ap (λ (e : Event). e.pid) by.1.2)) follows,
          core pid call t calls by.1.2 by.1.3,
        )

    abbrev Possible : ℕ → Type 0
    Possible q = (next script own.b.run q ≡ None) ⊎ ((t : Transition) × Contains mine t × IsTransition script nexts own.b q t)

    -- and there is one for each run that follows
    pub transitions-by-goes : (pid : ℕ) (r : Run) → goes script pid run ≡ Some r → (t : Transition) × Contains mine t × IsOne script machine nexts (moved script x t) r
    transitions-by-goes pid r follows =
        let made = made-by (next script run pid) run pid r follows in
        let declared : has_pid pid script.processes ≡ true = test-first (has_pid pid script.processes) _ _ made.0 made.1 in
        let p = has-there pid script.processes declared in
        let calls : next script own.b.run pid ≡ Some made.0 = sym (next-same script machine run own.b.run pid own.same) ∙ made.1 in
        elim (subst Possible p.2 (All-contains (Continues script nexts own.b mine) script.processes p.0 own-transitions.all p.1)) [
          | inl none ↦ absurd (none-some made.0 (sym none ∙ calls))
          | inr (t, there, is) ↦
              let same : is.0 ≡ made.0 = same_Some is.0 made.0 (sym is.1 ∙ calls) in (
                t,
                there,
                subst (IsOne script machine nexts (moved script x t)) (ap (after run pid) same ∙ made.2) (core pid is.0 t (made.1 ∙ ap (λ (c : ProcessCall). Some c) (sym same)) is.2 is.3),
              )
        ]

    -- a run is over if its group is
    pub over-all : mine ≡ [] → IsOver script run
    over-all none pid = by (goes script pid run) refl
      where
        by : (o : Option Run) → goes script pid run ≡ o → o ≡ None
        by None is = refl
        by (Some r) is = (let t = transitions-by-goes pid r is in let there = subst (λ (l : List Transition). Contains l t.0) none t.1 in absurd (omega (arith, there.1)))

    pub not-over : (mine ≡ [] → ⊥) → IsOver script run → ⊥
    not-over some over =
        let t = some-there mine some in
        let g = goes-by-transition t.0 t.1 in
        none-some g.0 (sym (over t.0.event.pid) ∙ g.1)
