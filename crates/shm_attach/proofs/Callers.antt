-- The process that a pid names, and changes of its pieces as the flat machine sees them.
use Rattle.shm_attach.proofs.Names.{is_live, true, keys_of, ◌≡◌, ◌≢◌, ◌⊎◌, inl, inr, ℕ, zero, suc, ◌+◌, ◌<◌, ◌≤◌, false, nat_eq, ◌==◌, if◌then◌else◌, List, [], ◌∷◌, length, get_or, Option, Some, None, slice_get, refl, ap, sym, ◌∙◌, arith, eq-eqb, ne_eqb, length-set, common_steps, position, position_or_len, cases_eq, cases_lt, lt-ltb, eqb-true, eqb-false, length-map, set-set, get_or-map, position-Some, fails_before_first, none-some, slice_get_within, get_or_from_slice_get, gets, Cred, caller_by, caller_from, is_unborn, unborn_from, with_pieces, with_end, bare_all, Ended, life_view, runner_view, runners_view, with_own, with_pieces_at, with_life_at, pieces_at, life_at, caller_seen, IsCaller, FlatCaller, Life, Live, Runner, slice_set, Caller, Unborn, IsDistinct}
use Rattle.shm_base.specs.State as flat
use Rattle.shm_attach.proofs.Keeping.{with_pieces_at-same}
pub use Rattle.shm_attach.proofs.Processes.{first_runner}
use Rattle.std.proofs.lemmas.Map.Keys.{apart_from_distinct}

-- the value beyond the end of a list of entries
abbrev pub nobody : ℕ × Runner
nobody = (0, record { life = Ended; space = record { pieces = []; most = 0 } })

-- A FACT ABOUT THE FIRST PROCESS WITH A PID

abbrev pub first : {X : Type 0} → (ℕ → flat.Runner → Option X) → ℕ → ℕ → List flat.Runner → Option X
first f n pid [] = None
first f n pid (r ∷ rs) = if r.pid == pid then f n r else first f (n + 1) pid rs

abbrev pub as_caller : ℕ → ℕ → flat.Runner → Option FlatCaller
as_caller pid i r = caller_by i pid r.pieces r.life

abbrev as_child : ℕ → flat.Runner → Option ℕ
as_child i r = if is_unborn r.life then Some i else None

pub caller_from-first : (n pid : ℕ) (rs : List flat.Runner) → caller_from n pid rs ≡ first (as_caller pid) n pid rs
caller_from-first n pid [] = refl
caller_from-first n pid (r ∷ rs) = ap (λ o. if r.pid == pid then caller_by n pid r.pieces r.life else o) (caller_from-first (n + 1) pid rs)

unborn_from-first : (n pid : ℕ) (rs : List flat.Runner) → unborn_from n pid rs ≡ first as_child n pid rs
unborn_from-first n pid [] = refl
unborn_from-first n pid (r ∷ rs) = ap (λ o. if r.pid == pid then as_child n r else o) (unborn_from-first (n + 1) pid rs)

first-found : {X : Type 0} (f : ℕ → flat.Runner → Option X) (n pid i : ℕ) (es : List (ℕ × Runner)) → i < length es → (get_or es i nobody).0 ≡ pid
    → ((k : ℕ) → k < i → (get_or es k nobody).0 ≢ pid) → first f n pid (runners_view es) ≡ f (n + i) (runner_view (get_or es i nobody))
first-found f n pid i [] lt own others = absurd (omega arith)
first-found f n pid zero (e ∷ es) lt own others = grind (arith, common_steps)
first-found f n pid (suc i) (e ∷ es) lt own others =
    let next : n + suc i ≡ (n + 1) + i = omega arith in
    rw (ne_eqb e.0 pid (others 0 (omega arith)), next) (first-found f (n + 1) pid i es (omega arith) own (λ k l. others (suc k) (omega arith)))

pub first-none : {X : Type 0} (f : ℕ → flat.Runner → Option X) (n pid : ℕ) (es : List (ℕ × Runner)) → ((k : ℕ) → k < length es → (get_or es k nobody).0 ≢ pid)
    → first f n pid (runners_view es) ≡ None
first-none f n pid [] others = refl
first-none f n pid (e ∷ es) others = rw (ne_eqb e.0 pid (others 0 (omega arith))) (first-none f (n + 1) pid es (λ k l. others (suc k) (omega arith)))

-- that process, and the fact about it. Another with its pid at its place is the first then
pub record IsFirstOf {X : Type 0} (f : ℕ → flat.Runner → Option X) (n pid : ℕ) (rs : List flat.Runner) (x : X) : Type 0 where
  pub place : ℕ
  pub runner : flat.Runner
  pub there : slice_get rs place ≡ Some runner
  pub named : runner.pid ≡ pid
  pub said : f (n + place) runner ≡ Some x
  pub set : (new : flat.Runner) → new.pid ≡ pid → first f n pid (slice_set rs place new) ≡ f (n + place) new

pub first-there : {X : Type 0} (f : ℕ → flat.Runner → Option X) (n pid : ℕ) (rs : List flat.Runner) (x : X) → first f n pid rs ≡ Some x → IsFirstOf f n pid rs x
first-there f n pid [] x found = absurd (none-some x found)
first-there f n pid (r ∷ rs) x found =
    elim (cases_eq r.pid pid) [
      | inl same ↦
          let here : n + 0 ≡ n = omega arith in
          record { place = 0; runner = r; there = refl; named = same; said = rw here (rw (eq-eqb r.pid pid same) at found); set = λ new own. rw (eq-eqb new.pid pid own, here) refl }
      | inr other ↦
          let t = first-there f (n + 1) pid rs x (rw (ne_eqb r.pid pid other) at found) in
          let next : n + suc t.place ≡ (n + 1) + t.place = omega arith in
          record { place = suc t.place; runner = t.runner; there = t.there; named = t.named; said = rw next t.said; set = λ new own. rw (ne_eqb r.pid pid other, next) (t.set new own) }
    ]

-- no other process of its pid is found where one with another pid changes
pub first-apart : {X : Type 0} (f : ℕ → flat.Runner → Option X) (n pid i : ℕ) (rs : List flat.Runner) (old new : flat.Runner) → slice_get rs i ≡ Some old → old.pid ≢ pid → new.pid ≢ pid
    → first f n pid (slice_set rs i new) ≡ first f n pid rs
first-apart f n pid i [] old new there a b = refl
first-apart f n pid zero (r ∷ rs) old new there a b =
    let same : r ≡ old = cc there in
    rw (ne_eqb new.pid pid b, ne_eqb r.pid pid (λ e. a (ap (λ (y : flat.Runner). y.pid) (sym same) ∙ e))) refl
first-apart f n pid (suc i) (r ∷ rs) old new there a b = ap (λ o. if r.pid == pid then f n r else o) (first-apart f (n + 1) pid i rs old new there a b)

-- THE INDEX THAT A LOOKUP GIVES

key-at : (es : List (ℕ × Runner)) (k : ℕ) → k < length es → get_or (keys_of es) k 0 ≡ (get_or es k nobody).0
key-at es k l = grind (arith, common_steps, get_or-map)

-- the index that a lookup by pid gives
record IsFirst (pid i : ℕ) (es : List (ℕ × Runner)) : Type 0 where
  within : i < length es
  own : (get_or es i nobody).0 ≡ pid
  others : (k : ℕ) → k < i → (get_or es k nobody).0 ≢ pid

first_place : (pid i : ℕ) (es : List (ℕ × Runner)) (e : ℕ × Runner) → position (nat_eq pid) (keys_of es) ≡ Some i → slice_get es i ≡ Some e → IsFirst pid i es
first_place pid i es e found at =
    let p = position-Some (nat_eq pid) (keys_of es) i 0 found in
    let lt : i < length es = slice_get_within es i e at in
    record {
      within = lt;
      own = sym (eqb-true pid (get_or es i nobody).0 (rw (← key-at es i lt) p.1));
      others = λ k l same. eqb-false pid (get_or es k nobody).0 (rw (← key-at es k (omega arith)) (p.2 k l)) (sym same);
    }

pub no_place : (pid : ℕ) (es : List (ℕ × Runner)) → None ≡ position (nat_eq pid) (keys_of es) → (k : ℕ) → k < length es → (get_or es k nobody).0 ≢ pid
no_place pid es none = by (cases_lt (position_or_len (nat_eq pid) (keys_of es)) (length (keys_of es)))
  where
    by : (position_or_len (nat_eq pid) (keys_of es) < length (keys_of es)) ⊎ (length (keys_of es) ≤ position_or_len (nat_eq pid) (keys_of es))
        → (k : ℕ) → k < length es → (get_or es k nobody).0 ≢ pid
    by (inl lt) = absurd (none-some (position_or_len (nat_eq pid) (keys_of es)) (rw (lt-ltb _ _ lt) at none))
    by (inr le) = λ k l same.
        eqb-false pid (get_or es k nobody).0
        (rw (← key-at es k l) (fails_before_first (nat_eq pid) (keys_of es) k 0 (omega (arith, le, length-map es (λ (e : ℕ × Runner). e.0)))))
        (sym same)

-- each pid occurs once, so a process is the first with its own
own_place : (i : ℕ) (es : List (ℕ × Runner)) (e : ℕ × Runner) → IsDistinct nat_eq (keys_of es) → slice_get es i ≡ Some e → IsFirst e.0 i es
own_place i es e distinct at =
    let lt : i < length es = slice_get_within es i e at in
    let own : (get_or es i nobody).0 ≡ e.0 = ap (λ (x : ℕ × Runner). x.0) (get_or_from_slice_get es i e nobody at) in
    let within : i < length (keys_of es) = omega (arith, lt, length-map es (λ (x : ℕ × Runner). x.0)) in
    record {
      within = lt;
      own = own;
      others = λ k l same.
          eqb-false (get_or es k nobody).0 (get_or es i nobody).0
          (rw (← key-at es k (omega (arith, l, lt)), ← key-at es i lt) (apart_from_distinct nat_eq (keys_of es) k i 0 distinct l within))
          (same ∙ sym own);
    }

first-at : {X : Type 0} (f : ℕ → flat.Runner → Option X) (pid i : ℕ) (es : List (ℕ × Runner)) (e : ℕ × Runner) → IsFirst pid i es → slice_get es i ≡ Some e → first f 0 pid (runners_view es) ≡ f i (runner_view e)
first-at f pid i es e p at =
    let is : get_or es i nobody ≡ e = get_or_from_slice_get es i e nobody at in
    grind (arith, common_steps, first-found)

pub first-position : {X : Type 0} (f : ℕ → flat.Runner → Option X) (pid i : ℕ) (es : List (ℕ × Runner)) (e : ℕ × Runner) → position (nat_eq pid) (keys_of es) ≡ Some i
    → slice_get es i ≡ Some e → first f 0 pid (runners_view es) ≡ f i (runner_view e)
first-position f pid i es e found at = first-at f pid i es e (first_place pid i es e found at) at

pub caller_from-own : (i : ℕ) (es : List (ℕ × Runner)) (e : ℕ × Runner) → IsDistinct nat_eq (keys_of es) → slice_get es i ≡ Some e
    → caller_from 0 e.0 (runners_view es) ≡ caller_by i e.0 (bare_all e.1.space.pieces) (life_view e.1.life)
caller_from-own i es e distinct at = caller_from-first 0 e.0 (runners_view es) ∙ first-at (as_caller e.0) e.0 i es e (own_place i es e distinct at) at

pub caller_from-position : (pid i : ℕ) (es : List (ℕ × Runner)) (e : ℕ × Runner) → position (nat_eq pid) (keys_of es) ≡ Some i → slice_get es i ≡ Some e
    → caller_from 0 pid (runners_view es) ≡ caller_by i pid (bare_all e.1.space.pieces) (life_view e.1.life)
caller_from-position pid i es e found at = caller_from-first 0 pid (runners_view es) ∙ first-position (as_caller pid) pid i es e found at

pub caller_from-absent : (pid : ℕ) (es : List (ℕ × Runner)) → None ≡ position (nat_eq pid) (keys_of es) → caller_from 0 pid (runners_view es) ≡ None
caller_from-absent pid es none = caller_from-first 0 pid (runners_view es) ∙ first-none (as_caller pid) 0 pid es (no_place pid es none)

pub unborn_from-position : (pid i : ℕ) (es : List (ℕ × Runner)) (e : ℕ × Runner) → position (nat_eq pid) (keys_of es) ≡ Some i → slice_get es i ≡ Some e
    → unborn_from 0 pid (runners_view es) ≡ (if is_unborn (life_view e.1.life) then Some i else None)
unborn_from-position pid i es e found at = unborn_from-first 0 pid (runners_view es) ∙ first-position as_child pid i es e found at

pub unborn_from-absent : (pid : ℕ) (es : List (ℕ × Runner)) → None ≡ position (nat_eq pid) (keys_of es) → unborn_from 0 pid (runners_view es) ≡ None
unborn_from-absent pid es none = unborn_from-first 0 pid (runners_view es) ∙ first-none as_child 0 pid es (no_place pid es none)

-- WHAT A CALLER IS

record IsLive (i own : ℕ) (ps : List flat.Piece) (l : flat.Life) (k : FlatCaller) : Type 0 where
  at : i ≡ k.index
  pid : k.pid ≡ own
  life : l ≡ flat.Live k.cred
  pieces : ps ≡ k.pieces

live_is : (i pid : ℕ) (ps : List flat.Piece) (l : flat.Life) (k : FlatCaller) → caller_by i pid ps l ≡ Some k → IsLive i pid ps l k
live_is i pid ps l k said = record { at = grind arith; pid = grind arith; life = grind arith; pieces = grind arith }

-- a caller is a live process, and has its pieces
pub record CallerAt (pid : ℕ) (rs : List flat.Runner) (k : FlatCaller) : Type 0 where
  pub own : k.pid ≡ pid
  pub there : slice_get rs k.index ≡ Some (record { pid = pid; life = flat.Live k.cred; pieces = k.pieces })

found_at : (pid : ℕ) (rs : List flat.Runner) (k : FlatCaller) → caller_from 0 pid rs ≡ Some k → IsFirstOf (as_caller pid) 0 pid rs k
found_at pid rs k is = first-there (as_caller pid) 0 pid rs k (sym (caller_from-first 0 pid rs) ∙ is)

pub caller-at : (pid : ℕ) (rs : List flat.Runner) (k : FlatCaller) → caller_from 0 pid rs ≡ Some k → CallerAt pid rs k
caller-at pid rs k is =
    let t = found_at pid rs k is in
    let l = live_is (0 + t.place) pid t.runner.pieces t.runner.life k t.said in
    let at : t.place ≡ k.index = omega (arith, l.at) in
    let same : t.runner ≡ record { pid = pid; life = flat.Live k.cred; pieces = k.pieces } = grind (arith, t.named, l.life, l.pieces) in
    record { own = l.pid; there = rw at at (t.there ∙ ap (λ r. Some r) same) }

-- with other credentials or pieces it is the same caller
pub caller-set : (pid : ℕ) (rs : List flat.Runner) (k : FlatCaller) (cred : Cred) (ps : List flat.Piece) → caller_from 0 pid rs ≡ Some k
    → caller_from 0 pid (slice_set rs k.index (record { pid = k.pid; life = flat.Live cred; pieces = ps })) ≡ Some (record { index = k.index; pid = k.pid; cred = cred; pieces = ps })
caller-set pid rs k cred ps is =
    let t = found_at pid rs k is in
    let l = live_is (0 + t.place) pid t.runner.pieces t.runner.life k t.said in
    let at : t.place ≡ k.index = omega (arith, l.at) in
    let new : flat.Runner = record { pid = k.pid; life = flat.Live cred; pieces = ps } in
    caller_from-first 0 pid (slice_set rs k.index new)
    ∙ ap (λ i. first (as_caller pid) 0 pid (slice_set rs i new)) (sym at)
    ∙ t.set new l.pid
    ∙ ap (λ i. as_caller pid i new) l.at
    ∙ ap (λ own. Some (record { index = k.index; pid = own; cred = cred; pieces = ps })) (sym l.pid)

-- the process of a caller
pub caller_there : (c : Caller) (rs : List flat.Runner) → IsCaller c rs → slice_get rs c.index ≡ Some (record { pid = c.pid; life = flat.Live c.cred; pieces = pieces_at rs c.index })
caller_there c rs is = (caller-at c.pid rs (caller_seen c rs) is).there

-- its pieces are changed as the flat machine changes them
pub with_pieces-at : (c : Caller) (rs : List flat.Runner) (f : List flat.Piece → List flat.Piece) → IsCaller c rs → with_pieces rs (caller_seen c rs) (f (pieces_at rs c.index)) ≡ with_pieces_at rs c.index f
with_pieces-at c rs f is = sym (ap (with_own rs c.index f) (caller_there c rs is))

-- the same for the processes that are shown
pub with_pieces-of : (c : Caller) (rs shown : List flat.Runner) (f : List flat.Piece → List flat.Piece) → rs ≡ shown → IsCaller c shown
    → with_pieces_at rs c.index f ≡ with_pieces shown (caller_seen c shown) (f (pieces_at shown c.index))
with_pieces-of c rs shown f same is = ap (λ (xs : List flat.Runner). with_pieces_at xs c.index f) same ∙ sym (with_pieces-at c shown f is)

-- it has these pieces now
pub with_pieces_now : (c : Caller) (rs shown : List flat.Runner) (ps : List flat.Piece) → rs ≡ shown → IsCaller c shown
    → with_pieces_at rs c.index (λ (_ : List flat.Piece). ps) ≡ with_pieces shown (caller_seen c shown) ps
with_pieces_now c rs shown ps same is = with_pieces-of c rs shown (λ (_ : List flat.Piece). ps) same is

-- it has the pieces that it had
pub with_pieces_own : (c : Caller) (rs : List flat.Runner) → IsCaller c rs → rs ≡ with_pieces rs (caller_seen c rs) (pieces_at rs c.index)
with_pieces_own c rs is =
    with_pieces_at-same rs c.index (λ ps. ps) (slice_get_within rs c.index _ (caller_there c rs is)) refl ∙ sym (with_pieces-at c rs (λ ps. ps) is)

pub not_live : (i pid : ℕ) (ps : List flat.Piece) (l : Life) → ((cred : Cred) → l ≡ Live cred → ⊥) → caller_by i pid ps (life_view l) ≡ None
not_live i pid ps l never = grind arith

pub caller_within : (c : Caller) (es : List (ℕ × Runner)) → IsCaller c (runners_view es) → c.index < length es
caller_within c es is = let within = slice_get_within (runners_view es) c.index _ (caller_there c (runners_view es) is) in omega (arith, within, length-map es runner_view)

-- the caller has ended, after its pieces are gone
pub with_end-at : (c : Caller) (rs : List flat.Runner) → IsCaller c rs → with_life_at (with_pieces rs (caller_seen c rs) []) c.index flat.Ended ≡ with_end rs (caller_seen c rs)
with_end-at c rs is = let there = caller_there c rs is in grind (arith, common_steps, gets, set-set)

-- its index is still that of a process
pub length-with_pieces : (c : Caller) (rs : List flat.Runner) (ps : List flat.Piece) → length (with_pieces rs (caller_seen c rs) ps) ≡ length rs
length-with_pieces c rs ps = length-set rs c.index (record { pid = c.pid; life = flat.Live c.cred; pieces = ps })

pub pieces_at-left : (c : Caller) (rs : List flat.Runner) (ps : List flat.Piece) → IsCaller c rs → pieces_at (with_pieces rs (caller_seen c rs) ps) c.index ≡ ps
pieces_at-left c rs ps is = let within = slice_get_within rs c.index _ (caller_there c rs is) in grind (arith, common_steps, gets)

-- it was born
pub caller_born : (c : Caller) (rs : List flat.Runner) → IsCaller c rs → life_at rs c.index ≢ flat.Unborn
caller_born c rs is none = let live = caller_there c rs is in absurd (grind arith)

pub caller_lives : (c : Caller) (rs : List flat.Runner) → IsCaller c rs → is_live (life_at rs c.index) ≡ true
caller_lives c rs is = let live = caller_there c rs is in grind arith

-- A CHILD THAT IS NOT BORN

pub not_unborn : (l : Life) → (l ≡ Unborn → ⊥) → is_unborn (life_view l) ≡ false
not_unborn l never = grind arith

record IsAsleep (i j : ℕ) (l : flat.Life) : Type 0 where
  at : i ≡ j
  life : l ≡ flat.Unborn

asleep_is : (i j : ℕ) (l : flat.Life) → (if is_unborn l then Some i else None) ≡ Some j → IsAsleep i j l
asleep_is i j l said = record { at = grind arith; life = grind arith }

-- the child is at the index that was found
pub record ChildAt (pid j : ℕ) (rs : List flat.Runner) : Type 0 where
  pub within : j < length rs
  pub named : (get_or rs j first_runner).pid ≡ pid
  pub unborn : life_at rs j ≡ flat.Unborn

pub child_at : (pid j : ℕ) (rs : List flat.Runner) → unborn_from 0 pid rs ≡ Some j → ChildAt pid j rs
child_at pid j rs found =
    let t = first-there as_child 0 pid rs j (sym (unborn_from-first 0 pid rs) ∙ found) in
    let a = asleep_is (0 + t.place) j t.runner.life t.said in
    let at : t.place ≡ j = omega (arith, a.at) in
    let there : slice_get rs j ≡ Some t.runner = rw at at t.there in
    record {
      within = slice_get_within rs j t.runner there;
      named = ap (λ (r : flat.Runner). r.pid) (get_or_from_slice_get rs j t.runner first_runner there) ∙ t.named;
      unborn = grind (arith, there, a.life);
    }
