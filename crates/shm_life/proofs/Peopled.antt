-- As many processes as there may be, no two with one pid: what calls and hosts keep of that.
use Rattle.shm_life.proofs.Names.{cases_eq, inl, inr, ◌≡◌, ◌≢◌, ℕ, zero, suc, ◌+◌, ◌-◌, ◌<◌, ◌≤◌, List, [], ◌∷◌, ◌++◌, length, get_or, set, map, Some, None, refl, sym, ap, ◌∙◌, arith, slice_get, slice_set, AllPairs, Result, IfOk, OnErr, swap_remove, get_or-set_at, slice_get_within, slice_get-get_or, Live, Runner, runner_at_start, Caller, unborn_from, standing, joins, leaves, left_by, Process, AdmitRefusal, DismissRefusal, HostMemory, SpacesView, Child, born_child, child_at, length-slice_set, AreProcesses, get_or-take, get_or-set_other, get_or_default, length-map, length-set, length-take, length_push}
use Rattle.std.proofs.lemmas.List.Quantifiers.{all_pairs_push}
use Rattle.std.proofs.lemmas.List.{get_or-map}
use Rattle.shm_attach.proofs.Joining.{absent-from, standing-there, there-found}
use Rattle.shm_attach.proofs.Processes.{first_runner}
use Rattle.shm_life.proofs.Joining.{by-admitted, by-dismissed}

abbrev pub Apart : Runner → Runner → Type 0
Apart p q = p.pid ≢ q.pid

-- ANOTHER PROCESS WITH THE SAME PID AT ITS PLACE

pid-set : (rs : List Runner) (i a : ℕ) (r old d : Runner) → slice_get rs i ≡ Some old → old.pid ≡ r.pid → (get_or (slice_set rs i r) a d).pid ≡ (get_or rs a d).pid
pid-set [] i a r old d there same = refl
pid-set (x ∷ xs) zero zero r old d there same = let is : x ≡ old = cc there in sym same ∙ ap (λ (p : Runner). p.pid) (sym is)
pid-set (x ∷ xs) zero (suc a) r old d there same = refl
pid-set (x ∷ xs) (suc i) zero r old d there same = refl
pid-set (x ∷ xs) (suc i) (suc a) r old d there same = pid-set xs i a r old d there same

pub set-apart : (most : ℕ) (rs : List Runner) (i : ℕ) (r old : Runner) → slice_get rs i ≡ Some old → old.pid ≡ r.pid → AreProcesses most rs → AreProcesses most (slice_set rs i r)
set-apart most rs i r old there same k =
    let size : length (slice_set rs i r) ≡ length rs = length-slice_set rs i r in
    record {
      few = omega (arith, size, k.few);
      apart = λ a b d lt l e. k.apart a b d lt (omega (arith, size, l)) (sym (pid-set rs i a r old d there same) ∙ e ∙ pid-set rs i b r old d there same);
    }

-- A PROCESS JOINS

behind : (most : ℕ) (p : Process) (rs : List Runner) → standing p.pid rs ≡ None → length rs < most → AreProcesses most rs → AreProcesses most (rs ++ runner_at_start p ∷ [])
behind most p rs new lt k = record { few = omega (arith, lt, length_push rs (runner_at_start p)); apart = all_pairs_push Apart rs (runner_at_start p) k.apart (λ a d l. absent-from 0 p.pid rs new a d l) }

pub admitted-apart : (most : ℕ) (p : Process) (a b : SpacesView) (r : Result (Result (Unit {0}) AdmitRefusal) HostMemory)
    → IfOk r (λ x. joins most p a.runners ≡ left_by x b.runners) → IfOk r (λ x. OnErr x (b ≡ a)) → OnErr r (b ≡ a) → AreProcesses most a.runners → AreProcesses most b.runners
admitted-apart most p a b r joined refused err k =
    by-admitted (AreProcesses most) most p a b r joined refused err (λ none room. behind most p a.runners none room k)
    (λ x is. let there = there-found p.pid a.runners x is in set-apart most a.runners x.index (runner_at_start p) x.runner there.there there.named k) k

-- A PROCESS LEAVES

far : (rs : List Runner) (a b : ℕ) (d : Runner) → AllPairs Apart rs → a ≢ b → a < length rs → b < length rs → (get_or rs a d).pid ≢ (get_or rs b d).pid
far rs a b d k other la lb = grind (arith, k)

-- the process at an index, after the last one took the index of another
record IsFrom (rs ss : List Runner) (i a : ℕ) (d : Runner) : Type 0 where
  from : ℕ
  within : from < length rs
  same : get_or ss a d ≡ get_or rs from d
  own : a ≢ i → from ≡ a
  last : a ≡ i → from + 1 ≡ length rs

module _ (rs : List Runner) (i : ℕ) (x : Runner) (there : i < length rs) where
  abbrev n : ℕ
  n = length rs - 1

  abbrev end : Runner
  end = get_or rs n x

  size : length (swap_remove rs i x) ≡ n
  size = length-take n (set rs i end) ∙ omega (arith, there, length-set rs i end)

  from-where : (a : ℕ) (d : Runner) → a < n → IsFrom rs (swap_remove rs i x) i a d
  from-where a d lt =
      let stays : get_or (swap_remove rs i x) a d ≡ get_or (set rs i end) a d = get_or-take n (set rs i end) a d lt in
      elim (cases_eq a i) [
        | inl is ↦
            let set_there : get_or (set rs i end) a d ≡ end = get_or-set_at rs i a end d is there in
            let any : end ≡ get_or rs n d = get_or_default rs n x d (omega (arith, there)) in
            record { from = n; within = omega (arith, there); same = stays ∙ set_there ∙ any; own = λ other. absurd (other is); last = λ _. omega (arith, there) }
        | inr other ↦
            record { from = a; within = omega (arith, lt); same = stays ∙ get_or-set_other rs i a end d other; own = λ _. refl; last = λ is. absurd (other is) }
      ]

  -- two indexes have the elements that were at two indexes before
  two : (a b : ℕ) (d : Runner) → a < b → b < n → (p : IsFrom rs (swap_remove rs i x) i a d) → (q : IsFrom rs (swap_remove rs i x) i b d) → p.from ≢ q.from
  two a b d lt l p q e = elim (cases_eq a i) [
    | inl is ↦
        let other : b ≢ i = λ h. absurd (omega (arith, lt, is, h)) in
        absurd (omega (arith, p.last is, q.own other, e, l, lt))
    | inr own ↦ elim (cases_eq b i) [
      | inl is ↦ absurd (omega (arith, p.own own, q.last is, e, l, lt))
      | inr other ↦ absurd (omega (arith, p.own own, q.own other, e, lt))
    ]
  ]

  left-apart : (most : ℕ) → AreProcesses most rs → AreProcesses most (swap_remove rs i x)
  left-apart most k =
      record {
        few = omega (arith, size, k.few, there);
        apart = λ a b d lt l e.
            let p = from-where a d (omega (arith, lt, l, size)) in
            let q = from-where b d (omega (arith, l, size)) in
            far rs p.from q.from d k.apart (two a b d lt (omega (arith, l, size)) p q) p.within q.within
            (sym (ap (λ (r : Runner). r.pid) p.same) ∙ e ∙ ap (λ (r : Runner). r.pid) q.same);
      }

pub dismissed-apart : (most pid : ℕ) (a b : SpacesView) (r : Result (Unit {0}) DismissRefusal) → leaves pid a.runners ≡ left_by r b.runners → OnErr r (b ≡ a) → AreProcesses most a.runners → AreProcesses most b.runners
dismissed-apart most pid a b r gone refused k =
    by-dismissed (AreProcesses most) pid a b r gone refused
    (λ x is. left-apart a.runners x.index x.runner (slice_get_within a.runners x.index x.runner (standing-there pid a.runners x is)) most k) k

-- A CHILD IS BORN

pub forked-apart : (most : ℕ) (rs : List Runner) (c : Caller) (child : Child) → unborn_from 0 child.pid rs ≡ Some child.index → AreProcesses most rs → AreProcesses most (born_child rs c child)
forked-apart most rs c child is k =
    let at = child_at child.pid child.index rs is in
    set-apart most rs child.index (record { pid = child.pid; life = Live c.cred; pieces = c.pieces }) (get_or rs child.index first_runner) (slice_get-get_or rs child.index first_runner at.within) at.named k

-- A MACHINE OPENS

pub fresh-apart : (most : ℕ) (ps : List Process) → length ps ≤ most → AllPairs (λ (p q : Process). p.pid ≢ q.pid) ps → AreProcesses most (map runner_at_start ps)
fresh-apart most ps few apart =
    let size : length (map runner_at_start ps) ≡ length ps = length-map ps runner_at_start in
    let none : Process = record { pid = 0; born = None } in
    record {
      few = omega (arith, size, few);
      apart = λ a b d lt l e.
          apart a b none lt (omega (arith, size, l))
          (sym (ap (λ (p : Runner). p.pid) (get_or-map runner_at_start ps a none d (omega (arith, size, lt, l)))) ∙ e ∙ ap (λ (p : Runner). p.pid) (get_or-map runner_at_start ps b none d (omega (arith, size, l))));
    }
