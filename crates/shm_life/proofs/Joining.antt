-- What is kept where processes join or leave.
use Rattle.shm_life.proofs.Names.{nat_tests, refl, ◌<◌, ◌≡◌, ℕ, ◌-◌, List, [], ◌∷◌, ◌++◌, length, get_or, Option, Some, None, sym, arith, subst, not, nat_le, slice_set, Result, Ok, Err, IfOk, OnErr, swap_remove, cond_both, All-cons, All-nil, All-append, All-take, Entry, Runner, runner_at_start, within, Standing, standing, joins, joins_beside, leaves, leaves_found, left_by, is_live, is_ended, LAST_PID, Process, AdmitRefusal, DismissRefusal, HostMemory, SpacesView, PieceFits, PiecesFit}
use Rattle.shm_life.proofs.Pieces.{RunnerFits, fit-set}

module _ (P : List Runner → Type 0) where
  -- A PROCESS JOINS

  abbrev Then : {E : Type 0} → List Runner → Result (List Runner) E → Type 0
  Then after r = r ≡ Ok after → P after

  -- an admitted process comes after the others, or again where it was
  by-joins : (most : ℕ) (p : Process) (rs after : List Runner) → joins most p rs ≡ Ok after
      → (standing p.pid rs ≡ None → length rs < most → P (rs ++ runner_at_start p ∷ []))
      → ((x : Standing) → standing p.pid rs ≡ Some x → P (slice_set rs x.index (runner_at_start p))) → P after
  by-joins most p rs after joined new again =
      cond_both (not (within 1 LAST_PID p.pid)) _ _ (Then after) (λ bad is. absurd (cc is)) (λ good. beside (standing p.pid rs) refl) joined
    where
      beside : (o : Option Standing) → standing p.pid rs ≡ o → Then after (joins_beside most p rs o)
      beside None none =
          cond_both (nat_le most (length rs)) _ _ (Then after) (λ full is. absurd (cc is))
          (λ room is. let same : rs ++ runner_at_start p ∷ [] ≡ after = cc is in subst P same (new none (grind (arith, nat_tests, room))))
      beside (Some x) there =
          cond_both (not (is_ended x.runner.life)) _ _ (Then after) (λ lives is. absurd (cc is))
          (λ ended is. let same : slice_set rs x.index (runner_at_start p) ≡ after = cc is in subst P same (again x there))

  pub by-admitted : (most : ℕ) (p : Process) (a b : SpacesView) (r : Result (Result (Unit {0}) AdmitRefusal) HostMemory)
      → IfOk r (λ x. joins most p a.runners ≡ left_by x b.runners) → IfOk r (λ x. OnErr x (b ≡ a)) → OnErr r (b ≡ a)
      → (standing p.pid a.runners ≡ None → length a.runners < most → P (a.runners ++ runner_at_start p ∷ []))
      → ((x : Standing) → standing p.pid a.runners ≡ Some x → P (slice_set a.runners x.index (runner_at_start p))) → P a.runners → P b.runners
  by-admitted most p a b (Ok (Ok done)) joined refused err new again h = by-joins most p a.runners b.runners joined new again
  by-admitted most p a b (Ok (Err e)) joined refused err new again h = subst (λ (v : SpacesView). P v.runners) (sym refused) h
  by-admitted most p a b (Err e) joined refused err new again h = subst (λ (v : SpacesView). P v.runners) (sym err) h

  -- A PROCESS LEAVES

  by-leaves : (pid : ℕ) (rs after : List Runner) → leaves pid rs ≡ Ok after → ((x : Standing) → standing pid rs ≡ Some x → P (swap_remove rs x.index x.runner)) → P after
  by-leaves pid rs after gone left = found (standing pid rs) refl gone
    where
      found : (o : Option Standing) → standing pid rs ≡ o → leaves_found rs o ≡ Ok after → P after
      found None none is = absurd (cc is)
      found (Some x) there is =
          cond_both (is_live x.runner.life) _ _ (Then after) (λ lives out. absurd (cc out))
          (λ ended out. let same : swap_remove rs x.index x.runner ≡ after = cc out in subst P same (left x there)) is

  pub by-dismissed : (pid : ℕ) (a b : SpacesView) (r : Result (Unit {0}) DismissRefusal) → leaves pid a.runners ≡ left_by r b.runners → OnErr r (b ≡ a)
      → ((x : Standing) → standing pid a.runners ≡ Some x → P (swap_remove a.runners x.index x.runner)) → P a.runners → P b.runners
  by-dismissed pid a b (Ok done) gone refused left h = by-leaves pid a.runners b.runners gone left
  by-dismissed pid a b (Err e) gone refused left h = subst (λ (v : SpacesView). P v.runners) (sym refused) h

-- THE PIECES FIT

pub fit-admitted : (t : List Entry) (most : ℕ) (p : Process) (a b : SpacesView) (r : Result (Result (Unit {0}) AdmitRefusal) HostMemory)
    → IfOk r (λ x. joins most p a.runners ≡ left_by x b.runners) → IfOk r (λ x. OnErr x (b ≡ a)) → OnErr r (b ≡ a) → PiecesFit t a.runners → PiecesFit t b.runners
fit-admitted t most p a b r joined refused err fit =
    by-admitted (PiecesFit t) most p a b r joined refused err
    (λ none room. All-append (RunnerFits t) a.runners (runner_at_start p ∷ []) fit (All-cons (RunnerFits t) (runner_at_start p) [] (All-nil (PieceFits t)) (All-nil (RunnerFits t))))
    (λ x there. fit-set t a.runners x.index (runner_at_start p) fit (All-nil (PieceFits t))) fit

fit-left : (t : List Entry) (rs : List Runner) (i : ℕ) (d : Runner) → PiecesFit t rs → PiecesFit t (swap_remove rs i d)
fit-left t [] i d fit = All-nil (RunnerFits t)
fit-left t (r ∷ rs) i d fit =
    let n = length (r ∷ rs) - 1 in
    let last = get_or (r ∷ rs) n d in
    All-take (RunnerFits t) n (slice_set (r ∷ rs) i last) (fit-set t (r ∷ rs) i last fit (fit n d (omega arith)))

pub fit-dismissed : (t : List Entry) (pid : ℕ) (a b : SpacesView) (r : Result (Unit {0}) DismissRefusal) → leaves pid a.runners ≡ left_by r b.runners → OnErr r (b ≡ a) → PiecesFit t a.runners → PiecesFit t b.runners
fit-dismissed t pid a b r gone refused fit = by-dismissed (PiecesFit t) pid a b r gone refused (λ x there. fit-left t a.runners x.index x.runner fit) fit
