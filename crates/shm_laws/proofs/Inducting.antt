-- What each move keeps holds at all times, and of each move.
use Rattle.shm_laws.proofs.Names.{◌≡◌, ℕ, ◌+◌, List, [], ◌∷◌, ◌++◌, length, refl, sym, subst, arith, append_assoc, length-append, append-nil, Event, Machine, Opening, start_of, IsMove, LeadsFrom, IsHistory, history_more, MovesBy, MomentsBy, Since, Began, Lasted}

-- what holds of a machine is kept by each move, and with it a law holds of the move
abbrev pub Keeps : (Machine → Type 0) → (Machine → Event → Machine → Type 0) → Type 0
Keeps holds law = (s : Machine) (n : ℕ) (e : Event) (t : Machine) → holds s → IsMove s n e t → holds t × law s e t

pub each_move : (holds : Machine → Type 0) (law : Machine → Event → Machine → Type 0) → Keeps holds law
    → (n : ℕ) (s : Machine) (es : List Event) (t : Machine) → holds s → LeadsFrom n s es t → holds t × MovesBy law n s es t
each_move holds law step n s [] t now h = (subst holds (sym h) now, h)
each_move holds law step n s (e ∷ es) t now h =
    let one = step s n e h.0 now h.1 in
    let more = each_move holds law step (n + 1) h.0 es t one.0 h.2 in
    (more.0, (h.0, h.1, one.1, more.1))

-- what each move keeps from the machine before it to the one after it is kept from each moment to the end
pub each_moment : (holds : Machine → Type 0) (law : Machine → Machine → Type 0) → ((s : Machine) → law s s) → ((s u t : Machine) → law s u → law u t → law s t)
    → Keeps holds (λ s e t. law s t) → (n : ℕ) (s : Machine) (es : List Event) (t : Machine) → holds s → LeadsFrom n s es t → law s t × MomentsBy law n s es t
each_moment holds law same chain step n s [] t now h = let kept : law s t = subst (law s) (sym h) (same s) in (kept, (kept, h))
each_moment holds law same chain step n s (e ∷ es) t now h =
    let one = step s n e h.0 now h.1 in
    let more = each_moment holds law same chain step (n + 1) h.0 es t one.0 h.2 in
    let kept : law s t = chain s h.0 t one.1 more.0 in
    (kept, (kept, (h.0, h.1, more.1)))

-- what holds for a history and the machine at its end continues to hold
abbrev pub GoesOn : Opening → (List Event → Machine → Type 0) → Type 0
GoesOn o holds =
    (before : List Event) (s : Machine) (e : Event) (t : Machine) → IsHistory o before s → holds before s → IsMove s (length before + 1) e t → holds (before ++ e ∷ []) t

module _ (o : Opening) (holds : List Event → Machine → Type 0) (step : GoesOn o holds) where
  on : (before : List Event) (s : Machine) (es : List Event) (t : Machine) → IsHistory o before s → holds before s → LeadsFrom (length before + 1) s es t → holds (before ++ es) t
  on before s [] t h now l = subst (λ u. holds (before ++ []) u) (sym l) (subst (λ xs. holds xs s) (sym (append-nil before)) now)
  on before s (e ∷ es) t h now l =
      let longer : length before + 1 + 1 ≡ length (before ++ e ∷ []) + 1 = let sum = length-append before (e ∷ []) in omega (arith, sum) in
      let rest = subst (λ n. LeadsFrom n l.0 es t) longer l.2 in
      subst (λ xs. holds xs t) (append_assoc before (e ∷ []) es)
      (on (before ++ e ∷ []) l.0 es t (history_more o before e s l.0 h l.1) (step before s e l.0 h now l.1) rest)

  pub always : holds [] (start_of o) → (events : List Event) (end : Machine) → IsHistory o events end → holds events end
  always first events end h = on [] (start_of o) events end refl first h

-- weaker conditions follow from stronger ones
pub since-map : (o : Opening) (a b : Machine → Event → Type 0) (f g : Machine → Event → Type 0) → ((s : Machine) (e : Event) → a s e → b s e) → ((s : Machine) (e : Event) → f s e → g s e)
    → (before : List Event) → Since o a f before → Since o b g before
since-map o a b f g begins keeps _ (Began before s e h x) = Began before s e h (begins s e x)
since-map o a b f g begins keeps _ (Lasted before s e h x more) = Lasted before s e h (keeps s e x) (since-map o a b f g begins keeps before more)
