-- Of legal histories without failures there is one for each opening and calls.
use Rattle.shm_laws.proofs.Names.{◌≡◌, ℕ, ◌+◌, true, false, List, [], ◌∷◌, Option, refl, sym, ap, ◌∙◌, arith, common_steps, ProcessCall, Load, Bytes, Event, Machine, Opening, Caller, step_by, step, caller_of, is_refusal, is_failure, IsExcused, IsMove, LeadsFrom, IsHistory, calls_of, failures_in, clear_step, failures-cons, first_clear, rest_clear, undone, without_failures, IsReplayed}

-- THE STEP NAMES NO FAILURE

by-clear : (s : Machine) (n : ℕ) (call : ProcessCall) (o : Option Caller) → is_failure call (step_by s n call o).reply ≡ false
by-clear s n call o = grind (arith, common_steps)

step-clear : (s : Machine) (n pid : ℕ) (call : ProcessCall) → is_failure call (step s n pid call).reply ≡ false
step-clear s n pid call = by-clear s n call (caller_of s pid)

-- ONE MOVE

-- and a failure is excused
is-excused : (s : Machine) (n : ℕ) (e : Event) (t : Machine) → is_failure e.call e.reply ≡ true → IsMove s n e t → IsExcused s n e t
is-excused s n e t failed h2 = grind (arith, common_steps, step-clear)

-- a process that is not refused is live, and may ask for no byte
idle-by : (s : Machine) (n : ℕ) (call : ProcessCall) (o : Option Caller) → is_refusal (step_by s n call o).reply ≡ false → step_by s n (Load 0 0) o ≡ record { reply = Bytes []; state = s }
idle-by s n call o live = grind (arith, common_steps)

undone-move : (s : Machine) (n : ℕ) (e : Event) (t : Machine) → IsMove s n e t → IsMove s n (undone e) t
undone-move s n e t m = let idle = idle-by s n e.call (caller_of s e.pid) in let excused = is-excused s n e t in grind (arith, m)

undone-clear : (e : Event) → is_failure (undone e).call (undone e).reply ≡ false
undone-clear e = grind arith

-- WHOLE HISTORIES

all-clear : (es : List Event) → failures_in (without_failures es) ≡ 0
all-clear [] = refl
all-clear (e ∷ es) = let rest = all-clear es in failures-cons (undone e) (without_failures es) ∙ rw (undone-clear e) (omega (arith, rest))

none-undone : (es : List Event) → failures_in es ≡ 0 → without_failures es ≡ es
none-undone [] none = refl
none-undone (e ∷ es) none = rw (first_clear e es none) (ap (λ xs. e ∷ xs) (none-undone es (rest_clear e es none)))

leads-undone : (n : ℕ) (s : Machine) (es : List Event) (t : Machine) → LeadsFrom n s es t → LeadsFrom n s (without_failures es) t
leads-undone n s [] t h = h
leads-undone n s (e ∷ es) t h = (h.0, undone-move s n e h.0 h.1, leads-undone (n + 1) h.0 es t h.2)

abbrev Same : List Event → Machine → List Event → Machine → Type 0
Same es t fs u = (es ≡ fs) × (t ≡ u)

one-way : (n : ℕ) (s : Machine) (es fs : List Event) (t u : Machine) → LeadsFrom n s es t → LeadsFrom n s fs u
    → failures_in es ≡ 0 → failures_in fs ≡ 0 → calls_of es ≡ calls_of fs → Same es t fs u
one-way n s [] [] t u h k a b same = (refl, h ∙ sym k)
one-way n s [] (f ∷ fs) t u h k a b same = absurd (cc same)
one-way n s (e ∷ es) [] t u h k a b same = absurd (cc same)
one-way n s (e ∷ es) (f ∷ fs) t u h k a b same = grind (arith, common_steps, clear_step, first_clear, rest_clear, one-way (n + 1) h.0 es fs t u h.2)

-- every legal history is replayed
pub replayed : (o : Opening) (events : List Event) (end : Machine) → IsHistory o events end → IsReplayed o events end
replayed o events end h = grind (arith, common_steps, leads-undone, all-clear, none-undone, one-way)
