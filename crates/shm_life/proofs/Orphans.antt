-- Sweeping: destroying one orphan after another is the sweep of the whole table.
use Rattle.shm_life.proofs.Names.{◌≡◌, ℕ, zero, suc, ◌+◌, true, false, List, [], ◌∷◌, Some, None, refl, ap, arith, none-some, Segment, Entry, Runner, identifier, swept_at, swept_from, swept, is_orphan, orphan_in, orphan, OrphansAmong, nat_tests, slice_get, slice_set, Option}

swept_at-none : (i : ℕ) (rs : List Runner) (d : ℕ) (o : Option Segment) → is_orphan rs (identifier i d) o ≡ false → swept_at i rs d o ≡ record { destroyed = d; segment = o }
swept_at-none i rs d o h = grind (arith, nat_tests)

swept_at-left : (i : ℕ) (rs : List Runner) (d : ℕ) (o : Option Segment) → is_orphan rs (identifier i d) o ≡ true → swept_at i rs d o ≡ record { destroyed = d + 1; segment = None }
swept_at-left i rs d o h = grind (arith, nat_tests)

swept_from-none : (i : ℕ) (rs : List Runner) (es : List Entry) → ((k : ℕ) → orphan_in (i + k) rs (slice_get es k) ≡ false) → swept_from i rs es ≡ es
swept_from-none i rs [] h = refl
swept_from-none i rs (e ∷ es) h =
    let z : i + 0 ≡ i = omega arith in
    let here : is_orphan rs (identifier i e.destroyed) e.segment ≡ false = rw z at (h 0) in
    let rest : swept_from (i + 1) rs es ≡ es =
    swept_from-none (i + 1) rs es (λ k. let s : i + suc k ≡ (i + 1) + k = omega arith in rw s at (h (suc k))) in
    rw (swept_at-none i rs e.destroyed e.segment here, rest) refl

no-orphan : (rs : List Runner) (t : List Entry) → OrphansAmong [] rs t → (i : ℕ) → orphan rs t i ≡ false
no-orphan rs t none i = grind (arith, none i)

-- where there is none, a sweep changes nothing
pub swept-none : (rs : List Runner) (t : List Entry) → OrphansAmong [] rs t → swept rs t ≡ t
swept-none rs t none = swept_from-none 0 rs t (λ k. let z : 0 + k ≡ k = omega arith in rw z (no-orphan rs t none k))

swept_from-destroyed : (i : ℕ) (rs : List Runner) (es : List Entry) (k : ℕ) (x : Entry) → slice_get es k ≡ Some x → is_orphan rs (identifier (i + k) x.destroyed) x.segment ≡ true
    → swept_from i rs (slice_set es k (record { destroyed = x.destroyed + 1; segment = None })) ≡ swept_from i rs es
swept_from-destroyed i rs [] k x there left = absurd (none-some x there)
swept_from-destroyed i rs (e ∷ es) zero x there left =
    let is : e ≡ x = cc in
    let z : i + 0 ≡ i = omega arith in
    let gone : swept_at i rs x.destroyed x.segment ≡ record { destroyed = x.destroyed + 1; segment = None } = swept_at-left i rs x.destroyed x.segment (rw z at left) in
    rw (is, gone) refl
swept_from-destroyed i rs (e ∷ es) (suc k) x there left =
    let s : i + suc k ≡ (i + 1) + k = omega arith in
    ap (λ (r : List Entry). swept_at i rs e.destroyed e.segment ∷ r) (swept_from-destroyed (i + 1) rs es k x there (rw s at left))

-- an orphan that is destroyed already changes nothing of the sweep
pub swept-destroyed : (rs : List Runner) (t : List Entry) (k : ℕ) (x : Entry) → slice_get t k ≡ Some x → is_orphan rs (identifier k x.destroyed) x.segment ≡ true
    → swept rs (slice_set t k (record { destroyed = x.destroyed + 1; segment = None })) ≡ swept rs t
swept-destroyed rs t k x there left = swept_from-destroyed 0 rs t k x there (let z : 0 + k ≡ k = omega arith in rw z left)
