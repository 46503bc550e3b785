-- Declared pids, from the last one on.
use Rattle.shm_life.proofs.Names.{◌≡◌, ℕ, zero, suc, ◌+◌, ◌<◌, ◌==◌, true, false, List, [], ◌∷◌, length, drop, get_or, refl, ap, ◌∙◌, arith, nat_tests, within, Process, has_pid, are_pids, ◌||◌, drop_more, LAST_PID}

-- those from a place on, of which one is first
from : (ps : List Process) (i j : ℕ) (d : Process) → i < length ps → j ≡ i + 1 → drop i ps ≡ get_or ps i d ∷ drop j ps
from ps i j d lt next = rw next (drop_more ps i d lt)

left : (ps : List Process) (i : ℕ) → are_pids (drop i ps) ≡ false → are_pids ps ≡ false
left ps zero is = is
left [] (suc i) is = is
left (p ∷ ps) (suc i) is = let rest = left ps i is in grind (arith, nat_tests)

pub out_of_range : (ps : List Process) (i j : ℕ) (d : Process) → i < length ps → j ≡ i + 1 → within 1 LAST_PID (get_or ps i d).pid ≡ false → are_pids ps ≡ false
out_of_range ps i j d lt next is =
    let first : are_pids (get_or ps i d ∷ drop j ps) ≡ false = rw is refl in
    left ps i (ap are_pids (from ps i j d lt next) ∙ first)

pub twice : (ps : List Process) (i j : ℕ) (d : Process) → i < length ps → j ≡ i + 1 → has_pid (get_or ps i d).pid (drop j ps) ≡ true → are_pids ps ≡ false
twice ps i j d lt next is =
    let first : are_pids (get_or ps i d ∷ drop j ps) ≡ false = grind (arith, nat_tests, is) in
    left ps i (ap are_pids (from ps i j d lt next) ∙ first)

pub one_more : (ps : List Process) (i j : ℕ) (d : Process) → i < length ps → j ≡ i + 1 → within 1 LAST_PID (get_or ps i d).pid ≡ true → has_pid (get_or ps i d).pid (drop j ps) ≡ false → are_pids (drop j ps) ≡ true
    → are_pids (drop i ps) ≡ true
one_more ps i j d lt next ranges apart sound =
    let first : are_pids (get_or ps i d ∷ drop j ps) ≡ true = grind (arith, nat_tests, ranges, apart, sound) in
    ap are_pids (from ps i j d lt next) ∙ first

pub has_more : (ps : List Process) (i j : ℕ) (d : Process) (q : ℕ) → i < length ps → j ≡ i + 1 → has_pid q (drop i ps) ≡ ((get_or ps i d).pid == q || has_pid q (drop j ps))
has_more ps i j d q lt next = ap (has_pid q) (from ps i j d lt next) ∙ grind (arith, nat_tests)
