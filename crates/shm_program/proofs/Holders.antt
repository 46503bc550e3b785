-- One process's variables among those of all.
use Rattle.shm_program.proofs.Names.{arith, ◌≡◌, ◌<◌, ◌+◌, ◌∙◌, sym, refl, ℕ, List, ◌∷◌, ◌++◌, Option, take, drop, length, get_or, set, add-one, drop-cons, take-append-drop, take-set, drop-set, nat_tests, HolderView, values_of, with_values}

set_split : (hs : List HolderView) (i : ℕ) (y : HolderView) → i < length hs → set hs i y ≡ take i hs ++ y ∷ drop (i + 1) hs
set_split hs i y within = sym (take-append-drop i (set hs i y)) ∙ rw (take-set hs i y, drop-set hs i y within) refl

left_at : (hs : List HolderView) (i : ℕ) (x : HolderView) → i < length hs → x ≡ get_or hs i x → drop i hs ≡ x ∷ drop (i + 1) hs
left_at hs i x within here = drop-cons hs i x within ∙ rw (← here, ← add-one) refl

pub values_at : (hs : List HolderView) (i : ℕ) (x : HolderView) (pid : ℕ) → i < length hs → x ≡ get_or hs i x → x.pid ≡ pid → values_of (drop i hs) pid ≡ x.values
values_at hs i x pid within here e = rw (left_at hs i x within here) (grind (arith, nat_tests))

pub set_at : (hs : List HolderView) (i : ℕ) (x : HolderView) (pid : ℕ) (values : List (Option ℕ)) → i < length hs → x ≡ get_or hs i x → x.pid ≡ pid → set hs i (record { pid = x.pid; values = values }) ≡ take i hs ++ with_values (drop i hs) pid values
set_at hs i x pid values within here e = set_split hs i _ within ∙ rw (left_at hs i x within here) (grind (arith, nat_tests))
