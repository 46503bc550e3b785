-- Where no start error holds, swap areas and processes are as their crates ask.
use Rattle.shm_life.proofs.Names.{◌≡◌, ◌≢◌, ℕ, zero, suc, ◌≤◌, ◌&&◌, Bool, true, false, not, if◌then◌else◌, List, [], ◌∷◌, length, get_or, replicate, Some, None, refl, sym, ap, arith, common_steps, All-nil, All-map, length-replicate, get_or-replicate, get_or_past, AllPairs-cons, All, AllPairs, Bounds, Runner, runner_at_start, PieceFits, IsTableSound, Process, PageRef, SideCalls, pager_seen, IsAreaSize, owner_of, sizes, new_swap, fresh, are_sizes, has_pid, are_pids, start_error, nat_tests, lockable, map, Option, true≢false, MOST_FRAMES, MOST_PROCESSES, MOST_SHMALL, MOST_SLOTS}
use Rattle.shm_life.proofs.Pieces.{all-cons}
use Rattle.shm_life.proofs.Peopled.{fresh-apart}

both : (a b : Bool) → a && b ≡ true → (a ≡ true) × (b ≡ true)
both a b e = grind arith

sound : {X : Type 0} (a b c d : Bool) (x y z w : X) → (if not a then Some x else if not b then Some y else if c then Some z else if not d then Some w else None) ≡ None
    → (a ≡ true) × (b ≡ true) × (c ≡ false) × (d ≡ true)
sound a b c d x y z w is = grind (arith, nat_tests)

all-sizes : {X : Type 0} (most : ℕ) (f : X → ℕ) (xs : List X) → most ≤ MOST_SLOTS → are_sizes most (map f xs) ≡ true → All (λ x. IsAreaSize (f x)) xs
all-sizes most f [] le is = All-nil (λ x. IsAreaSize (f x))
all-sizes most f (x ∷ xs) le is =
    let parts : IsAreaSize (f x) × (are_sizes most (map f xs) ≡ true) = grind (arith, nat_tests, common_steps, is) in
    all-cons (λ y. IsAreaSize (f y)) x xs parts.0 (all-sizes most f xs le parts.1)

not_there : (pid : ℕ) (ps : List Process) → has_pid pid ps ≡ false → All (λ (q : Process). pid ≢ q.pid) ps
not_there pid [] is = All-nil (λ (q : Process). pid ≢ q.pid)
not_there pid (p ∷ ps) is = grind (arith, common_steps)

pids-apart : (ps : List Process) → are_pids ps ≡ true → AllPairs (λ (p q : Process). p.pid ≢ q.pid) ps
pids-apart [] is = λ i j d lt l. absurd (omega (arith, l))
pids-apart (p ∷ ps) is =
    let parts : (has_pid p.pid ps ≡ false) × (are_pids ps ≡ true) = grind (arith, nat_tests, is) in
    AllPairs-cons (λ (x y : Process). x.pid ≢ y.pid) p ps (not_there p.pid ps parts.0) (pids-apart ps parts.1)

-- what a start without an error gives
pub record IsOpen {X : Type 0} (most : ℕ) (size : X → ℕ) (pagers : List X) (ps : List Process) : Type 0 where
  pub areas : (1 ≤ length pagers) × (length pagers ≤ 8)
  pub sizes : All (λ p. IsAreaSize (size p)) pagers
  pub few : length ps ≤ MOST_PROCESSES
  pub declared : length ps ≤ most
  pub apart : AllPairs (λ (p q : Process). p.pid ≢ q.pid) ps

pub is_open : {X : Type 0} (limits : Bounds) (size : X → ℕ) (pagers : List X) (ps : List Process) → limits.most_processes ≤ MOST_PROCESSES → limits.most_slots ≤ MOST_SLOTS
    → start_error limits (map size pagers) ps ≡ None → IsOpen limits.most_processes size pagers ps
is_open limits size pagers ps processes slots is = grind (arith, common_steps, pids-apart, all-sizes)

-- the areas, when they are passed in, have the pagers' sizes
pub sizes-new : {X : Type 0} (content : X → List (List ℕ)) (failed most : X → ℕ) (calls : X → List SideCalls) (pagers : List X)
    → sizes (new_swap (map (λ p. fresh (pager_seen content failed most calls p)) pagers)) ≡ map (λ n. Some n) (map (λ p. length (content p)) pagers)
sizes-new content failed most calls [] = refl
sizes-new content failed most calls (p ∷ ps) = ap (λ (l : List (Option ℕ)). Some (length (content p)) ∷ l) (sizes-new content failed most calls ps)

-- none of their slots is owned
abbrev nobody : Option PageRef
nobody = None

none-owned : (n slot : ℕ) → get_or (replicate n nobody) slot nobody ≡ nobody
none-owned n slot = grind (arith, get_or-replicate n slot nobody nobody, get_or_past (replicate n nobody) slot nobody, length-replicate n nobody)

pub owners-new : {X : Type 0} (content : X → List (List ℕ)) (failed most : X → ℕ) (calls : X → List SideCalls) (pagers : List X) (area slot : ℕ)
    → owner_of (new_swap (map (λ p. fresh (pager_seen content failed most calls p)) pagers)) area slot ≡ None
owners-new content failed most calls [] area slot = refl
owners-new content failed most calls (p ∷ ps) zero slot = none-owned (length (content p)) slot
owners-new content failed most calls (p ∷ ps) (suc area) slot = owners-new content failed most calls ps area slot

-- without segments and pieces nothing is owed
pub fresh-kept : (limits : Bounds) (ps : List Process) → limits.shmall ≤ MOST_SHMALL → lockable limits ≤ MOST_FRAMES → length ps ≤ limits.most_processes → AllPairs (λ (p q : Process). p.pid ≢ q.pid) ps → IsTableSound limits [] (map runner_at_start ps)
fresh-kept limits ps shmall memlock few apart =
    record {
      few = omega arith;
      reserved = omega arith;
      shmall = shmall;
      locked = omega arith;
      lockable = memlock;
      pieces = All-map (λ (r : Runner). All (PieceFits []) r.pieces) runner_at_start ps (λ k d lt. All-nil (PieceFits []));
      orphans = λ i h. absurd (true≢false (sym h));
      processes = fresh-apart limits.most_processes ps few apart;
    }
