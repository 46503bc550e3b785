-- The pages of the segments that are held.
use Rattle.shm_segments.proofs.Names.{◌≡◌, ◌≢◌, ℕ, ◌+◌, ◌*◌, ◌/◌, ◌≤◌, Bool, false, if◌then◌else◌, List, [], ◌∷◌, length, map, Some, refl, ◌∙◌, arith, ne_eqb, none-some, common_steps, length-replicate, sum_by-cons, sum_by, sum-inserted, All, Span, AreHeldApart, Held, held_id, find_held, is_held, held_pages, pages_if_locked, with_zeros, without, with_lock, pasted, written, FitsPage, find_held-id, apart-pasted, nat_tests, replicate, pages_in_store, locked_pages_in_store, lock_changed}
use Rattle.shm_segments.proofs.Bytes.{each, written-keeps}

-- ZEROS

abbrev zeros : ℕ → List ℕ
zeros n = replicate (4096 * n) 0

zeros-pages : (n : ℕ) → length (zeros n) / 4096 ≡ n
zeros-pages n = let size : length (zeros n) ≡ 4096 * n = length-replicate (4096 * n) 0 in omega (arith, size)

abbrev new-held : ℕ → ℕ → Held
new-held id n = record { id = id; locked = false; bytes = zeros n }

pub pages-zeros : (hs : List Held) (id n : ℕ) → pages_in_store (with_zeros hs id n) ≡ pages_in_store hs + n
pages-zeros hs id n = let sum = sum-inserted held_pages held_id (new-held id n) hs in omega (arith, sum, zeros-pages n)

pub locks-zeros : (hs : List Held) (id n : ℕ) → locked_pages_in_store (with_zeros hs id n) ≡ locked_pages_in_store hs
locks-zeros hs id n = let sum = sum-inserted pages_if_locked held_id (new-held id n) hs in omega (arith, sum)

-- ONE LESS

not-there : (hs : List Held) (id : ℕ) → is_held hs id ≡ false → without hs id ≡ hs
not-there [] id none = refl
not-there (h ∷ hs) id none = grind (arith, nat_tests, not-there hs id)

pub sum-without : (f : Held → ℕ) (hs : List Held) (id : ℕ) (g : Held) → AreHeldApart hs → find_held hs id ≡ Some g → sum_by f (without hs id) + f g ≡ sum_by f hs
sum-without f [] id g apart is = absurd (none-some g is)
sum-without f (h ∷ hs) id g apart is =
    grind (arith, nat_tests, apart.0, not-there hs id, sum-without f hs id g apart.1, sum_by-cons f h hs, sum_by-cons f h (without hs id))

-- ONE CHANGED

-- a change of the one segment with an identifier
abbrev Only : ℕ → (Held → Held) → Type 0
Only id c = (h : Held) → h.id ≢ id → c h ≡ h

away : (c : Held → Held) (hs : List Held) (id : ℕ) → Only id c → is_held hs id ≡ false → map c hs ≡ hs
away c [] id only none = refl
away c (h ∷ hs) id only none = grind (arith, nat_tests, only h, away c hs id only)

pub sum-changed : (f : Held → ℕ) (c : Held → Held) (hs : List Held) (id : ℕ) (g : Held) → Only id c → AreHeldApart hs → find_held hs id ≡ Some g → sum_by f (map c hs) + f g ≡ sum_by f hs + f (c g)
sum-changed f c [] id g only apart is = absurd (none-some g is)
sum-changed f c (h ∷ hs) id g only apart is = grind (arith, common_steps, apart.0, away, apart.1, sum_by-cons, sum-changed f c hs id g only apart.1)

only-lock : (id : ℕ) (b : Bool) → Only id (lock_changed id b)
only-lock id b h n = rw (ne_eqb h.id id n) refl

-- a lock
pub pages-lock : (hs : List Held) (id : ℕ) (b : Bool) → pages_in_store (with_lock hs id b) ≡ pages_in_store hs
pages-lock [] id b = refl
pages-lock (h ∷ hs) id b = grind (arith, nat_tests, pages-lock hs id b, sum_by-cons held_pages h hs, sum_by-cons held_pages (lock_changed id b h) (with_lock hs id b))

pub locks-lock : (hs : List Held) (id : ℕ) (b : Bool) (g : Held) → AreHeldApart hs → find_held hs id ≡ Some g → locked_pages_in_store (with_lock hs id b) + pages_if_locked g ≡ locked_pages_in_store hs + (if b then held_pages g else 0)
locks-lock hs id b g apart is = grind (arith, common_steps, sum-changed, only-lock, find_held-id)

-- BYTES REPLACED

pasted-sums : (hs : List Held) (p : Span) (new : List ℕ) → AreHeldApart hs → FitsPage hs p → length new ≤ p.len
    → (pages_in_store (map (pasted p.seg p.at new) hs) ≡ pages_in_store hs) × (locked_pages_in_store (map (pasted p.seg p.at new) hs) ≡ locked_pages_in_store hs)
pasted-sums hs p new apart fit few = grind (arith, common_steps, find_held, pages_in_store, sum-changed)

-- the counts after a store over spans
pub record SameSums (hs gs : List Held) : Type 0 where
  pub apart : AreHeldApart gs
  pub pages : pages_in_store gs ≡ pages_in_store hs
  pub locks : locked_pages_in_store gs ≡ locked_pages_in_store hs

pub sums-written : (hs : List Held) (ps : List Span) (new : List ℕ) → AreHeldApart hs → All (FitsPage hs) ps → SameSums hs (written hs ps new)
sums-written hs ps new apart fit = written-keeps (SameSums hs) one ps hs new (record { apart = apart; pages = refl; locks = refl }) (each (FitsPage hs) ps fit)
  where
    one : (gs : List Held) (p : Span) (bs : List ℕ) → SameSums hs gs → FitsPage gs p → length bs ≤ p.len → SameSums hs (map (pasted p.seg p.at bs) gs)
    one gs p bs same fits few =
        let sums = pasted-sums gs p bs same.apart fits few in
        record { apart = apart-pasted gs p.seg p.at bs same.apart; pages = sums.0 ∙ same.pages; locks = sums.1 ∙ same.locks }
