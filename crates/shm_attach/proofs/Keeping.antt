-- The counts stay exact, and no process gets too many pieces.
use Rattle.shm_attach.proofs.Names.{is_live, ◌≡◌, ◌≢◌, ℕ, zero, suc, ◌+◌, ◌*◌, ◌<◌, ◌≤◌, false, ◌==◌, List, [], ◌∷◌, ◌++◌, length, get_or, set, take, refl, ap, sym, ◌∙◌, arith, length-take, common_steps, cases_eq, slice_get-get_or, gets, set-set, set-get_or, sum_by-cons, sum_by-set, count_by-le-length, end_of, lowest_address, end_address, without_named, inserted, occupied, cut, parts, part_below, part_above, pieces_of, attach_count, IsFit, Arranged, Tables, counted, with_own, with_pieces_at, with_other_life, with_life_at, pieces_at, life_at, AreCountsExact, IsPlaceFor, MOST_PIECES, most_of_segment, is_named, all_above, all_kind, not, some_by}
use Rattle.shm_base.specs.State.{Piece, Life, Runner}
use Rattle.shm_attach.proofs.Processes.{first_runner, attach_count-changed, one_more}

-- THE PROCESS THAT CHANGES

pub with_pieces_at-within : (rs : List Runner) (i : ℕ) (f : List Piece → List Piece) → i < length rs
    → with_pieces_at rs i f ≡ set rs i (record (get_or rs i first_runner) { pieces = f (get_or rs i first_runner).pieces })
with_pieces_at-within rs i f lt = ap (with_own rs i f) (slice_get-get_or rs i first_runner lt)

pub with_life_at-within : (rs : List Runner) (i : ℕ) (l : Life) → i < length rs → with_life_at rs i l ≡ set rs i (record (get_or rs i first_runner) { life = l })
with_life_at-within rs i l lt = ap (with_other_life rs i l) (slice_get-get_or rs i first_runner lt)

pub pieces_at-get_or : (rs : List Runner) (i : ℕ) → pieces_at rs i ≡ (get_or rs i first_runner).pieces
pieces_at-get_or rs i = grind (arith, common_steps, gets)

pub life_at-get_or : (rs : List Runner) (i : ℕ) → life_at rs i ≡ (get_or rs i first_runner).life
life_at-get_or rs i = grind (arith, common_steps, gets)

pub pieces_at-changed : (rs : List Runner) (i : ℕ) (f : List Piece → List Piece) → i < length rs → pieces_at (with_pieces_at rs i f) i ≡ f (pieces_at rs i)
pieces_at-changed rs i f lt = grind (arith, common_steps, gets)

pub life_at-changed : (rs : List Runner) (i : ℕ) (f : List Piece → List Piece) → i < length rs → life_at (with_pieces_at rs i f) i ≡ life_at rs i
life_at-changed rs i f lt = grind (arith, common_steps, gets)

-- two changes are one
pub with_pieces_at-twice : (rs : List Runner) (i : ℕ) (f g : List Piece → List Piece) → i < length rs
    → with_pieces_at (with_pieces_at rs i f) i g ≡ with_pieces_at rs i (λ ps. g (f ps))
with_pieces_at-twice rs i f g lt = let there = slice_get-get_or rs i first_runner lt in grind (arith, common_steps, gets, set-set)

-- the pieces that a change gives, instead of the change
pub with_pieces_at-const : (rs : List Runner) (i : ℕ) (f : List Piece → List Piece) → i < length rs
    → with_pieces_at rs i f ≡ with_pieces_at rs i (λ (_ : List Piece). f (pieces_at rs i))
with_pieces_at-const rs i f lt = let there = slice_get-get_or rs i first_runner lt in grind (arith, common_steps, gets)

-- a child is born with the pieces of another process
module _ (rs : List Runner) (i j : ℕ) (l : Life) (lt : j < length rs) where
  pub life_at-born : life_at (with_life_at rs j l) j ≡ l
  life_at-born = grind (arith, common_steps, gets)

  pub pieces_at-born : pieces_at (with_life_at rs j l) j ≡ pieces_at rs j
  pieces_at-born = grind (arith, common_steps, gets)

  pub runners-born : i ≢ j
      → with_pieces_at (with_life_at rs j l) j (λ (_ : List Piece). pieces_at (with_life_at rs j l) i) ≡ set rs j (record { pid = (get_or rs j first_runner).pid; life = l; pieces = pieces_at rs i })
  runners-born apart = let there = slice_get-get_or rs j first_runner lt in grind (arith, common_steps, gets, set-set)

-- THE COUNTS

-- a process without pieces adds nothing to a count
pub attach_count-more : (rs : List Runner) (j id : ℕ) (r : Runner) → j < length rs → pieces_at rs j ≡ [] → attach_count rs id ≤ attach_count (set rs j r) id
attach_count-more rs j id r lt none = grind (arith, common_steps, sum_by-set, pieces_at-get_or)

-- one process is replaced by another, and the counts follow
pub IsExact-set : (extra : ℕ → ℕ) (rs : List Runner) (i : ℕ) (r : Runner) (c d : Tables) → AreCountsExact extra rs c → i < length rs → length r.pieces ≤ MOST_PIECES
    → Arranged lowest_address r.pieces → (is_live r.life ≡ false → r.pieces ≡ [])
    → ((id : ℕ) → counted d id + pieces_of id (pieces_at rs i) ≡ counted c id + pieces_of id r.pieces)
    → AreCountsExact extra (set rs i r) d
IsExact-set extra rs i r c d exact lt few order asleep counts = grind (arith, common_steps, gets, sum_by-set, pieces_at-get_or, life_at-get_or, cases_eq)

pub IsExact-changed : (extra : ℕ → ℕ) (rs : List Runner) (i : ℕ) (f : List Piece → List Piece) (c d : Tables) → AreCountsExact extra rs c → i < length rs → length (f (pieces_at rs i)) ≤ MOST_PIECES
    → Arranged lowest_address (f (pieces_at rs i)) → (is_live (life_at rs i) ≡ false → f (pieces_at rs i) ≡ [])
    → ((id : ℕ) → counted d id + pieces_of id (pieces_at rs i) ≡ counted c id + pieces_of id (f (pieces_at rs i)))
    → AreCountsExact extra (with_pieces_at rs i f) d
IsExact-changed extra rs i f c d exact lt few order asleep counts =
    let r = get_or rs i first_runner in
    let same : f (pieces_at rs i) ≡ f r.pieces = ap f (pieces_at-get_or rs i) in
    rw (with_pieces_at-within rs i f lt)
    (IsExact-set extra rs i (record r { pieces = f r.pieces }) c d exact lt (rw same at few) (rw same at order)
    (λ none. sym same ∙ asleep (ap is_live (life_at-get_or rs i) ∙ none)) (λ id. rw same at (counts id)))

pub IsExact-life : (extra : ℕ → ℕ) (rs : List Runner) (i : ℕ) (l : Life) (c : Tables) → AreCountsExact extra rs c → i < length rs → (is_live l ≡ false → pieces_at rs i ≡ []) → AreCountsExact extra (with_life_at rs i l) c
IsExact-life extra rs i l c exact lt idle =
    let r = get_or rs i first_runner in
    let same : pieces_at rs i ≡ r.pieces = pieces_at-get_or rs i in
    rw (with_life_at-within rs i l lt)
    (IsExact-set extra rs i (record r { life = l }) c c exact lt (rw same at (exact.pieces i)) (rw same at (exact.arranged i)) (λ none. sym same ∙ idle none)
    (λ id. ap (λ ps. counted c id + pieces_of id ps) same))

-- a segment has at most 65530 pieces for each process
pub attach_count-few : (id : ℕ) (rs : List Runner) → ((i : ℕ) → length (pieces_at rs i) ≤ MOST_PIECES) → attach_count rs id ≤ MOST_PIECES * length rs
attach_count-few id [] few = omega arith
attach_count-few id (r ∷ rs) few =
    let first : length r.pieces ≤ MOST_PIECES = few 0 in
    let own = count_by-le-length (λ (p : Piece). p.seg == id) r.pieces in
    let rest = attach_count-few id rs (λ i. few (suc i)) in
    let all = sum_by-cons (λ (x : Runner). pieces_of id x.pieces) r rs in
    omega (arith, first, own, rest, all)

pub small_counts : (extra : ℕ → ℕ) (rs : List Runner) (c : Tables) → AreCountsExact extra rs c → (id : ℕ) → counted c id ≤ most_of_segment + extra id
small_counts extra rs c exact id = omega (arith, exact.counts id, attach_count-few id rs exact.pieces, exact.processes)

pub own_counted : (extra : ℕ → ℕ) (rs : List Runner) (c : Tables) (i : ℕ) → AreCountsExact extra rs c → i < length rs → (id : ℕ) → pieces_of id (pieces_at rs i) ≤ counted c id
own_counted extra rs c i exact lt id = omega (arith, exact.counts id, attach_count-changed id i (λ ps. []) rs lt)

-- WHAT IS FREE AFTER A CUT

pub occupied-append : (xs ys : List Piece) (from to : ℕ) → occupied xs from to ≡ false → occupied ys from to ≡ false → occupied (xs ++ ys) from to ≡ false
occupied-append [] ys from to none more = more
occupied-append (x ∷ xs) ys from to none more = let rest = occupied-append xs ys from to in grind (arith, common_steps)

free_below : (from to : ℕ) (p : Piece) → occupied (part_below from p) from to ≡ false
free_below from to p = grind (arith, common_steps)

free_above : (from to : ℕ) (p : Piece) → occupied (part_above to p) from to ≡ false
free_above from to p = grind (arith, common_steps)

free_parts : (from to : ℕ) (p : Piece) → occupied (parts from to p) from to ≡ false
free_parts from to p = let none = occupied-append (part_below from p) (part_above to p) from to (free_below from to p) (free_above from to p) in grind arith

pub occupied-cut : (from to : ℕ) (ps : List Piece) → occupied (cut from to ps) from to ≡ false
occupied-cut from to [] = refl
occupied-cut from to (p ∷ ps) = occupied-append (parts from to p) (cut from to ps) from to (free_parts from to p) (occupied-cut from to ps)

-- ALL PIECES, AND THOSE OF ONE ATTACH

-- all pieces are within the addresses
pub cut-all : (low : ℕ) (ps : List Piece) → lowest_address ≤ low → Arranged low ps → cut lowest_address end_address ps ≡ []
cut-all low [] le ar = refl
cut-all low (p ∷ ps) le ar = grind (arith, common_steps, cut-all (end_of p) ps)

pub arranged-without : (addr seg low : ℕ) (ps : List Piece) → Arranged low ps → Arranged low (without_named addr seg ps)
arranged-without addr seg low ps ar = some_by IsFit (λ (p : Piece). not (is_named addr seg p)) low ps ar

-- A COPY OF PIECES

pub pieces_of-there : (k : ℕ) (ps : List Piece) (d : Piece) → k < length ps → 1 ≤ pieces_of (get_or ps k d).seg ps
pieces_of-there k [] d l = absurd (omega arith)
pieces_of-there zero (p ∷ ps) d l = let own = one_more p.seg p ps in grind (arith, common_steps)
pieces_of-there (suc k) (p ∷ ps) d l = grind (arith, common_steps, one_more, pieces_of-there k ps d)

-- the same pieces replace those that are there
pub with_pieces_at-same : (rs : List Runner) (i : ℕ) (f : List Piece → List Piece) → i < length rs → f (pieces_at rs i) ≡ pieces_at rs i → rs ≡ with_pieces_at rs i f
with_pieces_at-same rs i f lt same = let there = slice_get-get_or rs i first_runner lt in grind (arith, common_steps, gets, set-get_or)

-- the next of some pieces in order is above those before it
base_behind : (low k : ℕ) (ps : List Piece) (d : Piece) → Arranged low ps → k < length ps → low ≤ (get_or ps k d).base
base_behind low k ps d ar lt = all_above IsFit low ps ar k d lt

free_next : (low k to : ℕ) (ps : List Piece) (d : Piece) → Arranged low ps → k < length ps → occupied (take k ps) (get_or ps k d).base to ≡ false
free_next low k to [] d ar lt = absurd (omega arith)
free_next low zero to (p ∷ ps) d ar lt = refl
free_next low (suc k) to (p ∷ ps) d ar lt = grind (arith, common_steps, base_behind, free_next (end_of p) k to ps d ar.1.1)

pub inserted_next : (low k : ℕ) (ps : List Piece) (d : Piece) → Arranged low ps → k < length ps → inserted (get_or ps k d) (take k ps) ≡ take (k + 1) ps
inserted_next low k [] d ar lt = absurd (omega arith)
inserted_next low zero (p ∷ ps) d ar lt = refl
inserted_next low (suc k) (p ∷ ps) d ar lt = grind (arith, common_steps, base_behind, inserted_next (end_of p) k ps d ar.1.1)

pub place_next : (k : ℕ) (ps : List Piece) (d : Piece) → Arranged lowest_address ps → length ps ≤ MOST_PIECES → k < length ps → IsPlaceFor (get_or ps k d) (take k ps)
place_next k ps d ar few lt =
    record {
      room = omega (arith, length-take k ps, lt, few);
      low = base_behind lowest_address k ps d ar lt;
      fit = all_kind IsFit lowest_address ps ar k d lt;
      free = free_next lowest_address k (end_of (get_or ps k d)) ps d ar lt;
    }
