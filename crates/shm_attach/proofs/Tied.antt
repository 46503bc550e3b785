-- One table for each segment with pieces, after a change of the map and of the slab.
use Rattle.shm_attach.proofs.Names.{◌≡◌, ◌≢◌, ℕ, ◌<◌, Option, Some, None, refl, arith, common_steps, cases_eq, none-some, Slab, get, with_value, Updates, PageRef, Tables, seg_in, count_in, TrueTable, TrueSlot, AllTrue, with_frame, counted, counted_under, key_of, HasTable, OneTableEach, Piece, TableView, ◌∙◌, ◌≤◌, length, size_in, KeepCounts, KeepTables}

-- a piece that has its table is counted
pub table-counted : (t : Tables) (p : Piece) → OneTableEach t → HasTable t.slab p → 0 < counted t p.seg
table-counted t p tied own = grind (arith, common_steps, key_of, cases_eq, counted, none-some)

-- A TABLE WITH OTHER FRAMES

pub update-value : (s : Slab TableView) (key : ℕ) (e v : TableView) → get s key ≡ Some e → Updates s (with_value s key v) key (Some v)
update-value s key e v at = grind (arith, common_steps)

module _ (t : Tables) (key : ℕ) (e v : TableView) (tied : OneTableEach t) (at : get t.slab key ≡ Some e) (rest : v ≡ record e { frames = v.frames }) where
  same : (k : ℕ) → (seg_in (get (with_value t.slab key v) k) ≡ seg_in (get t.slab k)) × (count_in (get (with_value t.slab key v) k) ≡ count_in (get t.slab k))
  same k = grind (arith, common_steps)

  counted-same : (o : Option ℕ) → counted_under (with_value t.slab key v) o ≡ counted_under t.slab o
  counted-same None = refl
  counted-same (Some k) = (same k).1

  pub tied-table : OneTableEach (record t { slab = with_value t.slab key v })
  tied-table = grind (arith, common_steps, same, counted-same)

  pub counts-kept : KeepCounts t (record t { slab = with_value t.slab key v })
  counts-kept id = counted-same (key_of t id)

  sizes : length e.frames ≤ length v.frames → (k : ℕ) → size_in (get t.slab k) ≤ size_in (get (with_value t.slab key v) k)
  sizes more k = grind (arith, common_steps, more)

  pub tables-kept : length e.frames ≤ length v.frames → KeepTables t.slab (with_value t.slab key v)
  tables-kept more p has = record { seg = (same p.key).0 ∙ has.seg; pages = omega (arith, has.pages, sizes more p.key) }

-- A MOVE

-- the tables of other segments are still true
true-apart : (at : ℕ → ℕ → Option ℕ) (r : PageRef) (f : Option ℕ) (o : Option TableView) → seg_in o ≢ Some r.seg → TrueSlot at o → TrueSlot (with_frame r f at) o
true-apart at r f o other now = grind (arith, common_steps)

pub true-unknown : (at : ℕ → ℕ → Option ℕ) (r : PageRef) (f : Option ℕ) (t : Tables) → OneTableEach t → key_of t r.seg ≡ None → AllTrue at t.slab → AllTrue (with_frame r f at) t.slab
true-unknown at r f t tied none all k = grind (arith, common_steps, true-apart)

pub true-set : (at : ℕ → ℕ → Option ℕ) (r : PageRef) (f : Option ℕ) (t : Tables) (s : Slab TableView) (key : ℕ) (v : TableView) → OneTableEach t → key_of t r.seg ≡ Some key
    → Updates t.slab s key (Some v) → TrueTable (with_frame r f at) v → AllTrue at t.slab → AllTrue (with_frame r f at) s
true-set at r f t s key v tied own up new all k =
    let apart = true-apart at r f (get t.slab k) in
    let others = up.others k in
    let named = tied.named r.seg k in
    grind (arith, all k, up.changed, own, new)
