-- Changes of a table that keep each segment's number of pages, its lock and its mark.
use Rattle.shm_segments.proofs.Names.{◌≡◌, ℕ, ◌%◌, List, [], ◌∷◌, ◌∙◌, length, slice_get, Option, Some, None, refl, arith, cases_eq, Segment, Runner, Place, set_in, with_byte, entry_byte_set, stored, change, change_all, with_entry, reserved, locked, attached, attach_all, detached, detach_all, live_in, pages_at, is_orphan, orphan_in, orphan, id_in, nat_tests, common_steps, slice_set, is_some, option_map, pages_held, pages_locked, live, identifier_at}
use Rattle.shm_base.specs.State.{Entry}
use Rattle.shm_segments.proofs.Entries.{get-set_same, get-set_other, length-slice_set, sum-set_same}

-- two segments with the same number of pages, or none
pub record AlikePages (o p : Option Segment) : Type 0 where
  pub pages : pages_held p ≡ pages_held o
  pub some : is_some p ≡ is_some o

-- the same segments are live, with the same numbers of pages
pub record SamePages (t u : List Entry) : Type 0 where
  pub size : length u ≡ length t
  pub reserved : reserved u ≡ reserved t
  pub pages : (id : ℕ) → pages_at u id ≡ pages_at t id
  pub there : (id : ℕ) → is_some (live u id) ≡ is_some (live t id)
  pub ids : (i : ℕ) → identifier_at u i ≡ identifier_at t i

-- and the same are locked, and marked
pub record SameTable (t u : List Entry) : Type 0 where
  pub same : SamePages t u
  pub locked : locked u ≡ locked t
  pub left : (rs : List Runner) (i : ℕ) → orphan rs u i ≡ orphan rs t i

pub pages-refl : (t : List Entry) → SamePages t t
pages-refl t = record { size = refl; reserved = refl; pages = λ id. refl; there = λ id. refl; ids = λ i. refl }

pub same-refl : (t : List Entry) → SameTable t t
same-refl t = record { same = pages-refl t; locked = refl; left = λ rs i. refl }

pub pages-trans : (t u v : List Entry) → SamePages t u → SamePages u v → SamePages t v
pages-trans t u v a b = record { size = b.size ∙ a.size; reserved = b.reserved ∙ a.reserved; pages = λ id. b.pages id ∙ a.pages id; there = λ id. b.there id ∙ a.there id; ids = λ i. b.ids i ∙ a.ids i }

pub same-trans : (t u v : List Entry) → SameTable t u → SameTable u v → SameTable t v
same-trans t u v a b = record { same = pages-trans t u v a.same b.same; locked = b.locked ∙ a.locked; left = λ rs i. b.left rs i ∙ a.left rs i }

-- a property of the entry at an index is unchanged if it is for the entry that was set
at-set : {Y : Type 0} (w : Option Entry → Y) (t : List Entry) (i j : ℕ) (e x : Entry) → slice_get t i ≡ Some x → w (Some e) ≡ w (Some x) → w (slice_get (slice_set t i e) j) ≡ w (slice_get t j)
at-set w t i j e x there same = grind (arith, cases_eq i j, get-set_same t i e x there, get-set_other t i j e, there, same)

live-alike : (id d : ℕ) (o p : Option Segment) → AlikePages o p → (pages_held (live_in id (Some (record { destroyed = d; segment = p }))) ≡ pages_held (live_in id (Some (record { destroyed = d; segment = o })))) × (is_some (live_in id (Some (record { destroyed = d; segment = p }))) ≡ is_some (live_in id (Some (record { destroyed = d; segment = o }))))
live-alike id d o p a = grind (arith, nat_tests, a.pages, a.some)

-- one entry is set to one with the same number of pages
pub set-pages : (t : List Entry) (i : ℕ) (x : Entry) (p : Option Segment) → slice_get t i ≡ Some x → AlikePages x.segment p → SamePages t (slice_set t i (record { destroyed = x.destroyed; segment = p }))
set-pages t i x p there a =
    let e : Entry = record { destroyed = x.destroyed; segment = p } in
    record {
      size = length-slice_set t i e;
      reserved = sum-set_same (λ (y : Entry). pages_held y.segment) t i e x there a.pages;
      pages = λ id. at-set (λ o. pages_held (live_in id o)) t i (id % 32768) e x there (live-alike id x.destroyed x.segment p a).0;
      there = λ id. at-set (λ o. is_some (live_in id o)) t i (id % 32768) e x there (live-alike id x.destroyed x.segment p a).1;
      ids = λ j. at-set (id_in j) t i j e x there refl;
    }

-- the marks after one entry is set to one with the same mark
pub set-left : (t : List Entry) (i : ℕ) (x : Entry) (p : Option Segment) → slice_get t i ≡ Some x → ((rs : List Runner) (id : ℕ) → is_orphan rs id p ≡ is_orphan rs id x.segment)
    → (rs : List Runner) (j : ℕ) → orphan rs (slice_set t i (record { destroyed = x.destroyed; segment = p })) j ≡ orphan rs t j
set-left t i x p there a rs j = at-set (orphan_in j rs) t i j (record { destroyed = x.destroyed; segment = p }) x there (a rs _)

-- A CHANGE OF ONE SEGMENT

module _ (f : Segment → Segment) where
  mapped-pages : ((s : Segment) → length (f s).bytes ≡ length s.bytes) → (o : Option Segment) → AlikePages o (option_map f o)
  mapped-pages k o = grind (arith, common_steps, nat_tests)

  mapped-locked : ((s : Segment) → length (f s).bytes ≡ length s.bytes) → ((s : Segment) → (f s).locked ≡ s.locked) → (o : Option Segment) → pages_locked (option_map f o) ≡ pages_locked o
  mapped-locked k l o = grind (arith, nat_tests, k, l)

  mapped-left : ((s : Segment) → (f s).dest ≡ s.dest) → (o : Option Segment) (rs : List Runner) (id : ℕ) → is_orphan rs id (option_map f o) ≡ is_orphan rs id o
  mapped-left k o rs id = grind (arith, k)

  in-pages : ((s : Segment) → length (f s).bytes ≡ length s.bytes) → (t : List Entry) (i : ℕ) (o : Option Entry) → slice_get t i ≡ o → SamePages t (set_in t i (with_entry f) o)
  in-pages k t i o is = grind (arith, common_steps, nat_tests, pages-refl, set-pages, option_map, mapped-pages)

  in-locked : ((s : Segment) → length (f s).bytes ≡ length s.bytes) → ((s : Segment) → (f s).locked ≡ s.locked) → (t : List Entry) (i : ℕ) (o : Option Entry) → slice_get t i ≡ o → locked (set_in t i (with_entry f) o) ≡ locked t
  in-locked k l t i o is = grind (arith, common_steps, nat_tests, sum-set_same, pages_locked, with_entry, mapped-locked)

  in-left : ((s : Segment) → (f s).dest ≡ s.dest) → (t : List Entry) (i : ℕ) (o : Option Entry) → slice_get t i ≡ o → (rs : List Runner) (j : ℕ) → orphan rs (set_in t i (with_entry f) o) j ≡ orphan rs t j
  in-left k t i o is rs j = grind (arith, common_steps, nat_tests, set-left, option_map, mapped-left)

  pub change-pages : ((s : Segment) → length (f s).bytes ≡ length s.bytes) → (t : List Entry) (id : ℕ) → SamePages t (change t id f)
  change-pages k t id = in-pages k t (id % 32768) (slice_get t (id % 32768)) refl

  pub change-locked : ((s : Segment) → length (f s).bytes ≡ length s.bytes) → ((s : Segment) → (f s).locked ≡ s.locked) → (t : List Entry) (id : ℕ) → locked (change t id f) ≡ locked t
  change-locked k l t id = in-locked k l t (id % 32768) (slice_get t (id % 32768)) refl

  pub change-left : ((s : Segment) → (f s).dest ≡ s.dest) → (t : List Entry) (id : ℕ) (rs : List Runner) (j : ℕ) → orphan rs (change t id f) j ≡ orphan rs t j
  change-left k t id rs j = in-left k t (id % 32768) (slice_get t (id % 32768)) refl rs j

  pub change-same : ((s : Segment) → length (f s).bytes ≡ length s.bytes) → ((s : Segment) → (f s).locked ≡ s.locked) → ((s : Segment) → (f s).dest ≡ s.dest) → (t : List Entry) (id : ℕ) → SameTable t (change t id f)
  change-same k l d t id = record { same = change-pages k t id; locked = change-locked k l t id; left = change-left d t id }

-- MANY CHANGES

pub change_all-same : (f : Segment → Segment) → ((s : Segment) → length (f s).bytes ≡ length s.bytes) → ((s : Segment) → (f s).locked ≡ s.locked) → ((s : Segment) → (f s).dest ≡ s.dest)
    → (ids : List ℕ) (t : List Entry) → SameTable t (change_all f t ids)
change_all-same f k l d [] t = same-refl t
change_all-same f k l d (id ∷ ids) t = same-trans t _ _ (change-same f k l d t id) (change_all-same f k l d ids (change t id f))

-- the time and the pid of a detach, or of an attach
pub detach_all-same : (n pid : ℕ) (ids : List ℕ) (t : List Entry) → SameTable t (detach_all n pid t ids)
detach_all-same n pid = change_all-same (detached n pid) (λ s. refl) (λ s. refl) (λ s. refl)

pub attach_all-same : (n pid : ℕ) (ids : List ℕ) (t : List Entry) → SameTable t (attach_all n pid t ids)
attach_all-same n pid = change_all-same (attached n pid) (λ s. refl) (λ s. refl) (λ s. refl)

byte-same : (t : List Entry) (i at b : ℕ) (o : Option Entry) → slice_get t i ≡ o → SameTable t (set_in t i (entry_byte_set at b) o)
byte-same t i at b None is = same-refl t
byte-same t i at b (Some x) is = grind (arith, common_steps, length-slice_set, set-pages, x.segment, mapped-pages, sum-set_same, mapped-locked, set-left, mapped-left)

-- bytes replaced
pub stored-same : (ps : List Place) (bs : List ℕ) (t : List Entry) → SameTable t (stored t ps bs)
stored-same [] bs t = same-refl t
stored-same (p ∷ ps) [] t = same-refl t
stored-same (p ∷ ps) (b ∷ bs) t = same-trans t _ _ (byte-same t (p.seg % 32768) p.at b (slice_get t (p.seg % 32768)) refl) (stored-same ps bs (with_byte t p b))
