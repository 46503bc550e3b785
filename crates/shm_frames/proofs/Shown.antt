-- A table with the frames' bytes, and the frames that it shows.
use Rattle.std.proofs.Common.{◌≡◌, ℕ, zero, suc, ◌+◌, ◌-◌, ◌<◌, ◌≤◌, Bool, true, false, cond, List, [], ◌∷◌, length, get_or, set, replicate, Some, None, is_some, true≢false, length-set, refl, sym, ap, ◌∙◌, inl, inr, arith}
use Rattle.std.proofs.lemmas.Grind.{common_steps}
use Rattle.std.specs.Prelude.{count_by}
use Rattle.std.specs.List.{position}
use Rattle.std.proofs.lemmas.List.Sums.{sum_by-cons, sum_by-append}
use Rattle.std.proofs.lemmas.List.Folds.{sum_by-replicate}
use Rattle.std.proofs.lemmas.List.{get_or_read, get_or_past, get_or_default}
use Rattle.std.proofs.lemmas.Bool.{cases_lt}
use Rattle.shm_base.specs.Stored.{padded}
use Rattle.shm_base.specs.Page.{zero_page}
use Rattle.shm_base.proofs.Stored.{length-padded, size-padded, fits-padded, get_or-padded, set-padded, padded-padded}
use Rattle.shm_frames.specs.declared.frames.FrameState.{FrameState}
use Rattle.shm_frames.specs.declared.frames.Frames.TheInside.{Inside}
use Rattle.shm_frames.specs.Frame.{Frame, frame_at, no_frame, is_free, is_owned, is_dirty, is_lent, resident_of, dirty_of, lent_of, FreeAreClear, OwnedBelow}
use Rattle.shm_frames.specs.Table.{frame_shown, frames_of, all_frames, AreUsed, free_entry, state_at, has_owner, has_changed, is_on_loan, UsedBelow}
use Rattle.shm_frames.proofs.First.{position_is, position-none}

pub record AreFramesShown (table : List FrameState) (pages : List (List ℕ)) (count : ℕ) (frames : List Frame) : Type 0 where
  pub used : AreUsed table pages count
  pub is : all_frames table pages count ≡ frames

-- what the fields show
pub shown : (a : Inside) {frames : List Frame} → AreUsed a.table.items a.pages.items a.count → all_frames a.table.items a.pages.items a.count ≡ frames → AreFramesShown a.table.items a.pages.items a.count frames
shown a used is = record { used = used; is = is }

length-frames_of : (table : List FrameState) (pages : List (List ℕ)) → length pages ≡ length table → length (frames_of table pages) ≡ length table
length-frames_of [] pages e = refl
length-frames_of (x ∷ table) [] e = absurd (omega arith)
length-frames_of (x ∷ table) (b ∷ pages) e = ap suc (length-frames_of table pages (omega arith))

get-frames_of : (table : List FrameState) (pages : List (List ℕ)) (i : ℕ) → length pages ≡ length table → frame_at (frames_of table pages) i ≡ frame_shown (state_at table i) (get_or pages i [])
get-frames_of [] [] i e = refl
get-frames_of [] (b ∷ pages) i e = absurd (omega arith)
get-frames_of (x ∷ table) [] i e = absurd (omega arith)
get-frames_of (x ∷ table) (b ∷ pages) zero e = refl
get-frames_of (x ∷ table) (b ∷ pages) (suc i) e = get-frames_of table pages i (omega arith)

set-frames_of : (table : List FrameState) (pages : List (List ℕ)) (i : ℕ) (x : FrameState) → frames_of (set table i x) pages ≡ set (frames_of table pages) i (frame_shown x (get_or pages i []))
set-frames_of [] pages i x = refl
set-frames_of (y ∷ table) [] zero x = refl
set-frames_of (y ∷ table) [] (suc i) x = refl
set-frames_of (y ∷ table) (b ∷ pages) zero x = refl
set-frames_of (y ∷ table) (b ∷ pages) (suc i) x = ap (λ fs. frame_shown y b ∷ fs) (set-frames_of table pages i x)

paste-frames_of : (table : List FrameState) (pages : List (List ℕ)) (i : ℕ) (w : List ℕ) → frames_of table (set pages i w) ≡ set (frames_of table pages) i (frame_shown (state_at table i) w)
paste-frames_of [] pages i w = refl
paste-frames_of (y ∷ table) [] i w = refl
paste-frames_of (y ∷ table) (b ∷ pages) zero w = refl
paste-frames_of (y ∷ table) (b ∷ pages) (suc i) w = ap (λ fs. frame_shown y b ∷ fs) (paste-frames_of table pages i w)

-- a test of frames that uses only the entry counts entries
count-frames_of : (p : Frame → Bool) (q : FrameState → Bool) → ((x : FrameState) (b : List ℕ) → p (frame_shown x b) ≡ q x) → (table : List FrameState) (pages : List (List ℕ)) → length pages ≡ length table → count_by p (frames_of table pages) ≡ count_by q table
count-frames_of p q same [] pages e = refl
count-frames_of p q same (x ∷ table) [] e = absurd (omega arith)
count-frames_of p q same (x ∷ table) (b ∷ pages) e = grind (arith, common_steps, sum_by-cons, count-frames_of p q same table pages)

-- as many entries as before
pub used-set : {table : List FrameState} {pages : List (List ℕ)} {count : ℕ} → AreUsed table pages count → (i : ℕ) (x : FrameState) → AreUsed (set table i x) pages count
used-set {table = table} used i x = record { beside = used.beside ∙ sym (length-set table i x); within = rw (length-set table i x) used.within; few = used.few }

-- an owned frame has an entry
pub entry-there : (table : List FrameState) (i : ℕ) → is_some (state_at table i).owner ≡ true → i < length table
entry-there table i owned =
    elim (cases_lt i (length table)) [
      | inl there ↦ there
      | inr past ↦ let none : is_some (state_at table i).owner ≡ false = ap (λ (e : FrameState). is_some e.owner) (get_or_past table i free_entry past) in absurd (true≢false (sym owned ∙ none))
    ]

-- padding with entries that do not pass changes no count
pub count-padded : (q : FrameState → Bool) (table : List FrameState) (n : ℕ) → q free_entry ≡ false → count_by q (padded table n free_entry) ≡ count_by q table
count-padded q table n e = rw (sum_by-append (λ x. cond (q x) 1 0) table (replicate (n - length table) free_entry), sum_by-replicate (λ x. cond (q x) 1 0) (n - length table) free_entry, e) (omega arith)

module _ {table : List FrameState} {pages : List (List ℕ)} {count : ℕ} {frames : List Frame} (s : AreFramesShown table pages count frames) where
  abbrev entries : List FrameState
  entries = padded table count free_entry

  abbrev bytes : List (List ℕ)
  bytes = padded pages count zero_page

  size : length entries ≡ count
  size = length-padded table count free_entry s.used.within

  size-bytes : length bytes ≡ count
  size-bytes = length-padded pages count zero_page (rw s.used.beside s.used.within)

  beside : length bytes ≡ length entries
  beside = size-bytes ∙ sym size

  pub length-shown : length frames ≡ count
  length-shown = ap length (sym s.is) ∙ length-frames_of entries bytes beside ∙ size

  pub frame-shown : (i : ℕ) → frame_at frames i ≡ frame_shown (state_at table i) (get_or bytes i [])
  frame-shown i = ap (λ fs. frame_at fs i) (sym s.is) ∙ get-frames_of entries bytes i beside ∙ ap (λ x. frame_shown x (get_or bytes i [])) (get_or-padded table count i free_entry)

  pub bytes-shown : (i : ℕ) → i < length frames → (frame_at frames i).bytes ≡ get_or pages i zero_page
  bytes-shown i there = rw (frame-shown i) (get_or_default bytes i [] zero_page (rw (size-bytes, ← length-shown) there) ∙ get_or-padded pages count i zero_page)

  pub paste-shown : (i : ℕ) (w : List ℕ) → i < length pages → all_frames table (set pages i w) count ≡ set frames i (record (frame_at frames i) { bytes = w })
  paste-shown i w there =
      let same : state_at entries i ≡ state_at table i = get_or-padded table count i free_entry in
      rw (frame-shown i, ← s.is, set-padded pages count i w zero_page there, ← same) (paste-frames_of entries bytes i w)

  pub entry-is : (i : ℕ) (x : FrameState) → i < length table → x ≡ get_or table i x → x ≡ state_at table i
  entry-is i x there read = get_or_read table i x there read free_entry

  -- an edit of an entry, as an edit of the frames
  pub edit-shown : (i : ℕ) (x : FrameState) (f : FrameState → FrameState) (g : Frame → Frame) → ((y : FrameState) (b : List ℕ) → frame_shown (f y) b ≡ g (frame_shown y b)) → i < length table → x ≡ state_at table i → all_frames (set table i (f x)) pages count ≡ set frames i (g (frame_at frames i))
  edit-shown i x f g same there at =
      rw (set-padded table count i (f x) free_entry there) (set-frames_of entries bytes i (f x))
      ∙ ap (λ fs. set fs i (frame_shown (f x) (get_or bytes i []))) s.is
      ∙ ap (λ y. set frames i y) (same x (get_or bytes i []) ∙ ap g (ap (λ y. frame_shown y (get_or bytes i [])) at ∙ sym (frame-shown i)))

  -- a frame with an owner has an entry
  pub owned-there : (i : ℕ) → is_some (frame_at frames i).owner ≡ true → i < length table
  owned-there i owned = entry-there table i (sym (ap (λ (f : Frame). is_some f.owner) (frame-shown i)) ∙ owned)

  pub owned-entry : (i : ℕ) (x : FrameState) → x ≡ state_at table i → is_some (frame_at frames i).owner ≡ true → is_some x.owner ≡ true
  owned-entry i x at owned = ap (λ (e : FrameState). is_some e.owner) at ∙ sym (ap (λ (f : Frame). is_some f.owner) (frame-shown i)) ∙ owned

  pub free-entry : (i : ℕ) → (frame_at frames i).owner ≡ None → (state_at table i).owner ≡ None
  free-entry i free = sym (ap (λ (f : Frame). f.owner) (frame-shown i)) ∙ free

  pub resident-shown : resident_of frames ≡ count_by has_owner table
  resident-shown = rw (← s.is) (count-frames_of is_owned has_owner (λ x b. refl) entries bytes beside ∙ count-padded has_owner table count refl)

  pub dirty-shown : dirty_of frames ≡ count_by has_changed table
  dirty-shown = rw (← s.is) (count-frames_of is_dirty has_changed (λ x b. refl) entries bytes beside ∙ count-padded has_changed table count refl)

  pub lent-shown : lent_of frames ≡ count_by is_on_loan table
  lent-shown = rw (← s.is) (count-frames_of is_lent is_on_loan (λ x b. refl) entries bytes beside ∙ count-padded is_on_loan table count refl)

  pub clear-shown : ((i : ℕ) → (state_at table i).owner ≡ None → state_at table i ≡ free_entry) → FreeAreClear frames
  clear-shown clear i free = rw (frame-shown i) (ap (λ x. frame_shown x (get_or bytes i [])) (clear i (ap (λ (f : Frame). f.owner) (sym (frame-shown i)) ∙ free)))

  owned-shown : (n : ℕ) → UsedBelow table n → OwnedBelow frames n
  owned-shown n used i below = rw (frame-shown i) (used i below)

  -- the first free frame
  pub first-shown : (n : ℕ) → n < count → (state_at table n).owner ≡ None → UsedBelow table n → position is_free frames ≡ Some n
  first-shown n there free used = position_is is_free frames no_frame n (rw length-shown there) (rw (frame-shown n, free) refl) (owned-shown n used)

  pub none-shown : (n : ℕ) → count ≤ n → UsedBelow table n → position is_free frames ≡ None
  none-shown n past used = position-none is_free frames no_frame (λ k l. owned-shown n used k (omega (arith, past, length-shown)))

  -- the frames are unchanged if more of them have entries
  pub reach-shown : (i : ℕ) → i < count → AreFramesShown (padded table (i + 1) free_entry) (padded pages (i + 1) zero_page) count frames
  reach-shown i there = record {
    used = record {
      beside = size-padded pages (i + 1) zero_page ∙ ap (λ k. k + (i + 1 - k)) s.used.beside ∙ sym (size-padded table (i + 1) free_entry);
      within = fits-padded table (i + 1) count free_entry (omega (arith, there)) s.used.within;
      few = s.used.few;
    };
    is = rw (padded-padded table (i + 1) count free_entry (omega (arith, there)) s.used.within, padded-padded pages (i + 1) count zero_page (omega (arith, there)) (rw s.used.beside s.used.within)) s.is;
  }
