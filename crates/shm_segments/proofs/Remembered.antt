-- The memory's invariant, and that it shows the table.
use Rattle.shm_segments.proofs.Names.{◌≡◌, ◌≢◌, ℕ, false, List, [], length, Option, None, refl, sym, ap, ◌∙◌, arith, All, Result, OnOk, OnErr, sum_by, Span, Held, find_held, is_held, holds_locked, with_zeros, without, FitsPage, written, find_held-id, find-without_same, find-without_other, find-zeros_same, find-zeros_other, but-inserted, StoreView, frame_of, fresh_store, Frame, SwapView, SegRec, find_seg, but, new_seg, with_seg, rec_in, IsBlank, not-held, rec-added, LockedPagesStay, IsStoreSound, GoesOn-refl, GoesOn-trans, GoesOn, Head, joined_table, Agree, SegmentsView, ShowsTable, KeepsMemory, AreSegmentsSound, IsWhole, stored, span_places, SpanFits, common_steps, is_some, option_map, Ok, Err, FlatEntry, Entry, live_row}
use Rattle.shm_fault.specs.Store.{held}
use Rattle.shm_segments.proofs.Finding.{live-joined}
use Rattle.shm_segments.proofs.Shown.{agree-written, store_shown}
use Rattle.shm_segments.proofs.Bytes.{len_of}
use Rattle.shm_segments.proofs.Spanning.{spans-fit}
use Rattle.shm_segments.proofs.Held.{sums-written}

-- a table and its memory
abbrev pub view_of : List FlatEntry → StoreView → SegmentsView
view_of t m = record { table = t; memory = m }

-- SHOWN

pub shows-joined : (m : StoreView) (rows : List (Entry Head)) → Agree (held m) rows → ShowsTable (joined_table (held m) rows) m
shows-joined m rows agree id = grind (arith, common_steps, live_row, find_held, held, option_map, live-joined, find_held-id)

-- KEPT

pub memory-refl : (m : StoreView) → KeepsMemory m m
memory-refl m = record { kept = λ seg page a b e. e; locks = λ id e. e; goes_on = GoesOn-refl m.swap; frames = refl }

pub memory-trans : (a b c : StoreView) → KeepsMemory a b → KeepsMemory b c → KeepsMemory a c
memory-trans a b c p q = record {
  kept = λ seg page before after e. let mid = q.locks seg after in q.kept seg page mid after (p.kept seg page before mid e);
  locks = λ id e. p.locks id (q.locks id e);
  goes_on = GoesOn-trans a.swap b.swap c.swap p.goes_on q.goes_on;
  frames = q.frames ∙ p.frames;
}

-- frames and swap are unchanged, and no page moved
pub memory-zeros : (a b : StoreView) (id n : ℕ) → is_held (held a) id ≡ false → held b ≡ with_zeros (held a) id n → b.swap ≡ a.swap → b.frames ≡ a.frames → ((s page : ℕ) → frame_of b s page ≡ frame_of a s page) → KeepsMemory a b
memory-zeros a b id n new is swap frames still = grind (arith, common_steps, find-zeros_same, find-zeros_other)

-- a segment is gone, and the others' pages did not move
pub memory-without : (a b : StoreView) (id : ℕ) → held b ≡ without (held a) id → GoesOn a.swap b.swap → length b.frames ≡ length a.frames → ((s page : ℕ) → s ≢ id → frame_of b s page ≡ frame_of a s page) → KeepsMemory a b
memory-without a b id is goes frames still = grind (arith, common_steps, find-without_same, find-without_other, is_some)

-- no byte and no lock changed
pub memory-same : (a b : StoreView) → held b ≡ held a → LockedPagesStay a b → GoesOn a.swap b.swap → length b.frames ≡ length a.frames → KeepsMemory a b
memory-same a b is kept goes frames = record { kept = kept; locks = λ id e. rw is at e; goes_on = goes; frames = frames }

-- A SEGMENT THAT WAS MADE AND IS DROPPED AGAIN

-- a segment that was added and dropped at once
pub undone : (s t u : StoreView) (id n : ℕ) → IsStoreSound s → is_held (held s) id ≡ false → t ≡ record s { segs = with_seg s.segs id n } → (IsBlank id t → u ≡ record t { segs = but id t.segs }) → u ≡ s
undone s t u id n sound new is dropped =
    let none : find_seg s.segs id ≡ None = not-held s sound id new in
    let blank : IsBlank id t = λ page. rw is (rec-added s sound id n none (record { seg = id; page = page }) ∙ ap (λ (o : Option SegRec). rec_in o page) none) in
    dropped blank ∙ ap (λ (v : StoreView). record v { segs = but id v.segs }) is ∙ ap (λ (gs : List SegRec). record s { segs = gs }) (but-inserted s.segs (new_seg id n) none)

-- held segments that agree with the same rows have the same locks
pub agree-locks : (hs gs : List Held) (rows : List (Entry Head)) (id : ℕ) → Agree hs rows → Agree gs rows → holds_locked gs id ≡ holds_locked hs id
agree-locks hs gs rows id a b = grind (arith, a.same id, b.same id)

-- A STORE

kept-written : (hs : List Held) (rows : List (Entry Head)) (pages locks : ℕ) (ps : List Span) (new : List ℕ) → AreSegmentsSound hs rows pages locks → All (FitsPage hs) ps → AreSegmentsSound (written hs ps new) rows pages locks
kept-written hs rows pages locks ps new k fit =
    let sums = sums-written hs ps new k.apart fit in
    record {
      agree = agree-written hs rows ps new k.agree fit;
      sizes = k.sizes;
      reserved = k.reserved;
      locked = k.locked;
      apart = sums.apart;
      all_pages = sums.pages ∙ k.all_pages;
      few_locked = omega (arith, sums.locks, k.few_locked);
    }

memory-written : (a b : StoreView) (rows : List (Entry Head)) (ps : List Span) (new : List ℕ) → Agree (held a) rows → All (FitsPage (held a)) ps → held b ≡ written (held a) ps new → LockedPagesStay a b → GoesOn a.swap b.swap → length b.frames ≡ length a.frames → KeepsMemory a b
memory-written a b rows ps new agree fit is kept goes frames = record {
  kept = kept;
  locks = λ id e. sym (agree-locks (held a) (written (held a) ps new) rows id agree (agree-written (held a) rows ps new agree fit)) ∙ (rw is at e);
  goes_on = goes;
  frames = frames;
}

-- whether it succeeded or not, everything is sound, and the table shows what was done
pub record Wrote {A E : Type 0} (r : Result A E) (s n : StoreView) (rows : List (Entry Head)) (pages locks : ℕ) (ps : List Span) (new : List ℕ) : Type 0 where
  pub whole : IsWhole n rows pages locks
  pub keeps : KeepsMemory s n
  pub written : OnOk r (joined_table (held n) rows ≡ stored (joined_table (held s) rows) (span_places false ps) new)
  pub same : OnErr r (joined_table (held n) rows ≡ joined_table (held s) rows)

pub wrote : {A E : Type 0} (r : Result A E) (s n : StoreView) (rows : List (Entry Head)) (pages locks : ℕ) (ps : List Span) (new : List ℕ) → IsWhole s rows pages locks → All (SpanFits (joined_table (held s) rows)) ps → sum_by len_of ps ≡ length new
    → OnOk r (held n ≡ written (held s) ps new) → OnErr r (held n ≡ held s) → IsStoreSound n → LockedPagesStay s n → GoesOn s.swap n.swap → length n.frames ≡ length s.frames → Wrote r s n rows pages locks ps new
wrote (Ok a) s n rows pages locks ps new w fits size is same sound kept goes frames =
    let agree = w.kept.agree in
    let fit = spans-fit (held s) rows ps agree fits in
    record {
      whole = record { kept = rw is (kept-written (held s) rows pages locks ps new w.kept fit); sound = sound };
      keeps = memory-written s n rows ps new agree fit is kept goes frames;
      written = rw is (sym (store_shown (held s) rows false ps new agree fit size));
      same = tt;
    }
wrote (Err e) s n rows pages locks ps new w fits size is same sound kept goes frames = grind (arith, common_steps, kept, same, w.kept, memory-same)

-- NO SEGMENT

held-fresh : (frames : List Frame) (swap : SwapView) → held (fresh_store frames swap) ≡ []
unfolding held
held-fresh frames swap = refl

pub whole-fresh : (s : StoreView) (swap : SwapView) → s ≡ fresh_store s.frames swap → IsStoreSound s → IsWhole s [] 0 0
whole-fresh s swap is sound = grind (arith, common_steps, held-fresh, option_map)
