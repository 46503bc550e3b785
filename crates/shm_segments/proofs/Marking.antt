-- Marks of frames, and bytes put into a page that is in one: no page moves.
use Rattle.shm_segments.proofs.Names.{◌≡◌, ◌∷◌, [], ℕ, ap, zero, suc, length, refl, arith, All, Ok, Result, List, Entry, Head, Span, StoreView, held, joined_table, GoesOn, GoesOn-refl, KeepsMemory, LockedPagesStay, IsWhole, SpanFits, FitsPage, PutAt, PageRef, Bool}
use Rattle.shm_fault.specs.Store.{frame_of}
use Rattle.shm_fault.specs.Loans.{SetsLent}
use Rattle.shm_segments.proofs.Remembered.{Wrote, wrote, memory-same}
use Rattle.shm_segments.proofs.Spanning.{spans-fit}

module _ (s t : StoreView) (rest : t ≡ record s { frames = t.frames }) where
  segs-same : t.segs ≡ s.segs
  segs-same = ap (λ (v : StoreView). v.segs) rest

  frames-stay : LockedPagesStay s t
  unfolding frame_of
  frames-stay seg page before after here = rw segs-same here

  frames-goes : GoesOn s.swap t.swap
  frames-goes = rw rest (GoesOn-refl s.swap)

-- one span is all of a list
pub only : (P : Span → Type 0) (p : Span) → P p → All P (p ∷ [])
only P p fits zero d lt = fits
only P p fits (suc k) d lt = absurd (omega arith)

pub one-fits : (s : StoreView) (rows : List (Entry Head)) (pages locks : ℕ) (p : Span) → IsWhole s rows pages locks → SpanFits (joined_table (held s) rows) p → FitsPage (held s) p
one-fits s rows pages locks p w fits = spans-fit (held s) rows (p ∷ []) w.kept.agree (only (SpanFits (joined_table (held s) rows)) p fits) 0 p (omega arith)

-- a page was marked
pub record Marked (s t : StoreView) (rows : List (Entry Head)) (pages locks : ℕ) : Type 0 where
  pub whole : IsWhole t rows pages locks
  pub keeps : KeepsMemory s t
  pub table : joined_table (held t) rows ≡ joined_table (held s) rows

pub marked : (r : PageRef) (lent : Bool) (s t : StoreView) (rows : List (Entry Head)) (pages locks : ℕ) → IsWhole s rows pages locks → SetsLent r lent s t → Marked s t rows pages locks
marked r lent s t rows pages locks w set = record {
  whole = record { kept = rw set.held w.kept; sound = set.sound };
  keeps = memory-same s t set.held (frames-stay s t set.rest) (frames-goes s t set.rest) set.count;
  table = rw set.held refl;
}

-- bytes came back
abbrev pub came : Result (Unit {0}) (Unit {0})
came = Ok tt

pub came-back : (p : Span) (bytes : List ℕ) (s t : StoreView) (rows : List (Entry Head)) (pages locks : ℕ) → IsWhole s rows pages locks → SpanFits (joined_table (held s) rows) p → p.len ≡ length bytes → PutAt bytes (p ∷ []) s t
    → Wrote came s t rows pages locks (p ∷ []) bytes
came-back p bytes s t rows pages locks w fits size put =
    wrote came s t rows pages locks (p ∷ []) bytes w (only (SpanFits (joined_table (held s) rows)) p fits) (omega (arith, size)) put.written tt put.sound (frames-stay s t put.rest) (frames-goes s t put.rest) put.count
