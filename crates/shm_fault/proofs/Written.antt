-- Spans read and written one after another.
use Rattle.shm_fault.proofs.Names.{◌≡◌, ℕ, ◌+◌, ◌<◌, ◌≤◌, List, ◌++◌, length, get_or, take, drop, map, None, arith, append_assoc, common_steps, drop_more, All, Span, Held, read_from, span_bytes, pasted, written, FitsPage}
use Rattle.std.proofs.lemmas.Slice.{take-put_mid}
use borrow.Rule.Slice.PartMut.{put_mid}
use Rattle.shm_fault.proofs.Pasted.{fits-pasted}

abbrev pub no_span : Span
no_span = record { seg = 0; at = 0; len = 0; frame = None }

abbrev pub span_at : List Span → ℕ → Span
span_at ps k = get_or ps k no_span

pub length-put_mid : (at room : ℕ) (out new : List ℕ) → at + room ≤ length out → length new ≡ room → length (put_mid at room out new) ≡ length out
length-put_mid at room out new within size = grind (arith, common_steps)

-- one span more is read
pub read_more : (hs : List Held) (ps : List Span) (k : ℕ) (out new : List ℕ) (done room : ℕ)
    → k < length ps → done ≤ length out → new ≡ span_bytes hs (span_at ps k) → length new ≡ (span_at ps k).len
    → take (done + (span_at ps k).len) (put_mid done room out new) ++ read_from hs (drop (k + 1) ps) ≡ take done out ++ read_from hs (drop k ps)
read_more hs ps k out new done room lt within bytes size = grind (arith, common_steps, take-put_mid, append_assoc, drop_more)

-- one span more is written
pub write_more : (hs : List Held) (ps : List Span) (k : ℕ) (bytes new : List ℕ) (done : ℕ)
    → k < length ps → new ≡ take (span_at ps k).len (drop done bytes)
    → written (map (pasted (span_at ps k).seg (span_at ps k).at new) hs) (drop (k + 1) ps) (drop (done + (span_at ps k).len) bytes) ≡ written hs (drop k ps) (drop done bytes)
write_more hs ps k bytes new done lt taken = grind (arith, common_steps)

-- what fits before one is written fits after
pub all_fit : (hs : List Held) (ps : List Span) (k : ℕ) (new : List ℕ) → k < length ps → length new ≤ (span_at ps k).len → All (FitsPage hs) ps
    → All (FitsPage (map (pasted (span_at ps k).seg (span_at ps k).at new) hs)) ps
all_fit hs ps k new lt few fit = λ j d within. fits-pasted hs (span_at ps k) (get_or ps j d) new few (fit k no_span lt) (fit j d within)
