-- What holds after an access of the bytes of spans.
use Rattle.shm_segments.proofs.Names.{◌≡◌, ℕ, Bool, true, false, List, length, Option, Some, None, refl, sym, ◌∙◌, All, Result, OnOk, OnErr, Ok, Err, if◌then◌else◌, Span, Held, StoreView, Head, held, joined_table, read_from, SegmentsView, KeepsMemory, IsWhole, loaded, span_places, SpanFits, Entry, Agree, same_bytes, Acts, FitsRoom, put_by, size_of, table_with, get_or}
use Rattle.shm_fault.specs.Allowed.{IsAccess}
use Rattle.shm_fault.specs.declared.act.Act.{Act}
use Rattle.shm_fault.specs.declared.act.Act.TheVariants.{Nothing, Put, PutIfEqual, Add}
use Rattle.shm_fault.specs.declared.touched.PagerFailed.{PagerFailed}
use Rattle.shm_fault.specs.declared.touched.Touched.{Touched}
use Rattle.shm_segments.specs.Acted.{Acted}
use Rattle.shm_fault.proofs.Spans.{fits-has}
use Rattle.shm_segments.proofs.Remembered.{Wrote, wrote, memory-same}
use Rattle.shm_segments.proofs.Shown.{load_shown}
use Rattle.shm_segments.proofs.Spanning.{spans-fit}

-- the bytes of the spans, as the table shows them
pub loads : (hs : List Held) (rows : List (Entry Head)) (ps : List Span) → Agree hs rows → All (SpanFits (joined_table hs rows)) ps → loaded (joined_table hs rows) (span_places false ps) ≡ read_from hs ps
loads hs rows ps agree fit = load_shown hs rows false ps agree (spans-fit hs rows ps agree fit)

-- bytes that are put, if any, are this many
abbrev IsLong : ℕ → Option (List ℕ) → Type 0
IsLong n None = Unit {0}
IsLong n (Some bytes) = length bytes ≡ n

long-if : (b : Bool) (n : ℕ) (bytes : List ℕ) → length bytes ≡ n → IsLong n (if b then Some bytes else None)
long-if true n bytes long = long
long-if false n bytes long = tt

pub put-long : (act : Act) (room : ℕ) (old : List ℕ) → FitsRoom act room → IsLong (size_of act room) (put_by act old)
put-long Nothing room old fits = tt
put-long (Put bytes) room old fits = refl
put-long (PutIfEqual expected bytes) room old fits = long-if (same_bytes old expected.now) room bytes.now fits
put-long (Add more) room old fits = sym fits

-- the table and the memory afterwards
record Kept {A E : Type 0} (r : Result A E) (put : Option (List ℕ)) (s n : StoreView) (rows : List (Entry Head)) (pages locks : ℕ) (ps : List Span) : Type 0 where
  pub whole : IsWhole n rows pages locks
  pub keeps : KeepsMemory s n
  pub written : OnOk r (joined_table (held n) rows ≡ table_with (joined_table (held s) rows) (span_places false ps) put)
  pub same : OnErr r (joined_table (held n) rows ≡ joined_table (held s) rows)

kept : {A E : Type 0} (r : Result A E) (put : Option (List ℕ)) (s n : StoreView) (rows : List (Entry Head)) (pages locks : ℕ) (ps : List Span) (size : ℕ) (before after : List ℕ) (answer : Result Touched PagerFailed) → IsWhole s rows pages locks
    → IsAccess (SpanFits (joined_table (held s) rows)) ps size → IsLong size put → Acts put ps before after s n r answer → Kept r put s n rows pages locks ps
kept r (Some new) s n rows pages locks ps size before after answer w a long e =
    let all : Wrote r s n rows pages locks ps new = wrote r s n rows pages locks ps new w a.fit (a.sum ∙ sym long) e.written e.same e.access.sound e.access.kept e.access.counts e.access.size in
    record { whole = all.whole; keeps = all.keeps; written = all.written; same = all.same }
kept (Ok x) None s n rows pages locks ps size before after answer w a long e = record {
  whole = record { kept = rw e.written w.kept; sound = e.access.sound };
  keeps = memory-same s n e.written e.access.kept e.access.counts e.access.size;
  written = rw e.written refl;
  same = tt;
}
kept (Err x) None s n rows pages locks ps size before after answer w a long e = record {
  whole = record { kept = rw e.same w.kept; sound = e.access.sound };
  keeps = memory-same s n e.same e.access.kept e.access.counts e.access.size;
  written = tt;
  same = rw e.same refl;
}

abbrev seen : StoreView → List (Entry Head) → SegmentsView
seen m rows = record { table = joined_table (held m) rows; memory = m }

-- whether it succeeded or not, everything is sound, and the table shows what was done
pub acted : {A E : Type 0} (r : Result A E) (put : Option (List ℕ)) (s n : StoreView) (rows : List (Entry Head)) (pages locks : ℕ) (ps : List Span) (size : ℕ) (before after : List ℕ) (answer : Result Touched PagerFailed) → IsWhole s rows pages locks
    → IsAccess (SpanFits (joined_table (held s) rows)) ps size → IsLong size put → Acts put ps before after s n r answer
    → IsWhole n rows pages locks × Acted put ps before after (seen s rows) (seen n rows) r answer
acted r put s n rows pages locks ps size before after answer w a long e =
    let all = kept r put s n rows pages locks ps size before after answer w a long e in (
      all.whole,
      record {
        there = rw (loads (held s) rows ps w.kept.agree a.fit) e.there;
        kept = e.kept;
        written = all.written;
        same = all.same;
        access = e.access;
        keeps = all.keeps;
        has = λ k d lt. fits-has s w.sound (get_or ps k d) (spans-fit (held s) rows ps w.kept.agree a.fit k d lt);
        places = e.places;
        stopped = e.stopped;
      },
    )
