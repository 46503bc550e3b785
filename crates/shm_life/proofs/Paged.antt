-- The page of an address, from the spans of a byte there.
use Rattle.shm_life.proofs.Names.{◌≡◌, ◌≤◌, ◌∙◌, ◌∷◌, [], ℕ, Bool, true, false, List, Some, None, length, refl, ap, arith, IsAccess, IsCaller, Machine, pieces_at, wanted_in, Entry, Span, Place, InPage, span_places, SpanFits, suc, zero, run, caller_of, Errno, Sigsegv, Called, ref_of, page_seen, page_shown, ◌++◌, slice_index_or, Option, Result, Ok, Err, IfOk, IfErr, is_ok, is_some}

shown-first : (n : ℕ) (p : Span) (rest : List Place) (w : Bool) → n ≡ p.len → InPage p → page_shown w (Some (run p.seg p.at n false ++ rest)) ≡ Ok (ref_of p, w)
shown-first zero p rest w is fit = absurd (omega (arith, is, fit.0))
shown-first (suc n) p rest w is fit = refl

page-found : (table : List Entry) (ps : List Span) (d : Span) (n : ℕ) (w : Bool) → IsAccess (SpanFits table) ps n → 1 ≤ length ps → page_shown w (Some (span_places false ps)) ≡ Ok (ref_of (slice_index_or ps 0 d), w)
page-found table [] d n w access some = absurd (omega (arith, some))
page-found table (p ∷ ps) d n w access some = let fit : SpanFits table p = access.fit 0 d (omega arith) in shown-first p.len p (span_places false ps) w refl fit.0

pub may-write : (r : Result (List Span) Errno) (o : Option (List Place)) → IfOk r (λ s. o ≡ Some (span_places false s)) → IfErr r (λ e. (e ≡ Sigsegv) × (o ≡ None)) → is_ok r ≡ is_some o
may-write (Ok s) o ok err = rw ok refl
may-write (Err e) o ok err = rw err.1 refl

pub page-seen-of : (m : Machine) (c : Called) (pid addr : ℕ) (ps : List Span) (d : Span) (may : Bool) → c.pid ≡ pid → IsCaller c m.runners → IsAccess (SpanFits m.table) ps 1 → 1 ≤ length ps
    → wanted_in false (pieces_at m.runners c.index) addr 1 ≡ Some (span_places false ps) → may ≡ is_some (wanted_in true (pieces_at m.runners c.index) addr 1) → page_seen (caller_of m pid) addr ≡ Ok (ref_of (slice_index_or ps 0 d), may)
page-seen-of m c pid addr ps d may same is access some wanted may-is =
    rw (← same, is, may-is) (ap (page_shown (is_some (wanted_in true (pieces_at m.runners c.index) addr 1))) wanted ∙ page-found m.table ps d 1 (is_some (wanted_in true (pieces_at m.runners c.index) addr 1)) access some)
