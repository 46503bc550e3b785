-- Spans within pages of live segments.
use Rattle.shm_segments.proofs.Names.{◌≡◌, ℕ, List, get_or, ap, arith, ltb-true, All, Span, Held, FitsPage, Head, whole, joined_table, Agree, pages_at, SpanFits, common_steps, option_map, pages_held, Entry, live_row}
use Rattle.shm_segments.proofs.Joins.{held-as}
use Rattle.shm_segments.proofs.Finding.{live-joined}

pages-row : (hs : List Held) (rows : List (Entry Head)) (id : ℕ) → pages_at (joined_table hs rows) id ≡ pages_held (option_map (whole hs id) (live_row rows id))
pages-row hs rows id = ap pages_held (live-joined hs rows id)

span-fits : (hs : List Held) (rows : List (Entry Head)) (p : Span) → Agree hs rows → SpanFits (joined_table hs rows) p → FitsPage hs p
span-fits hs rows p agree fit = grind (arith, common_steps, p.at, option_map, pages-row, ltb-true, fit.1, held-as, fit.0.1, fit.0.0)

pub spans-fit : (hs : List Held) (rows : List (Entry Head)) (ps : List Span) → Agree hs rows → All (SpanFits (joined_table hs rows)) ps → All (FitsPage hs) ps
spans-fit hs rows ps agree fit = λ k d lt. span-fits hs rows (get_or ps k d) agree (fit k d lt)
