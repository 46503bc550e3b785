-- A copy of the processes and of the tables.
use Rattle.shm_attach.proofs.Names.{◌≡◌, ◌∙◌, ℕ, List, Option, Some, None, refl, ap, sym, get_or, runners_view, Slab, get, TableView, count_in, seg_in, counted, counted_under, key_of, stored_at, HasTable, OneTableEach, AllHaveTables, AreCountsExact, AreTablesSound, Tables, Runner, slice_index_or, IsSlotClone, AreSameTables}

pub same_slot : (x y : Option TableView) → IsSlotClone (λ (t copy : TableView). copy ≡ t) x y → y ≡ x
same_slot None y same = same
same_slot (Some t) None some = absurd some
same_slot (Some t) (Some copy) some = ap (λ (v : TableView). Some v) some

get-same : (s r : Slab TableView) (k : ℕ) → r.slots ≡ s.slots → get r k ≡ get s k
get-same s r k same = ap (λ (slots : List (Option TableView)). slice_index_or slots k None) same

counted_under-same : (s r : Slab TableView) (o : Option ℕ) → r.slots ≡ s.slots → counted_under r o ≡ counted_under s o
counted_under-same s r None same = refl
counted_under-same s r (Some k) same = ap count_in (get-same s r k same)

counted-same : (t u : Tables) → AreSameTables t u → (id : ℕ) → counted u id ≡ counted t id
counted-same t u same id = ap (counted_under u.slab) (same.keyed id) ∙ counted_under-same t.slab u.slab (key_of t id) same.slots

tied-same : (t u : Tables) → AreSameTables t u → OneTableEach t → OneTableEach u
tied-same t u same tied =
    record {
      keyed = λ id key own. ap seg_in (get-same t.slab u.slab key same.slots) ∙ tied.keyed id key (sym (same.keyed id) ∙ own);
      named = λ id key own. same.keyed id ∙ tied.named id key (sym (ap seg_in (get-same t.slab u.slab key same.slots)) ∙ own);
      some = λ id none. same.keyed id ∙ tied.some id (sym (counted-same t u same id) ∙ none);
    }

tables-same : (es : List (ℕ × Runner)) (t u : Tables) → AreSameTables t u → AllHaveTables es t.slab → AllHaveTables es u.slab
tables-same es t u same all i k d lt =
    let p = get_or (stored_at es i) k d in
    let own : HasTable t.slab p = all i k d lt in
    let at = get-same t.slab u.slab p.key same.slots in
    record { seg = ap seg_in at ∙ own.seg; pages = rw at own.pages }

-- the invariant of the processes and their tables holds for copies of the tables
pub sound-same : (extra : ℕ → ℕ) (es : List (ℕ × Runner)) (t u : Tables) → AreSameTables t u → AreTablesSound extra es t → AreTablesSound extra es u
sound-same extra es t u same sound =
    let exact : AreCountsExact extra (runners_view es) u =
    record {
      counts = λ id. counted-same t u same id ∙ sound.exact.counts id;
      processes = sound.exact.processes;
      pieces = sound.exact.pieces;
      idle = sound.exact.idle;
      arranged = sound.exact.arranged;
    } in
    record { exact = exact; tied = tied-same t u same sound.tied; tables = tables-same es t u same sound.tables }
