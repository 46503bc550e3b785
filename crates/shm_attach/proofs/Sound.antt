-- A change of one process keeps the counts exact, and each piece keeps its segment's table.
use Rattle.shm_attach.proofs.Names.{is_live, true, false, true≢false, most_at, length-set_value_at, values_of, ◌≡◌, ◌≢◌, ℕ, ◌+◌, ◌<◌, ◌≤◌, List, [], length, Option, None, Some, slice_get, sym, subst, arith, common_steps, All, length-map, set_value_at, lowest_address, inserted, cut, without_named, pieces_of, bare_all, Arranged, arranged_cut, arranged_inserted, Tables, runner_view, runners_view, with_pieces_at, with_life_at, pieces_at, life_at, counted, stored_at, HasTable, OneTableEach, AllHaveTables, IsPlaceFor, AreCountsExact, AreTablesSound, HasReservations, no_reservations, one_reserved, Piece, Runner, MOST_PIECES, most_of_segment, attached_at, without_attach, without_segment, KeepFrames, IsPageRange}
use Rattle.shm_base.specs.State as flat
use Rattle.shm_attach.specs.Changes as changes
use Rattle.shm_attach.proofs.Processes.{some_if-le, runners_set, length-inserted, shorter_filter}
use Rattle.shm_attach.proofs.Keeping.{IsExact-changed, IsExact-life, arranged-without, small_counts, own_counted}
use Rattle.shm_attach.proofs.HavingTables.{most_at-set, stored_at-value, pieces_at-stored, stored_at-set, stored_at-other, tables-changed, tables-all}

-- ONE PROCESS

-- it has other pieces
record IsChanged (es fs : List (ℕ × Runner)) (i : ℕ) (f : List flat.Piece → List flat.Piece) (stored : List Piece) : Type 0 where
  pub runners : runners_view fs ≡ with_pieces_at (runners_view es) i f
  pub count : length fs ≡ length es
  pub own : stored_at fs i ≡ stored
  pub others : (j : ℕ) → j ≢ i → stored_at fs j ≡ stored_at es j
  pub most : (j : ℕ) → most_at fs j ≡ most_at es j

changed : (es : List (ℕ × Runner)) (i : ℕ) (w v : Runner) (f : List flat.Piece → List flat.Piece) → Some w ≡ slice_get (values_of es) i → v.life ≡ w.life
    → bare_all v.space.pieces ≡ f (bare_all w.space.pieces) → v.space.most ≡ w.space.most → IsChanged es (set_value_at es i v) i f v.space.pieces
changed es i w v f at life space most = grind (arith, common_steps, runners_set, length-set_value_at, stored_at-set, stored_at-other, (most_at-set es i w v at most))

-- the tables follow when pieces are replaced by others
pub record IsRecounted (t u : Tables) (before after : List flat.Piece) : Type 0 where
  pub counts : (id : ℕ) → counted u id + pieces_of id before ≡ counted t id + pieces_of id after
  pub tables : (p : Piece) → HasTable t.slab p → 0 < counted u p.seg → HasTable u.slab p
  pub tied : OneTableEach u

-- other pieces that are few and in order
pub record AreFit (rs : List flat.Runner) (i : ℕ) (ps : List flat.Piece) : Type 0 where
  pub few : length ps ≤ MOST_PIECES
  pub order : Arranged lowest_address ps
  pub idle : is_live (life_at rs i) ≡ false → ps ≡ []

-- one more piece, if there is room for it
pub fit-inserted : (extra : ℕ → ℕ) (es : List (ℕ × Runner)) (t : Tables) (i : ℕ) (p : flat.Piece) → AreTablesSound extra es t → IsPlaceFor p (pieces_at (runners_view es) i)
    → is_live (life_at (runners_view es) i) ≡ true → AreFit (runners_view es) i (inserted p (pieces_at (runners_view es) i))
fit-inserted extra es t i p sound place live = grind (arith, common_steps, length-inserted, arranged_inserted, true≢false)

-- a range of whole pages is cut out
pub fit-cut : (extra : ℕ → ℕ) (es : List (ℕ × Runner)) (t : Tables) (i from to : ℕ) → AreTablesSound extra es t → IsPageRange from to → length (cut from to (pieces_at (runners_view es) i)) ≤ MOST_PIECES
    → AreFit (runners_view es) i (cut from to (pieces_at (runners_view es) i))
fit-cut extra es t i from to sound range few = grind (arith, common_steps, arranged_cut)

-- the pieces of an attach are removed
fit-without : (extra : ℕ → ℕ) (es : List (ℕ × Runner)) (t : Tables) (i addr seg : ℕ) → AreTablesSound extra es t
    → AreFit (runners_view es) i (without_named addr seg (pieces_at (runners_view es) i))
fit-without extra es t i addr seg sound = grind (arith, common_steps, shorter_filter, arranged-without)

-- what is left of an attach is removed, if there is any
pub fit-attach : (extra : ℕ → ℕ) (es : List (ℕ × Runner)) (t : Tables) (i addr : ℕ) → AreTablesSound extra es t
    → AreFit (runners_view es) i (without_attach addr (pieces_at (runners_view es) i))
fit-attach extra es t i addr sound = by (attached_at addr (pieces_at (runners_view es) i))
  where
    by : (o : Option ℕ) → AreFit (runners_view es) i (without_segment addr o (pieces_at (runners_view es) i))
    by None = record { few = sound.exact.pieces i; order = sound.exact.arranged i; idle = sound.exact.idle i }
    by (Some seg) = fit-without extra es t i addr seg sound

sound-changed : (extra : ℕ → ℕ) (es : List (ℕ × Runner)) (t u : Tables) (i : ℕ) (w v : Runner) (f : List flat.Piece → List flat.Piece) → i < length es
    → Some w ≡ slice_get (values_of es) i → v.life ≡ w.life → bare_all v.space.pieces ≡ f (bare_all w.space.pieces) → v.space.most ≡ w.space.most → AreTablesSound extra es t
    → AreFit (runners_view es) i (f (pieces_at (runners_view es) i)) → (All (HasTable t.slab) w.space.pieces → All (HasTable t.slab) v.space.pieces)
    → IsRecounted t u (bare_all w.space.pieces) (f (bare_all w.space.pieces)) → AreTablesSound extra (set_value_at es i v) u
sound-changed extra es t u i w v f lt at life space most sound fit table re =
    let rs = runners_view es in
    let fs = set_value_at es i v in
    let ch = changed es i w v f at life space most in
    let within : i < length rs = omega (arith, lt, length-map es runner_view) in
    let exact : AreCountsExact extra (runners_view fs) u =
    rw ch.runners (IsExact-changed extra rs i f t u sound.exact within fit.few fit.order fit.idle (rw (pieces_at-stored es i w at) re.counts)) in
    let here : All (HasTable t.slab) (stored_at fs i) = rw ch.own (table (rw (stored_at-value es i w at) at (sound.tables i))) in
    let left : AllHaveTables fs t.slab = tables-changed es fs t.slab i sound.tables here ch.others in
    record { exact = exact; tied = re.tied; tables = tables-all extra fs t.slab u exact left re.tables }

-- the whole change, with what pieces keep of their tables
pub is_changed : (Kept : Type 0) (es : List (ℕ × Runner)) (t u : Tables) (i : ℕ) (w v : Runner) (f : List flat.Piece → List flat.Piece) → i < length es → Some w ≡ slice_get (values_of es) i → v.life ≡ w.life
    → bare_all v.space.pieces ≡ f (bare_all w.space.pieces) → v.space.most ≡ w.space.most
    → ((extra : ℕ → ℕ) → AreTablesSound extra es t → AreFit (runners_view es) i (f (pieces_at (runners_view es) i))) → (All (HasTable t.slab) w.space.pieces → All (HasTable t.slab) v.space.pieces)
    → (OneTableEach t → IsRecounted t u (bare_all w.space.pieces) (f (bare_all w.space.pieces))) → Kept → KeepFrames t.slab u.slab → changes.IsChanged Kept es (set_value_at es i v) t u i f
is_changed Kept es t u i w v f lt at life space most fit table re kept frames =
    let ch = changed es i w v f at life space most in
    record {
      runners = ch.runners;
      count = ch.count;
      others = ch.others;
      most = ch.most;
      sound = λ extra s. sound-changed extra es t u i w v f lt at life space most s (fit extra s) table (re s.tied);
      tables = kept;
      translated = frames;
    }

pub sound-life : (es fs : List (ℕ × Runner)) (t : Tables) (i : ℕ) (l : flat.Life) → i < length es → (is_live l ≡ false → pieces_at (runners_view es) i ≡ []) → AreTablesSound no_reservations es t
    → runners_view fs ≡ with_life_at (runners_view es) i l → ((j : ℕ) → stored_at fs j ≡ stored_at es j) → AreTablesSound no_reservations fs t
sound-life es fs t i l lt idle sound life same =
    let within : i < length (runners_view es) = omega (arith, lt, length-map es runner_view) in
    record {
      exact = rw life (IsExact-life no_reservations (runners_view es) i l t sound.exact within idle);
      tied = sound.tied;
      tables = λ j. subst (λ (ps : List Piece). All (HasTable t.slab) ps) (sym (same j)) (sound.tables j);
    }

-- THE TABLES THAT ARE RESERVED

-- other tables are reserved in addition to those of the pieces
pub sound-reserved : (e f : ℕ → ℕ) (es : List (ℕ × Runner)) (t u : Tables) → AreTablesSound e es t → ((id : ℕ) → counted u id + e id ≡ counted t id + f id) → OneTableEach u
    → ((p : Piece) → HasTable t.slab p → 0 < counted u p.seg → HasTable u.slab p) → AreTablesSound f es u
sound-reserved e f es t u sound counts tied step =
    let exact : AreCountsExact f (runners_view es) u =
    record {
      counts = λ id. omega (arith, counts id, sound.exact.counts id);
      processes = sound.exact.processes;
      pieces = sound.exact.pieces;
      idle = sound.exact.idle;
      arranged = sound.exact.arranged;
    } in
    record { exact = exact; tied = tied; tables = tables-all f es t.slab u exact sound.tables step }

pub none_reserved : (es : List (ℕ × Runner)) (t : Tables) → AreTablesSound no_reservations es t → HasReservations es t
none_reserved es t sound = record { extra = no_reservations; few = λ id. omega arith; sound = sound }

pub one_more_reserved : (seg : ℕ) (es : List (ℕ × Runner)) (t : Tables) → AreTablesSound (one_reserved seg) es t → HasReservations es t
one_more_reserved seg es t sound = record { extra = one_reserved seg; few = λ id. some_if-le id seg 1; sound = sound }

-- a segment whose table is reserved is counted
pub counts_reserved : (seg : ℕ) (es : List (ℕ × Runner)) (t : Tables) → AreTablesSound (one_reserved seg) es t → 1 ≤ counted t seg
counts_reserved seg es t sound = grind (arith, common_steps)

-- THE COUNTS

pub counts-small : (es : List (ℕ × Runner)) (t : Tables) → HasReservations es t → (id : ℕ) → counted t id ≤ most_of_segment + 1
counts-small es t h id = omega (arith, small_counts h.extra (runners_view es) t h.sound.exact id, h.few id)

pub counts-own : (es : List (ℕ × Runner)) (t : Tables) (i : ℕ) → HasReservations es t → i < length es → (id : ℕ) → pieces_of id (pieces_at (runners_view es) i) ≤ counted t id
counts-own es t i h lt id = own_counted h.extra (runners_view es) t i h.sound.exact (omega (arith, lt, length-map es runner_view)) id
