-- What a change of one process's pieces leaves of the processes and of the tables.
use Rattle.std.specs.Prelude.{◌≡◌, ◌≢◌, ℕ, ◌+◌, List, length, Option, Some, None, option_map}
use Rattle.shm_base.specs.State as flat
use Rattle.shm_base.specs.Space.{cut, origin_of, pieces_of, without_named}
use Rattle.shm_areas.specs.Arranged.{bare_all}
use Rattle.shm_areas.specs.declared.piece.Piece.{Piece}
use Rattle.shm_attach.specs.Exact.{AreTablesSound}
use Rattle.shm_attach.specs.Tables.{counted, stored_at, OneTableEach, KeepCounted, KeepFrames}
use Rattle.shm_attach.specs.Views.{runners_view, with_pieces_at, most_at}
use Rattle.shm_attach.specs.declared.process.Runner.{Runner}
use Rattle.shm_attach.specs.declared.tables.Tables.{Tables}

-- the change applies to the pieces of process i, and nothing else changed; `Kept` is what pieces keep of their tables
pub record IsChanged (Kept : Type 0) (es fs : List (ℕ × Runner)) (t u : Tables) (i : ℕ) (change : List flat.Piece → List flat.Piece) : Type 0 where
  pub runners : runners_view fs ≡ with_pieces_at (runners_view es) i change
  pub count : length fs ≡ length es
  pub others : (j : ℕ) → j ≢ i → stored_at fs j ≡ stored_at es j
  pub most : (j : ℕ) → most_at fs j ≡ most_at es j
  pub sound : (extra : ℕ → ℕ) → AreTablesSound extra es t → AreTablesSound extra fs u
  pub tables : Kept
  pub translated : KeepFrames t.slab u.slab

-- the counts of a range's pieces are those of their rests now
pub record AreRecounted (met : List Piece) (from to : ℕ) (t u : Tables) : Type 0 where
  pub counts : (id : ℕ) → counted u id + pieces_of id (bare_all met) ≡ counted t id + pieces_of id (cut from to (bare_all met))
  pub tables : KeepCounted t u
  pub translated : KeepFrames t.slab u.slab
  pub tied : OneTableEach u

-- the segment of the attach with this origin: that of the lowest piece
abbrev pub attached_at : ℕ → List flat.Piece → Option ℕ
attached_at addr ps = option_map (λ (p : flat.Piece). p.seg) (origin_of addr ps)

abbrev pub without_segment : ℕ → Option ℕ → List flat.Piece → List flat.Piece
without_segment addr None ps = ps
without_segment addr (Some seg) ps = without_named addr seg ps

-- the pieces, without what is left of the attach
abbrev pub without_attach : ℕ → List flat.Piece → List flat.Piece
without_attach addr ps = without_segment addr (attached_at addr ps) ps
