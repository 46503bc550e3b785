-- The stored processes, as the flat machine shows them.
use Rattle.std.specs.Prelude.{ℕ, ◌≡◌, ◌<◌, ◌≤◌, length, List, map, Option, Some, None, if◌then◌else◌, ◌==◌, slice_get, slice_set}
use Rattle.shm_base.specs.State as flat
use Rattle.shm_areas.specs.Arranged.{bare_all}
use Rattle.shm_base.specs.declared.bounds.TheConstants.{MOST_PIECES}
use Rattle.shm_attach.specs.declared.process.Life.{Life}
use Rattle.shm_attach.specs.declared.process.Life.TheVariants.{Unborn, Live, Ended}
use Rattle.shm_attach.specs.declared.process.Runner.{Runner}

abbrev pub life_view : Life → flat.Life
life_view Unborn = flat.Unborn
life_view (Live cred) = flat.Live cred
life_view Ended = flat.Ended

abbrev pub runner_view : ℕ × Runner → flat.Runner
runner_view e = record { pid = e.0; life = life_view e.1.life; pieces = bare_all e.1.space.pieces }

abbrev pub runners_view : List (ℕ × Runner) → List flat.Runner
runners_view es = map runner_view es

abbrev pub with_own : List flat.Runner → ℕ → (List flat.Piece → List flat.Piece) → Option flat.Runner → List flat.Runner
with_own rs i f None = rs
with_own rs i f (Some r) = slice_set rs i (record r { pieces = f r.pieces })

-- the processes, with one process's pieces changed
abbrev pub with_pieces_at : List flat.Runner → ℕ → (List flat.Piece → List flat.Piece) → List flat.Runner
with_pieces_at rs i f = with_own rs i f (slice_get rs i)

-- this many for one segment, and none for any other
abbrev pub some_if : ℕ → ℕ → ℕ → ℕ
some_if id seg n = if seg == id then n else 0

abbrev pub with_other_life : List flat.Runner → ℕ → flat.Life → Option flat.Runner → List flat.Runner
with_other_life rs i l None = rs
with_other_life rs i l (Some r) = slice_set rs i (record r { life = l })

-- the processes, with another state for one of them
abbrev pub with_life_at : List flat.Runner → ℕ → flat.Life → List flat.Runner
with_life_at rs i l = with_other_life rs i l (slice_get rs i)

abbrev pub most_in : Option (ℕ × Runner) → ℕ
most_in None = 0
most_in (Some e) = e.1.space.most

-- the limit of pieces of the process at an index
abbrev pub most_at : List (ℕ × Runner) → ℕ → ℕ
most_at es i = most_in (slice_get es i)

-- each process has room for this many pieces
pub record HaveRoom (most : ℕ) (es : List (ℕ × Runner)) : Type 0 where
  pub bound : most ≤ MOST_PIECES
  pub each : (i : ℕ) → i < length es → most_at es i ≡ most
