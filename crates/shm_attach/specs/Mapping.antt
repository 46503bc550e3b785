-- Results of unmap and protect, and the pieces of one process afterwards.
use Rattle.std.specs.Prelude.{◌≡◌, ℕ, ◌+◌, ◌*◌, ◌/◌, ◌-◌, ◌%◌, ◌<◌, ◌≤◌, Bool, nat_lt, if◌then◌else◌, List, [], ◌∷◌, ◌++◌, length, Option, Some, None, option_to_list, IfSome, Result, Ok, Err, true, All}
use Rattle.shm_base.specs.State as flat
use Rattle.shm_base.specs.State.{Piece}
use Rattle.shm_base.specs.Callers.{with_pieces}
use Rattle.shm_base.specs.Access.{end_of}
use Rattle.shm_base.specs.Space.{lowest_address, end_address, covering, inserted, cut, new_piece, pieces_of}
use Rattle.shm_attach.specs.Spans.{HasPages}
use Rattle.shm_base.specs.Guest.{is_live}
use Rattle.shm_base.specs.Mapping.{Protected, stopped, protects_piece, protects_from, protects_pieces}
use Rattle.shm_base.specs.declared.bounds.TheConstants.{MOST_PIECES, MOST_SHMALL}
use Rattle.shm_base.specs.declared.errno.Errno.{Errno}
use Rattle.shm_base.specs.declared.errno.Errno.TheVariants.{Enomem}
use Rattle.shm_base.specs.declared.paging.TheConstants.{PAGE_SIZE}
use Rattle.shm_areas.specs.Arranged.{bare}
use Rattle.shm_areas.specs.declared.piece.Piece.{Piece as Stored}
use Rattle.shm_attach.specs.Exact.{AreTablesSound, no_reservations}
use Rattle.shm_attach.specs.Place.{IsRange}
use Rattle.shm_attach.specs.Spaces.{SpacesView, pieces_at, life_at, caller_seen}
use Rattle.shm_attach.specs.Table.{AllTrue}
use Rattle.shm_attach.specs.Tables.{HasTable}
use Rattle.shm_attach.specs.Views.{runners_view, with_pieces_at, most_at}
use Rattle.shm_attach.specs.declared.mapping.Passed.{Passed}
use Rattle.shm_attach.specs.declared.process.Caller.{Caller}
use Rattle.shm_attach.specs.declared.process.Runner.{Runner}
use Rattle.shm_attach.specs.declared.tables.Tables.{Tables}

-- why a change stopped early, if it did
abbrev pub refusal_in : {T : Type 0} → Result T Errno → Option Errno
refusal_in (Ok done) = None
refusal_in (Err e) = Some e

-- a process keeps a piece of each segment that it had, and gets no page that it did not have
pub record KeepsOwn (before after : List Piece) : Type 0 where
  pub named : (id : ℕ) → 0 < pieces_of id before → 0 < pieces_of id after
  pub pages : (seg : ℕ → Bool) (page : ℕ → ℕ → Bool) → All (HasPages seg page) before → All (HasPages seg page) after

-- a range of some whole pages
pub record IsPageRange (from to : ℕ) : Type 0 where
  pub from_page : from % PAGE_SIZE ≡ 0
  pub to_page : to % PAGE_SIZE ≡ 0
  pub order : from < to

-- the pieces of a caller, and the processes with other pieces for it
abbrev pub own_pieces : SpacesView → Caller → List Piece
own_pieces s c = pieces_at s.runners c.index

abbrev pub with_own_pieces : SpacesView → Caller → List Piece → List flat.Runner
with_own_pieces s c ps = with_pieces s.runners (caller_seen c s.runners) ps

-- a caller's pieces without those in a range of pages, and the processes after a segment is attached there
abbrev pub left_beside : SpacesView → Caller → ℕ → ℕ → List Piece
left_beside s c base pages = cut base (base + PAGE_SIZE * pages) (own_pieces s c)

abbrev pub attached : SpacesView → Caller → ℕ → ℕ → ℕ → Bool → List flat.Runner
attached s c seg base pages w = with_own_pieces s c (inserted (new_piece seg base pages w) (left_beside s c base pages))

-- the processes after an unmap, which is refused exactly if it would leave too many pieces
abbrev pub unmapped : SpacesView → Caller → ℕ → ℕ → List flat.Runner
unmapped s c from to = with_own_pieces s c (cut from to (own_pieces s c))

abbrev pub unmap_refusal : SpacesView → Caller → ℕ → ℕ → Option Errno
unmap_refusal s c from to = if nat_lt s.most (length (cut from to (own_pieces s c))) then Some Enomem else None

-- a caller's pieces after a protect, and the processes
abbrev pub protected_by : SpacesView → Caller → Bool → ℕ → ℕ → Protected
protected_by s c w addr len = protects_pieces s.most w addr len (own_pieces s c)

abbrev pub protected : SpacesView → Caller → Bool → ℕ → ℕ → List flat.Runner
protected s c w addr len = with_own_pieces s c (protected_by s c w addr len).pieces

-- the pieces of the process at an index
abbrev pub held : List (ℕ × Runner) → ℕ → List Piece
held es i = pieces_at (runners_view es) i

-- the pieces of the process at an index after a protect of whole pages
abbrev pub protected_between : List (ℕ × Runner) → ℕ → Bool → ℕ → ℕ → Protected
protected_between es i w from to = protects_from ((to - from) / PAGE_SIZE) (most_at es i) w to from (held es i)

-- the same, with these segments noted before the others
abbrev pub noted : List ℕ → Protected → Protected
noted ids x = record x { split = ids ++ x.split }

-- names the segment if a change makes more pieces
abbrev pub split_in : ℕ → ℕ → ℕ → List ℕ
split_in id before after = if nat_lt before after then id ∷ [] else []

-- the parts of `protected_between`
abbrev pub pieces_between : List (ℕ × Runner) → ℕ → Bool → ℕ → ℕ → List Piece
pieces_between es i w from to = (protected_between es i w from to).pieces

abbrev pub split_between : List (ℕ × Runner) → ℕ → Bool → ℕ → ℕ → List ℕ
split_between es i w from to = (protected_between es i w from to).split

abbrev pub refusal_between : List (ℕ × Runner) → ℕ → Bool → ℕ → ℕ → Option Errno
refusal_between es i w from to = (protected_between es i w from to).refusal

-- how a protect continues after a piece, or why it stopped there
abbrev pub continued : Result Passed Errno → (ℕ → List Piece → Protected) → List Piece → Protected
continued (Ok passed) next ps = noted (option_to_list passed.split) (next passed.end ps)
continued (Err e) next ps = stopped ps e

-- the process has the pieces that a protect makes from the one at an address
abbrev pub IsProtectedAt : List (ℕ × Runner) → List (ℕ × Runner) → ℕ → Bool → ℕ → ℕ → Result Passed Errno → Type 0
IsProtectedAt es fs i w at to r =
    (next : ℕ → List Piece → Protected)
    → protects_piece (most_at es i) w at to (held es i) next (covering at (held es i)) ≡ continued r next (held fs i)

-- the process has at least as many pieces as before; if a segment is named, one more, for which there is room
pub record Grows (es fs : List (ℕ × Runner)) (i : ℕ) (split : Option ℕ) : Type 0 where
  pub more : length (held es i) + length (option_to_list split) ≤ length (held fs i)
  pub room : IfSome split (λ _. length (held fs i) ≤ most_at es i)

-- a range of whole pages within the attach of a piece, within the addresses and the segment
pub record IsStretch (p : Piece) (low high : ℕ) : Type 0 where
  pub pages : IsPageRange low high
  pub lowest : lowest_address ≤ low
  pub within : high ≤ end_address
  pub begins : p.base ≤ PAGE_SIZE * p.first_page + low
  pub few : PAGE_SIZE * p.first_page + high ≤ p.base + PAGE_SIZE * MOST_SHMALL

-- the pieces after this one replaced whatever was in its range
abbrev pub exchanged : Stored → List Piece → List Piece
exchanged p ps = inserted (bare p) (cut p.base (end_of (bare p)) ps)

-- a piece may replace what is in its range
pub record CanReplace (es : List (ℕ × Runner)) (t : Tables) (i : ℕ) (p : Stored) : Type 0 where
  pub there : i < length es
  pub live : is_live (life_at (runners_view es) i) ≡ true
  pub range : IsRange p.pages p.base
  pub some : 1 ≤ p.pages
  pub few : p.first_page + p.pages ≤ MOST_SHMALL
  pub most : most_at es i ≤ MOST_PIECES
  pub room : length (cut p.base (end_of (bare p)) (held es i)) < most_at es i
  pub table : HasTable t.slab p

-- the process at an index is live, and the tables show all pieces: pages of it may be protected
pub record MayProtect (es : List (ℕ × Runner)) (t : Tables) (i : ℕ) : Type 0 where
  pub there : i < length es
  pub live : is_live (life_at (runners_view es) i) ≡ true
  pub most : most_at es i ≤ MOST_PIECES
  pub sound : AreTablesSound no_reservations es t

-- the process has these pieces now, and nothing else changed
pub record AreNow (es fs : List (ℕ × Runner)) (t u : Tables) (i : ℕ) (ps : List Piece) : Type 0 where
  pub runners : runners_view fs ≡ with_pieces_at (runners_view es) i (λ _. ps)
  pub count : length fs ≡ length es
  pub most : (j : ℕ) → most_at fs j ≡ most_at es j
  pub sound : AreTablesSound no_reservations fs u
  pub translated : (at : ℕ → ℕ → Option ℕ) → AllTrue at t.slab → AllTrue at u.slab

-- the process has the pieces that this one makes when it replaces its range
abbrev pub Exchanged : List (ℕ × Runner) → List (ℕ × Runner) → Tables → Tables → ℕ → Stored → Type 0
Exchanged es fs t u i p = AreNow es fs t u i (exchanged p (held es i))
