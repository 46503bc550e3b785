-- What an access does at the bytes of its spans, and what it leaves.
use Rattle.std.specs.Prelude.{ℕ, ◌≡◌, ◌+◌, ◌%◌, ◌^◌, ◌==◌, Bool, true, false, if◌then◌else◌, List, length, sum_by, Option, Some, None, is_some, Result, OnOk, OnErr, ⊤}
use Rattle.std.specs.Int.{w64, from_le_bytes, to_le_bytes}
use Rattle.shm_base.specs.Access.{same_bytes}
use Rattle.shm_base.specs.declared.paging.Span.{Span}
use Rattle.shm_fault.specs.declared.act.Act.{Act}
use Rattle.shm_fault.specs.declared.act.Act.TheVariants.{Nothing, Put, PutIfEqual, Add}
use Rattle.shm_fault.specs.declared.touched.Touched.{Touched}
use Rattle.shm_fault.specs.declared.touched.PagerFailed.{PagerFailed}
use Rattle.shm_fault.specs.Access.{Accessed, touched_of}
use Rattle.shm_fault.specs.Counting.{counted}
use Rattle.shm_fault.specs.Goes.{referenced_at}
use Rattle.shm_fault.specs.Held.{Held, read_from, written}
use Rattle.shm_fault.specs.Placing.{Places, places, with_dirty, after_access, Stops}
use Rattle.shm_fault.specs.Sound.{IsStoreSound}
use Rattle.shm_fault.specs.Store.{StoreView, held}

-- how many bytes an act is on, if the place for the old ones has room for this many
abbrev pub size_of : Act → ℕ → ℕ
size_of (Put bytes) room = length bytes.now
size_of Nothing room = room
size_of (PutIfEqual expected bytes) room = room
size_of (Add more) room = room

-- an act needs bytes that may be written
abbrev pub writes : Act → Bool
writes Nothing = false
writes (Put bytes) = true
writes (PutIfEqual expected bytes) = true
writes (Add more) = true

-- the place for the old bytes is as long as the new ones; without a place, bytes can only be put
abbrev pub FitsRoom : Act → ℕ → Type 0
FitsRoom Nothing room = ⊤
FitsRoom (Put bytes) room = ⊤
FitsRoom (PutIfEqual expected bytes) room = length bytes.now ≡ room
FitsRoom (Add more) room = room ≡ 8

-- the bytes with which an act replaces the old ones, if it does
abbrev pub put_by : Act → List ℕ → Option (List ℕ)
put_by Nothing old = None
put_by (Put bytes) old = Some bytes.now
put_by (PutIfEqual expected bytes) old = if same_bytes old expected.now then Some bytes.now else None
put_by (Add more) old = Some (to_le_bytes w64 ((from_le_bytes w64 old + more) % 2 ^ 64))

-- how many bytes spans have
abbrev pub bytes_in : List Span → ℕ
bytes_in ps = sum_by (λ (p : Span). p.len) ps

-- the segments after bytes were put into spans, or none were
abbrev pub put_in : List Held → List Span → Option (List ℕ) → List Held
put_in hs ps None = hs
put_in hs ps (Some bytes) = written hs ps bytes

-- where each page is afterwards, and which bits are set
abbrev pub left_by : Bool → List Span → Places → Places
left_by puts ps s = if puts then with_dirty ps s else s

-- the place for the old bytes: it has them afterwards, if it is as long as they are
abbrev pub place_after : ℕ → List ℕ → List ℕ → List ℕ
place_after size old before = if size == length before then old else before

abbrev pub HasOld : List Held → List Span → List ℕ → List ℕ → Type 0
HasOld hs ps before after = after ≡ place_after (bytes_in ps) (read_from hs ps) before

-- Bytes were put into spans whose pages are resident, or none were. Neither a page moved, nor did a bit change but dirty ones.
pub record PutAt (bytes : List ℕ) (ps : List Span) (s t : StoreView) : Type 0 where
  pub written : held t ≡ written (held s) ps bytes
  pub bits : (f : ℕ) → referenced_at t f ≡ referenced_at s f
  pub placed : places t ≡ with_dirty ps (places s)
  pub rest : t ≡ record s { frames = t.frames }
  pub count : length t.frames ≡ length s.frames
  pub sound : IsStoreSound t

abbrev pub Puts : Option (List ℕ) → List Span → StoreView → StoreView → Type 0
Puts None ps s t = t ≡ s
Puts (Some bytes) ps s t = PutAt bytes ps s t

-- What an access promises. The old bytes were read, and these were put, if any. If a pager failed, no byte changed, in the segments
-- or in the place for the old bytes.
pub record Acts
    {A E : Type 0} (put : Option (List ℕ)) (ps : List Span) (before after : List ℕ) (s t : StoreView)
    (result : Result A E) (answer : Result Touched PagerFailed) : Type 0 where
  pub there : OnOk result (HasOld (held s) ps before after)
  pub kept : OnErr result (after ≡ before)
  pub written : OnOk result (held t ≡ put_in (held s) ps put)
  pub same : OnErr result (held t ≡ held s)
  pub access : Accessed ps s t answer
  pub stopped : OnErr result (Stops ps (places s) (places t) (counted (touched_of answer)))
  pub places : OnOk result (places t ≡ left_by (is_some put) ps (after_access ps (places s)))
