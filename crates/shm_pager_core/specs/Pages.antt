-- Pages by slot, counts of failures, and what a call changes in a pager.
use Rattle.std.specs.Prelude.{ℕ, ◌≡◌, ◌+◌, ◌-◌, ◌^◌, ◌≤◌, ◌⊎◌, Bool, true, false, Option, None, ◌==◌, ◌&&◌, nat_lt, List, [], get_or, min, set, replicate, Result, MatchResult}
use Rattle.shm_base.specs.Page.{zero_page}

-- the value at which a count stops
abbrev pub last_count : ℕ
last_count = 2 ^ 64 - 1

-- one more, up to the last count
abbrev pub next_count : ℕ → ℕ
next_count n = min (n + 1) last_count

-- the calls of one side of a pager: which of them fail, and how many there were
pub record SideCalls : Type 0 where
  -- the places of those that fail
  pub bad_reads : List ℕ
  pub bad_writes : List ℕ
  -- the places from which on every call fails
  pub reads_end : Option ℕ
  pub writes_end : Option ℕ
  -- the slots that can't be read, and whether there ever were any
  pub bad_slots : List ℕ
  pub had_bad_slots : Bool
  -- how many calls there were
  pub reads : ℕ
  pub writes : ℕ

-- no call yet; the listed ones will fail
abbrev pub new_side : List ℕ → List ℕ → SideCalls
new_side bad_reads bad_writes =
    record { bad_reads = bad_reads; bad_writes = bad_writes; reads_end = None; writes_end = None; bad_slots = []; had_bad_slots = false; reads = 0; writes = 0 }

-- the page in each slot, how many reads and writes have failed, the most that ever will have, and the calls of each side that fails
-- at chosen ones
pub record PagerView : Type 0 where
  pub pages : List (List ℕ)
  pub failed : ℕ
  pub most : ℕ
  pub calls : List SideCalls

-- this many slots of zeros, no failure, a bound on later ones, and the calls of its sides
abbrev pub blank : ℕ → ℕ → List SideCalls → PagerView
blank slots most calls = record { pages = replicate slots zero_page; failed = 0; most = most; calls = calls }

-- a pager, by the four ghost members of its trait
abbrev pub pager_seen : {P : Type 0} → (P → List (List ℕ)) → (P → ℕ) → (P → ℕ) → (P → List SideCalls) → P → PagerView
pager_seen content failed most calls p = record { pages = content p; failed = failed p; most = most p; calls = calls p }

-- one slot holds some unknown page, the other slots are unchanged
abbrev pub SlotUnknown : ℕ → List (List ℕ) → List (List ℕ) → Type 0
SlotUnknown slot before after = after ≡ set before slot (get_or after slot [])

-- an error adds one to the count, and a success adds none
abbrev pub CountsErr : {A E : Type 0} → Result A E → ℕ → ℕ → Type 0
CountsErr result before after = MatchResult result (λ _. after ≡ before) (λ _. after ≡ before + 1)

-- a success leaves the bound on the count as it was, and an error never raises it
abbrev pub KeepsMost : {A E : Type 0} → Result A E → ℕ → ℕ → Type 0
KeepsMost result before after = MatchResult result (λ _. after ≡ before) (λ _. after ≤ before)

-- a pager did what it was asked: it could be called, and counted no failure
abbrev pub served : PagerView → PagerView → Bool
served before after = nat_lt before.failed last_count && (after.failed == before.failed)

-- what a read or a write leaves of a pager's count and of the bound on it; at the last count the pager is not called
pub record Counts (before after : PagerView) : Type 0 where
  pub countable : before.failed ≤ last_count
  pub counted : (after.failed ≡ before.failed) ⊎ (after.failed ≡ before.failed + 1)
  pub spent : before.failed ≡ last_count → after ≡ before
  pub bounded : before.failed ≤ before.most
  pub stays_bounded : after.failed ≤ after.most
  pub most : after.most ≤ before.most
  pub same_most : served before after ≡ true → after.most ≡ before.most

-- what a write leaves of a pager
pub record TriesWrite (slot : ℕ) (page : List ℕ) (before after : PagerView) : Type 0 where
  pub others : SlotUnknown slot before.pages after.pages
  pub taken : served before after ≡ true → after.pages ≡ set before.pages slot page
  pub counts : Counts before after

-- what a read leaves of a pager
pub record TriesRead (before after : PagerView) : Type 0 where
  pub pages : after.pages ≡ before.pages
  pub counts : Counts before after
