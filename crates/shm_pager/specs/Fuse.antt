-- What contracts see of a fuse.
use Rattle.std.specs.Prelude.{ℕ, ◌+◌, ◌-◌, Bool, false, not, ◌==◌, ◌&&◌, ◌||◌, nat_le, nat_lt, if◌then◌else◌, List, [], ◌∷◌, Option, Some, None, is_some, min, filter, replicate}
use Rattle.std.specs.List.{list_any}
use Rattle.shm_pager_core.specs.Pages.{PagerView, SideCalls, new_side, next_count, last_count}
use Rattle.shm_base.specs.declared.paging.TheConstants.{PAGE_SIZE}

pub record FuseView : Type 0 where
  pub inner : PagerView
  pub side : SideCalls
  -- how many of its calls failed
  pub failed : ℕ

-- a new fuse
abbrev pub new_fuse : PagerView → List ℕ → List ℕ → ℕ → FuseView
new_fuse inner bad_reads bad_writes failed = record { inner = inner; side = new_side bad_reads bad_writes; failed = failed }

-- it is one side
abbrev pub fuse_calls : FuseView → List SideCalls
fuse_calls f = f.side ∷ []

abbrev pub is_listed : List ℕ → ℕ → Bool
is_listed places n = list_any (λ k. k == n) places

-- every call from some place on fails, and this is one of them
abbrev pub is_past : Option ℕ → ℕ → Bool
is_past None n = false
is_past (Some end) n = nat_le end n

-- the slot can't be read until it is written
abbrev pub is_bad_slot : FuseView → ℕ → Bool
is_bad_slot f slot = f.side.had_bad_slots && is_listed f.side.bad_slots slot

-- the slots that are bad once this one is written
abbrev pub without_slot : ℕ → List ℕ → List ℕ
without_slot slot slots = filter (λ k. not (k == slot)) slots

-- a side after a read, and after a write into a slot
abbrev pub after_read : SideCalls → SideCalls
after_read k = record k { reads = next_count k.reads }

abbrev pub after_write : ℕ → SideCalls → SideCalls
after_write slot k = record k { writes = next_count k.writes; bad_slots = without_slot slot k.bad_slots }

-- the next read, of this slot, is one that fails
abbrev pub read_is_bad : FuseView → ℕ → Bool
read_is_bad f slot = is_listed f.side.bad_reads (next_count f.side.reads) || is_past f.side.reads_end (next_count f.side.reads) || is_bad_slot f slot

-- the next write is one that fails
abbrev pub write_is_bad : FuseView → Bool
write_is_bad f = is_listed f.side.bad_writes (next_count f.side.writes) || is_past f.side.writes_end (next_count f.side.writes)

-- how many places are listed above a count of calls, each taken once
abbrev pub listed_above : List ℕ → ℕ → ℕ
listed_above [] calls = 0
listed_above (k ∷ ks) calls = (if nat_lt calls k && not (is_listed ks k) then 1 else 0) + listed_above ks calls

-- every call from some place on fails, or a listed place is one at which the count of calls stops
abbrev pub never_ends : List ℕ → Option ℕ → Bool
never_ends places end = is_listed places last_count || is_some end

-- no number bounds its failures: they never end, a slot was bad, or its pager may count its last failure
abbrev pub is_endless : FuseView → Bool
is_endless f = never_ends f.side.bad_reads f.side.reads_end || never_ends f.side.bad_writes f.side.writes_end || f.side.had_bad_slots || not (nat_lt f.inner.most last_count)

-- the failures that are left: at the listed places to come, and those of its pager
abbrev pub failures_left : FuseView → ℕ
failures_left f = listed_above f.side.bad_reads f.side.reads + listed_above f.side.bad_writes f.side.writes + (f.inner.most - f.inner.failed)

-- the most failures that it will ever count
abbrev pub fuse_most : FuseView → ℕ
fuse_most f = if is_endless f then last_count else min (f.failed + failures_left f) last_count

-- the page that a write which fails on purpose leaves in its slot
abbrev pub scorched_page : List ℕ
scorched_page = replicate PAGE_SIZE 0xa5
