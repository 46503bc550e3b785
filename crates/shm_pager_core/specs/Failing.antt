-- Failures of calls to come, which are added while a pager is in use.
use Rattle.std.specs.Prelude.{ℕ, ◌≡◌, ◌+◌, ◌<◌, ◌≤◌, ◌⊎◌, Bool, true, false, ◌&&◌, ◌||◌, nat_le, if◌then◌else◌, List, [], ◌∷◌, ◌++◌, Option, None, Some, get_or, map, min, set, Result, IfErr}
use Rattle.shm_pager_core.specs.Pages.{PagerView, SideCalls, last_count, new_side}
use Rattle.shm_pager_core.specs.declared.failing.ComingFailure.{ComingFailure}
use Rattle.shm_pager_core.specs.declared.failing.FailRefused.{FailRefused}
use Rattle.shm_pager_core.specs.declared.failing.FailRefused.TheVariants.{NotThere, HostMemory}
use Rattle.shm_pager_core.specs.declared.failing.Side.{Side}
use Rattle.shm_pager_core.specs.declared.failing.Side.TheVariants.{Left, Right}

abbrev pub is_left : Side → Bool
is_left Left = true
is_left Right = false

-- the failure is one of a call to come, and of a side that the pager has
abbrev pub is_to_come : Bool → ComingFailure → Bool
is_to_come has_right c = nat_le 1 c.call && (has_right || is_left c.side)

-- what it leaves of a pager: pages and count stay, and the bound on the count becomes what it has to be
pub record FailsLater (c : ComingFailure) (before after : PagerView) : Type 0 where
  pub pages : after.pages ≡ before.pages
  pub failed : after.failed ≡ before.failed
  pub most : before.most ≤ after.most
  pub comes : before.failed < last_count → before.failed < after.most
  pub lasting : c.is_lasting ≡ true → after.most ≡ last_count

-- why it was refused
abbrev pub IsRefusedFailure : {A : Type 0} → Bool → ComingFailure → Result A FailRefused → Type 0
IsRefusedFailure has_right c result =
    IfErr result (λ e. ((e ≡ NotThere) × (is_to_come has_right c ≡ false)) ⊎ ((e ≡ HostMemory) × (is_to_come has_right c ≡ true)))

-- the place of a call to come, counted from 1 after this many calls
abbrev pub place_after : ℕ → ℕ → ℕ
place_after calls call = min (calls + call) last_count

-- every call fails from this place on, or from the one that was given before, if that is lower
abbrev pub sooner : Option ℕ → ℕ → ℕ
sooner None place = place
sooner (Some end) place = min end place

-- the places of one kind of calls, and the place from which on each fails
pub record Places : Type 0 where
  pub listed : List ℕ
  pub end : Option ℕ

abbrev pub places : List ℕ → Option ℕ → Places
places listed end = record { listed = listed; end = end }

-- one more call fails; if that is lasting, each later one too
abbrev pub with_place : Bool → ℕ → Places → Places
with_place is_lasting place p =
    if is_lasting then record p { end = Some (sooner p.end place) } else record p { listed = p.listed ++ place ∷ [] }

-- the reads, or the writes, of a side
abbrev pub side_reads : SideCalls → Places
side_reads k = places k.bad_reads k.reads_end

abbrev pub side_writes : SideCalls → Places
side_writes k = places k.bad_writes k.writes_end

abbrev pub set_reads : SideCalls → Places → SideCalls
set_reads k p = record k { bad_reads = p.listed; reads_end = p.end }

abbrev pub set_writes : SideCalls → Places → SideCalls
set_writes k p = record k { bad_writes = p.listed; writes_end = p.end }

-- a side of which one more call fails, or all from that call on
abbrev pub side_failing : ComingFailure → SideCalls → SideCalls
side_failing c k =
    if c.is_write
    then set_writes k (with_place c.is_lasting (place_after k.writes c.call) (side_writes k))
    else set_reads k (with_place c.is_lasting (place_after k.reads c.call) (side_reads k))

-- a side of which one more slot can't be read
abbrev pub side_with_bad : ℕ → SideCalls → SideCalls
side_with_bad slot k = record k { bad_slots = k.bad_slots ++ slot ∷ []; had_bad_slots = true }

-- the sides of a pager, of which the failure's side is as such a side
abbrev pub calls_failing : ComingFailure → List SideCalls → List SideCalls
calls_failing c calls =
    let i = (if is_left c.side then 0 else 1) in
    set calls i (side_failing c (get_or calls i (new_side [] [])))

-- the sides of a pager, of all of which one more slot can't be read
abbrev pub calls_with_bad : ℕ → List SideCalls → List SideCalls
calls_with_bad slot calls = map (side_with_bad slot) calls

-- what a bad slot leaves of a pager: no number bounds its failures
abbrev pub endless : ℕ → PagerView → PagerView
endless slot p = record p { most = last_count; calls = calls_with_bad slot p.calls }
