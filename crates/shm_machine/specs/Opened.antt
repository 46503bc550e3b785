-- What a machine is opened with, and its state then.
use Rattle.std.specs.Prelude.{ℕ, ◌+◌, ◌==◌, ◌&&◌, Bool, true, false, not, List, [], ◌∷◌, map, filter}
use Rattle.shm_base.specs.Bounds.{Bounds}
use Rattle.shm_base.specs.declared.call.Process.{Process}
use Rattle.shm_slots.specs.View.{AreaView, fresh}
use Rattle.shm_life.specs.SystemState.{SystemState, IsStarted}
use Rattle.shm_machine.specs.declared.opening.AreaConfig.{AreaConfig}
use Rattle.shm_machine.specs.declared.opening.Failure.{Failure}
use Rattle.shm_pager_core.specs.declared.failing.Side.{Side}
use Rattle.shm_pager_core.specs.declared.failing.Side.TheVariants.{Left, Right}
use Rattle.shm_pager_core.specs.Pages.{PagerView, blank}
use Rattle.shm_pager.specs.Areas.{FailingCalls, IsOfKind, calls_of_kind, most_of_kind}
use Rattle.shm_pager.specs.declared.area.AreaPager.{AreaPager}

abbrev pub same_side : Side → Side → Bool
same_side Left Left = true
same_side Right Right = true
same_side _ _ = false

abbrev pub same_flag : Bool → Bool → Bool
same_flag true b = b
same_flag false b = not b

-- the failure is one of this side's reads or writes
abbrev pub is_at : ℕ → Side → Bool → Failure → Bool
is_at area side is_write f = (f.area == area) && same_side f.side side && same_flag f.is_write is_write

-- the places of those calls
abbrev pub calls_at : ℕ → Side → Bool → List Failure → List ℕ
calls_at area side is_write failures = map (λ (f : Failure). f.call) (filter (is_at area side is_write) failures)

abbrev pub sizes_of : List AreaConfig → List ℕ
sizes_of areas = map (λ (a : AreaConfig). a.slots) areas

-- the calls of a side that fail
abbrev pub failing_at : List Failure → ℕ → Side → FailingCalls
failing_at failures area side = record { reads = calls_at area side false failures; writes = calls_at area side true failures }

-- the pager of an area, which is of its kind, and of which exactly the listed calls will fail
abbrev pub IsMade : List Failure → ℕ → AreaConfig → AreaPager → Type 0
IsMade failures index a p = IsOfKind a.kind a.slots (failing_at failures index Left) (failing_at failures index Right) p

-- the pagers of areas, of which the first has this index
abbrev pub AreMade : List Failure → ℕ → List AreaConfig → List AreaPager → Type 0
AreMade failures index [] [] = Unit {0}
AreMade failures index (a ∷ more) (p ∷ ps) = IsMade failures index a p × AreMade failures (index + 1) more ps
AreMade failures index _ _ = ⊥

-- what is seen of one: zeros in each slot, no failure counted, the most that it may count, and the calls of its sides that will fail
abbrev pub pager_made : List Failure → ℕ → AreaConfig → PagerView
pager_made failures index a =
    let left = failing_at failures index Left in
    blank a.slots (most_of_kind a.kind left) (calls_of_kind a.kind left (failing_at failures index Right))

-- the area of it: no slot is owned
abbrev pub area_made : List Failure → ℕ → AreaConfig → AreaView
area_made failures index a = fresh (pager_made failures index a)

abbrev pub pagers_made : List Failure → ℕ → List AreaConfig → List PagerView
pagers_made failures index [] = []
pagers_made failures index (a ∷ more) = pager_made failures index a ∷ pagers_made failures (index + 1) more

-- the machine at its start: areas of zeros, with no failure counted, the most failures that each may count, and which calls will fail
abbrev pub IsOpened : Bounds → List AreaConfig → List Failure → List Process → SystemState → Type 0
IsOpened limits areas failures processes s = IsStarted limits (sizes_of areas) (map fresh (pagers_made failures 0 areas)) processes s
