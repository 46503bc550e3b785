-- Failures that a host adds to a running machine, through a handle.
use Rattle.std.specs.Prelude.{ℕ, ◌≡◌, ◌⊎◌, not, ◌==◌, nat_lt, Option, Some, None, Ok, Err}
use Rattle.shm_base.specs.Codes.{code_of}
use Rattle.shm_base.specs.declared.errno.Errno.TheVariants.{Einval, Enoent}
use Rattle.shm_base.specs.declared.paging.PageRef.{PageRef}
use Rattle.shm_pager_core.specs.declared.failing.ComingFailure.{ComingFailure}
use Rattle.shm_pager_core.specs.declared.failing.FailRefused.{FailRefused}
use Rattle.shm_pager_core.specs.declared.failing.FailRefused.TheVariants as refusals
use Rattle.shm_life.specs.Failing.{FailsPage, IsFailing}
use Rattle.shm_life.specs.declared.failing.PageNotFailed.{PageNotFailed}
use Rattle.shm_life.specs.declared.failing.PageNotFailed.TheVariants as pages
use Rattle.shm_machine.specs.declared.machine.Machine.{Machine}
use Rattle.nogcuvema.specs.Answers.{no_memory, out_of_range}
use Rattle.nogcuvema.specs.Lending.{IfFits}
use Rattle.nogcuvema.specs.Opens.{side_of}
use Rattle.nogcuvema.specs.declared.structs.NogFailure.{NogFailure}

abbrev pub coming_of : NogFailure → ℕ → ComingFailure
coming_of f is_lasting = record { side = side_of f.side; is_write = not (f.is_write == 0); call = f.call; is_lasting = not (is_lasting == 0) }

abbrev pub fail_code : FailRefused → ℕ
fail_code refusals.NotThere = out_of_range
fail_code refusals.HostMemory = no_memory

abbrev pub page_code : PageNotFailed → ℕ
page_code pages.NoSegment = code_of Einval
page_code pages.NoPage = out_of_range
page_code pages.NoSlot = code_of Enoent
page_code pages.HostMemory = no_memory

-- a call of the area to come fails, or the code says why not
abbrev pub FailsBy : ℕ → ComingFailure → Machine → ℕ → Machine → Type 0
FailsBy area c before code after =
    ((code ≡ 0) × IsFailing area c before.system (Ok tt) after.system)
    ⊎ ((refusal : FailRefused) × (code ≡ fail_code refusal) × IsFailing area c before.system (Err refusal) after.system)

-- the same as the header's struct says it, of which the side is 0 or 1
abbrev pub FailsAs : NogFailure → ℕ → Machine → ℕ → Machine → Type 0
FailsAs f is_lasting before code after = IfFits (nat_lt f.side 2) (FailsBy f.area (coming_of f is_lasting)) before code after

-- reads of the page's slot fail, or the code says why not
abbrev pub PageFailsBy : Option PageRef → Machine → ℕ → Machine → Type 0
PageFailsBy None before code after = (code ≡ code_of Einval) × (after ≡ before)
PageFailsBy (Some r) before code after =
    ((code ≡ 0) × FailsPage r before.system (Ok tt) after.system)
    ⊎ ((refusal : PageNotFailed) × (code ≡ page_code refusal) × FailsPage r before.system (Err refusal) after.system)
