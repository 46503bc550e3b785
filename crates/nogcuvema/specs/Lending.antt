-- Pages on loan, through a handle.
use Rattle.std.specs.Prelude.{ℕ, ℤ, pos, negsuc, ◌≡◌, ◌⊎◌, ◌≤◌, ◌^◌, ◌||◌, ◌==◌, Bool, true, false, List, [], ◌∷◌, Option, Some, None, Result, Ok, Err}
use Rattle.std.specs.Int.{from_bool}
use Rattle.shm_base.specs.Codes.{code_of}
use Rattle.shm_base.specs.Callers.{caller_of}
use Rattle.shm_base.specs.declared.errno.Errno.{Errno}
use Rattle.shm_base.specs.declared.errno.Errno.TheVariants.{Einval, Sigbus}
use Rattle.shm_base.specs.declared.paging.PageRef.{PageRef}
use Rattle.shm_base.specs.declared.paging.TheConstants.{PAGE_SIZE}
use Rattle.shm_fault.specs.declared.loans.FrameInfo.{FrameInfo}
use Rattle.shm_life.specs.Lending.{Lends, Returns, page_seen}
use Rattle.shm_life.specs.SystemState.{seen}
use Rattle.shm_life.specs.declared.loans.LendRefusal.{LendRefusal}
use Rattle.shm_life.specs.declared.loans.LendRefusal.TheVariants as lending
use Rattle.shm_life.specs.declared.loans.ReturnRefusal.{ReturnRefusal}
use Rattle.shm_life.specs.declared.loans.ReturnRefusal.TheVariants as returning
use Rattle.shm_machine.specs.declared.machine.Machine.{Machine}
use Rattle.nogcuvema.specs.Answers.{closed, lent, out_of_range, Unchanged}
use Rattle.nogcuvema.specs.declared.structs.NogFrame.{NogFrame}

-- a change of a machine, if a length is right; otherwise the code says that it is not, and nothing changed
abbrev pub IfFits : Bool → (Machine → ℕ → Machine → Type 0) → Machine → ℕ → Machine → Type 0
IfFits true does before code after = does before code after
IfFits false does before code after = (code ≡ out_of_range) × (after ≡ before)

-- the page of a segment; none if the identifier is negative
abbrev pub page_by : ℤ → ℕ → Option PageRef
page_by (pos seg) page = Some (record { seg = seg; page = page })
page_by (negsuc n) page = None

abbrev pub lend_code : LendRefusal → ℕ
lend_code lending.NoSegment = code_of Einval
lend_code lending.NoPage = out_of_range
lend_code lending.Lent = lent
lend_code lending.Sigbus = code_of Sigbus

abbrev pub return_code : ReturnRefusal → ℕ
return_code returning.NoSegment = code_of Einval
return_code returning.NotLent = out_of_range

-- the loan of a page, which changes only the memory
pub record LendsAs
    (r : PageRef) (old new : List ℕ) (before : Machine) (result : Result (Unit {0}) LendRefusal) (after : Machine)
    : Type 0 where
  pub lends : Lends r (seen before.system) old new result (seen after.system)
  pub rest : after.system ≡ record before.system { memory = after.system.memory }

-- the page was lent, or the code says why not
abbrev pub LendsBy : Option PageRef → List ℕ → List ℕ → Machine → ℕ → Machine → Type 0
LendsBy None old new before code after = (code ≡ code_of Einval) × (after ≡ before)
LendsBy (Some r) old new before code after =
    ((code ≡ 0) × LendsAs r old new before (Ok tt) after)
    ⊎ ((refusal : LendRefusal) × (code ≡ lend_code refusal) × LendsAs r old new before (Err refusal) after)

-- the bytes that a page comes back with: all of it, or none
abbrev pub is_given : ℕ → Bool
is_given len = (len == 0) || (len == PAGE_SIZE)

abbrev pub given_by : List ℕ → Option (List ℕ)
given_by [] = None
given_by (b ∷ bs) = Some (b ∷ bs)

pub record ReturnsAs
    (r : PageRef) (given : Option (List ℕ)) (before : Machine) (result : Result (Unit {0}) ReturnRefusal) (after : Machine)
    : Type 0 where
  pub returns : Returns r given (seen before.system) result (seen after.system)
  pub rest : after.system ≡ record before.system { machine = after.system.machine; memory = after.system.memory }

-- the page came back, or the code says why not
abbrev pub ReturnsBy : Option PageRef → Option (List ℕ) → Machine → ℕ → Machine → Type 0
ReturnsBy None given before code after = (code ≡ code_of Einval) × (after ≡ before)
ReturnsBy (Some r) given before code after =
    ((code ≡ 0) × ReturnsAs r given before (Ok tt) after)
    ⊎ ((refusal : ReturnRefusal) × (code ≡ return_code refusal) × ReturnsAs r given before (Err refusal) after)

-- what a frame with a page shows
abbrev pub frame_by : ℤ → ℕ → FrameInfo → NogFrame
frame_by id page x =
    record {
      id = id;
      page = page;
      is_referenced = from_bool x.is_referenced;
      is_dirty = from_bool x.is_dirty;
      is_lent = from_bool x.is_lent;
      is_locked = from_bool x.is_locked;
    }

-- the frame's page and bits; out of range for a free frame (and for an identifier of 2^31 or more, which no segment has)
abbrev pub ShowsOwned : Option PageRef → FrameInfo → NogFrame → ℕ → Type 0
ShowsOwned None x frame code = code ≡ out_of_range
ShowsOwned (Some r) x frame code =
    ((code ≡ 0) × (frame ≡ frame_by (pos r.seg) r.page x)) ⊎ ((code ≡ out_of_range) × (2 ^ 31 ≤ r.seg))

abbrev pub ShowsFrame : Option FrameInfo → NogFrame → ℕ → Type 0
ShowsFrame None frame code = code ≡ out_of_range
ShowsFrame (Some x) frame code = ShowsOwned x.owner x frame code

-- the same through a handle, whose machine is unchanged
abbrev pub FrameThrough : (Machine → Option FrameInfo) → Option Machine → NogFrame → ℕ → Option Machine → Type 0
FrameThrough shows None frame code after = Unchanged closed None code after
FrameThrough shows (Some m) frame code after = (after ≡ Some m) × ShowsFrame (shows m) frame code

-- a page's segment and number, and whether it may be written; or the errno
abbrev pub ShowsPage : Result (PageRef × Bool) Errno → ℤ → ℕ → ℕ → ℕ → Type 0
ShowsPage (Err e) id page writable code = code ≡ code_of e
ShowsPage (Ok found) id page writable code =
    ((code ≡ 0) × (id ≡ pos found.0.seg) × (page ≡ found.0.page) × (writable ≡ from_bool found.1))
    ⊎ ((code ≡ out_of_range) × (2 ^ 31 ≤ found.0.seg))

abbrev pub PageThrough : ℕ → ℕ → Option Machine → ℤ → ℕ → ℕ → ℕ → Option Machine → Type 0
PageThrough pid addr None id page writable code after = Unchanged closed None code after
PageThrough pid addr (Some m) id page writable code after =
    (after ≡ Some m) × ShowsPage (page_seen (caller_of m.system.machine pid) addr) id page writable code
