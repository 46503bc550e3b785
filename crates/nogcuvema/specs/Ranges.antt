-- Ranges of a process's addresses that the host reserves and releases, through a handle.
use Rattle.std.specs.Prelude.{ℕ, ◌≡◌, ◌⊎◌, ◌+◌, ◌^◌, nat_lt, Ok, Err}
use Rattle.shm_base.specs.Codes.{code_of}
use Rattle.shm_base.specs.declared.errno.Errno.TheVariants.{Eexist, Enoent}
use Rattle.shm_base.specs.declared.guest.HostRange.{HostRange}
use Rattle.shm_base.specs.declared.guest.RangeRefusal.{RangeRefusal}
use Rattle.shm_base.specs.declared.guest.RangeRefusal.TheVariants.{BadRange, RangeTaken, NoRange}
use Rattle.shm_life.specs.Reserving.{IsNotReserved, Released, Reserved}
use Rattle.shm_machine.specs.declared.machine.Machine.{Machine}
use Rattle.nogcuvema.specs.Answers.{no_memory, out_of_range}
use Rattle.nogcuvema.specs.Lending.{IfFits}

abbrev pub range_code : RangeRefusal → ℕ
range_code BadRange = out_of_range
range_code RangeTaken = code_of Eexist
range_code NoRange = code_of Enoent

-- this many bytes from an address on
abbrev pub range_at : ℕ → ℕ → ℕ → HostRange
range_at pid addr len = record { pid = pid; from = addr; to = addr + len }

-- the range is reserved, or the code says why not
abbrev pub TakesBy : HostRange → Machine → ℕ → Machine → Type 0
TakesBy range before code after =
    ((code ≡ 0) × Reserved before.system range (Ok tt) after.system)
    ⊎ ((refusal : RangeRefusal) × (code ≡ range_code refusal) × Reserved before.system range (Err refusal) after.system)
    ⊎ ((code ≡ no_memory) × IsNotReserved before.system range after.system)

-- the range is no longer reserved, or the code says why not
abbrev pub GivesBackBy : HostRange → Machine → ℕ → Machine → Type 0
GivesBackBy range before code after =
    ((code ≡ 0) × Released before.system range (Ok tt) after.system)
    ⊎ ((refusal : RangeRefusal) × (code ≡ range_code refusal) × Released before.system range (Err refusal) after.system)

-- the same for the header's words: a range that ends at 2^64 or above does not fit
abbrev pub ReservesBy : ℕ → ℕ → ℕ → Machine → ℕ → Machine → Type 0
ReservesBy pid addr len before code after =
    IfFits (nat_lt (addr + len) (2 ^ 64)) (TakesBy (range_at pid addr len)) before code after

abbrev pub ReleasesBy : ℕ → ℕ → ℕ → Machine → ℕ → Machine → Type 0
ReleasesBy pid addr len before code after =
    IfFits (nat_lt (addr + len) (2 ^ 64)) (GivesBackBy (range_at pid addr len)) before code after
