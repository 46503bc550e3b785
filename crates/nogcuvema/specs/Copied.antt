-- A snapshot, from one handle to another.
use Rattle.std.specs.Prelude.{ℕ, ◌≡◌, ◌≢◌, ◌⊎◌, Option, Some, None, IsSomeAnd}
use Rattle.shm_frames.specs.Frame.{lent_of}
use Rattle.shm_machine.specs.declared.machine.Machine.{Machine}
use Rattle.nogcuvema.specs.Answers.{closed, lent, no_memory}

-- how many pages are on loan
abbrev pub loans : Machine → ℕ
loans m = lent_of m.system.memory.frames

-- the copy has the same system; or a page is on loan, or the host refused memory, and the copy's handle is unchanged
abbrev pub IsCopied : Machine → Option Machine → ℕ → Option Machine → Type 0
IsCopied m copy code copied =
    ((code ≡ 0) × (loans m ≡ 0) × IsSomeAnd copied (λ n. n.system ≡ m.system))
    ⊎ ((code ≡ lent) × (loans m ≢ 0) × (copied ≡ copy))
    ⊎ ((code ≡ no_memory) × (loans m ≡ 0) × (copied ≡ copy))

-- the same through a handle, whose machine is unchanged
abbrev pub CopiesTo : Option Machine → Option Machine → ℕ → Option Machine → Option Machine → Type 0
CopiesTo None copy code after copied = (code ≡ closed) × (after ≡ None) × (copied ≡ copy)
CopiesTo (Some m) copy code after copied = (after ≡ Some m) × IsCopied m copy code copied
