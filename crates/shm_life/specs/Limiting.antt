-- A host gives a running machine other limits: SHMMAX, SHMMNI, SHMALL and MEMLOCK.
use Rattle.std.specs.Prelude.{ℕ, nat_lt, if◌then◌else◌, Result, Ok, Err}
use Rattle.shm_base.specs.Bounds.{Bounds, lockable, machine_limits_of}
use Rattle.shm_base.specs.Segments.{locked, reserved}
use Rattle.shm_base.specs.State.{Machine}
use Rattle.shm_base.specs.declared.limits.BadLimits.{BadLimits}
use Rattle.shm_life.specs.declared.limiting.NewLimits.{NewLimits}

-- the limits of a machine, with these four new ones
abbrev pub limits_with : Bounds → NewLimits → Bounds
limits_with b n = record b { shmmax = n.shmmax; shmmni = n.shmmni; shmall = n.shmall; memlock = n.memlock }

abbrev pub unfit : ℕ → Result Machine BadLimits
unfit n = Err (record { 0 = n })

abbrev pub limited_to : Machine → Result Bounds BadLimits → Result Machine BadLimits
limited_to s (Err e) = Err e
limited_to s (Ok b) =
    if nat_lt b.shmall (reserved s.table) then unfit 3 else
    if nat_lt (lockable b) (locked s.table) then unfit 5 else
    Ok (record s { limits = b })

-- The machine with other limits, or the number of the first that is wrong: out of its range, or below the present use, which is
-- the pages of all segments or of the locked ones. Segments that exist may be more, and larger, than the new limits allow.
abbrev pub limits : Machine → NewLimits → Result Machine BadLimits
limits s n = limited_to s (machine_limits_of (limits_with s.limits n))
