-- The steps that are shown.
use Rattle.std.specs.Prelude.{ℕ, ◌+◌, ◌&&◌, ◌==◌, nat_le, position, take, drop, if◌then◌else◌, Bool, List, Option, Some, None}
use Rattle.shm_text.specs.Number.{decimal_of}
use Rattle.shmview.specs.declared.steps.Steps.{Steps}

-- the step is one of these
abbrev pub has_step : Steps → ℕ → Bool
has_step s n = nat_le s.from n && nat_le n s.to

abbrev pub steps_between : Option ℕ → Option ℕ → Option Steps
steps_between None to = None
steps_between (Some from) None = None
steps_between (Some from) (Some to) = if nat_le from to then Some (record { from = from; to = to }) else None

abbrev pub hyphen : List ℕ → Option ℕ
hyphen w = position (λ b. b == 45) w

abbrev pub steps_by : List ℕ → Option ℕ → Option Steps
steps_by w None = None
steps_by w (Some i) = steps_between (decimal_of (take i w)) (decimal_of (drop (i + 1) w))

-- `FROM-TO`, with FROM not above TO
abbrev pub steps_of : List ℕ → Option Steps
steps_of w = steps_by w (hyphen w)

-- the chosen steps; or all, from 0 to 2000
abbrev pub steps_asked : Option Steps → Steps
steps_asked None = record { from = 0; to = 2000 }
steps_asked (Some s) = s
