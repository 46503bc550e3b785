-- Who may lock pages, and how many.
use Rattle.std.specs.Prelude.{ℕ, ◌+◌, Bool, true, false, not, ◌&&◌, ◌||◌, ◌==◌, nat_lt, if◌then◌else◌, List, Option, Some, None}
use Rattle.shm_base.specs.declared.errno.Errno.{Errno}
use Rattle.shm_base.specs.declared.errno.Errno.TheVariants.{Eperm, Enomem}
use Rattle.shm_base.specs.declared.owner.Cred.{Cred}
use Rattle.shm_base.specs.Rules.{locks_by_user}
use Rattle.shm_base.specs.Bounds.{Bounds, lockable}
use Rattle.shm_base.specs.State.{Segment, Entry, pages_in}
use Rattle.shm_base.specs.Segments.{locked, locked_by_user}

-- memlock limits this user's own locked pages
abbrev pub has_own_limit : Bounds → Cred → Bool
has_own_limit limits cred = locks_by_user limits.rules && not (cred.uid == 0)

-- the user may lock no page at all
abbrev pub may_not_lock : Bounds → Cred → Bool
may_not_lock limits cred = has_own_limit limits cred && (limits.memlock == 0)

-- the lock would take the user's own pages over the limit
abbrev pub passes_own_limit : Bounds → Cred → List Entry → Segment → Bool
passes_own_limit limits cred table x =
    has_own_limit limits cred && nat_lt limits.memlock (locked_by_user cred.uid table + pages_in x)

-- the lock would take the user's own pages, or those of all users together, over the limit
abbrev pub passes_limit : Bounds → Cred → List Entry → Segment → Bool
passes_limit limits cred table x =
    passes_own_limit limits cred table x || nat_lt (lockable limits) (locked table + pages_in x)

-- why a user may not lock a segment
abbrev pub lock_refusal : Bounds → Cred → List Entry → Segment → Option Errno
lock_refusal limits cred table x =
    if may_not_lock limits cred then Some Eperm else
    if not x.locked && passes_limit limits cred table x then Some Enomem else
    None

-- the user who locks a segment first is its locker
abbrev pub locks_as : ℕ → Segment → Segment
locks_as uid y = if y.locked then y else record y { locked = true; locker = uid }

abbrev pub unlocked : Segment → Segment
unlocked y = record y { locked = false; locker = 0 }
