-- Rules of Linux that a machine may be opened with. In the profile none of them holds.
use Rattle.std.specs.Prelude.{Bool, ◌==◌, if◌then◌else◌, bit_and}
use Rattle.shm_base.specs.declared.flags.Rules.{Rules}
use Rattle.shm_base.specs.declared.errno.Errno.{Errno}
use Rattle.shm_base.specs.declared.errno.Errno.TheVariants.{Enomem, Einval, Emfile, Eidrm}

-- the identifier of a destroyed segment is EINVAL, not EIDRM
abbrev pub removed_is_invalid : Rules → Bool
removed_is_invalid rules = bit_and rules.0 1 == 1

-- shmget of a found key also asks for execution, if its mode has an execute bit
abbrev pub execute_is_asked : Rules → Bool
execute_is_asked rules = bit_and rules.0 2 == 2

-- a fork attaches anew what the child inherits: it sets the attach time, and the parent is the last pid
abbrev pub fork_marks : Rules → Bool
fork_marks rules = bit_and rules.0 4 == 4

-- the rest of a piece that is cut is attached anew, and so is a part with another protection
abbrev pub rest_is_attached : Rules → Bool
rest_is_attached rules = bit_and rules.0 8 == 8

-- a range beyond the end of the addresses is ENOMEM
abbrev pub end_is_enomem : Rules → Bool
end_is_enomem rules = bit_and rules.0 16 == 16

-- a range below the lowest address is EPERM for all but user 0; a remap of an address that rounds to 0 is refused, and address 0
-- meets no piece
abbrev pub low_is_eperm : Rules → Bool
low_is_eperm rules = bit_and rules.0 32 == 32

-- no segment can be given to user or group 2^32 - 1: EINVAL
abbrev pub no_last_user : Rules → Bool
no_last_user rules = bit_and rules.0 64 == 64

-- too many pieces are ENOMEM, not EMFILE; a process with the most pieces attaches nothing, not even by a remap
abbrev pub pieces_are_enomem : Rules → Bool
pieces_are_enomem rules = bit_and rules.0 128 == 128

-- memlock limits each user who locks, and does not limit user 0
abbrev pub locks_by_user : Rules → Bool
locks_by_user rules = bit_and rules.0 256 == 256

-- an attach may ask for execution, and then needs the permission
abbrev pub exec_is_asked : Rules → Bool
exec_is_asked rules = bit_and rules.0 512 == 512

-- no segment of huge pages is made: EPERM, or ENOMEM for user 0 and group 0
abbrev pub huge_is_refused : Rules → Bool
huge_is_refused rules = bit_and rules.0 1024 == 1024

-- all bits are those of known rules
abbrev pub are_rules : Rules → Bool
are_rules rules = bit_and rules.0 2047 == rules.0

-- THE ERRORS THAT THEY CHOOSE

-- for an identifier whose segment is destroyed
abbrev pub removed_errno : Rules → Errno
removed_errno rules = if removed_is_invalid rules then Einval else Eidrm

-- for a range that ends beyond the end of the addresses
abbrev pub end_errno : Rules → Errno
end_errno rules = if end_is_enomem rules then Enomem else Einval

-- for an attach that would make too many pieces
abbrev pub pieces_errno : Rules → Errno
pieces_errno rules = if pieces_are_enomem rules then Enomem else Emfile
