-- The error for an identifier without a segment.
use Rattle.std.specs.Prelude.{Option, Some, None}
use Rattle.shm_base.specs.declared.errno.Errno.{Errno}
use Rattle.shm_base.specs.declared.errno.Errno.TheVariants.{Einval}
use Rattle.shm_base.specs.declared.flags.Rules.{Rules}
use Rattle.shm_base.specs.Rules.{removed_errno}
use Rattle.shm_base.specs.Identifier.{Look, Found, Removed, Invalid}

abbrev pub refused_by : Rules → Look → Option Errno
refused_by rules (Found i x) = None
refused_by rules Removed = Some (removed_errno rules)
refused_by rules Invalid = Some Einval
