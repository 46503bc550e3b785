-- The numbers and the names of the errors.
use Rattle.std.specs.Prelude.{ℕ, List, codes}
use Rattle.shm_base.specs.declared.errno.Errno.{Errno}
use Rattle.shm_base.specs.declared.errno.Errno.TheVariants.{Eperm, Enoent, Esrch, Eio, Eagain, Enomem, Eacces, Eexist, Einval, Emfile, Enospc, Eidrm, Sigbus, Sigsegv}

abbrev pub code_of : Errno → ℕ
code_of Eperm = 1
code_of Enoent = 2
code_of Esrch = 3
code_of Eio = 5
code_of Eagain = 11
code_of Enomem = 12
code_of Eacces = 13
code_of Eexist = 17
code_of Einval = 22
code_of Emfile = 24
code_of Enospc = 28
code_of Eidrm = 43
code_of Sigbus = 1007
code_of Sigsegv = 1011

abbrev pub name_of : Errno → List ℕ
name_of Eperm = codes "EPERM"
name_of Enoent = codes "ENOENT"
name_of Esrch = codes "ESRCH"
name_of Eio = codes "EIO"
name_of Eagain = codes "EAGAIN"
name_of Enomem = codes "ENOMEM"
name_of Eacces = codes "EACCES"
name_of Eexist = codes "EEXIST"
name_of Einval = codes "EINVAL"
name_of Emfile = codes "EMFILE"
name_of Enospc = codes "ENOSPC"
name_of Eidrm = codes "EIDRM"
name_of Sigbus = codes "SIGBUS"
name_of Sigsegv = codes "SIGSEGV"
