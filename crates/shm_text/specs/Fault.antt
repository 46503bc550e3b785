-- The texts of the faults.
use Rattle.std.specs.Prelude.{ℕ, List, ◌++◌, codes}
use Rattle.std.specs.Fmt.{decimal}
use Rattle.shm_text.specs.declared.fault.FaultKind.{FaultKind}
use Rattle.shm_text.specs.declared.fault.FaultKind.TheVariants.{TooLong, BadByte, NoLimits, BadLine, LengthsDiffer, TooWide, BadNumber, BadLimits, UnknownProcess, Twice, TooMany}

abbrev pub kind_text : FaultKind → List ℕ
kind_text TooLong = codes "script too long"
kind_text BadByte = codes "bad byte"
kind_text NoLimits = codes "no limits line"
kind_text BadLine = codes "bad line"
kind_text LengthsDiffer = codes "lengths differ"
kind_text TooWide = codes "too wide for a variable"
kind_text BadNumber = codes "bad number"
kind_text (BadLimits n) = codes "bad limits " ++ decimal n
kind_text UnknownProcess = codes "unknown process"
kind_text Twice = codes "process declared twice"
kind_text TooMany = codes "too many lines"
