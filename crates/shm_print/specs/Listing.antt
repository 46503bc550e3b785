-- The lines of a listing: its header, and the line of a segment.
use Rattle.std.specs.Prelude.{ℕ, ◌-◌, ℤ, List, ◌++◌, length, replicate, codes}
use Rattle.std.specs.Fmt.{decimal, signed_decimal}
use Rattle.shm_base.specs.declared.call.ShmidDs.{ShmidDs}
use Rattle.shm_print.specs.Text.{key_text, mode_text, status_text}

-- a cell is padded to 10 characters, and a space follows it
abbrev pub cell : List ℕ → List ℕ
cell text = text ++ (replicate (10 - length text) 32 ++ codes " ")

-- the last cell is not padded
abbrev pub table_line : List ℕ → List ℕ → List ℕ → List ℕ → List ℕ → List ℕ → List ℕ → List ℕ
table_line key shmid owner perms bytes nattch status =
    cell key ++ (cell shmid ++ (cell owner ++ (cell perms ++ (cell bytes ++ (cell nattch ++ (status ++ codes "\n"))))))

abbrev pub header_line : List ℕ
header_line =
    table_line (codes "key") (codes "shmid") (codes "owner") (codes "perms") (codes "bytes") (codes "nattch") (codes "status")

-- the line of a segment: its identifier, and what stat shows of it
abbrev pub segment_line : ℤ → ShmidDs → List ℕ
segment_line id s =
    table_line (key_text s.key) (signed_decimal id) (decimal s.perm.uid) (mode_text s.perm.mode) (decimal s.size) (decimal s.nattch) (status_text s.status)
