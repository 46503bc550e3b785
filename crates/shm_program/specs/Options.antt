-- The words of the command line for swap areas.
use Rattle.std.specs.Prelude.{ℕ, ◌+◌, ◌&&◌, ◌==◌, position, take, if◌then◌else◌, List, [], ◌∷◌, length, drop, Option, Some, None, slice_index, codes, nat_le}
use Rattle.std.specs.Str.{bytes_eq}
use Rattle.shm_base.specs.Bounds.{within}
use Rattle.shm_text.specs.Number.{decimal_of}
use Rattle.shm_program.specs.declared.options.SwapWord.{SwapWord}
use Rattle.shm_program.specs.declared.options.SwapWord.TheVariants.{Ram, Sparse, Mirror, FuseRead, FuseWrite}
use Rattle.shm_base.specs.declared.bounds.TheConstants.{MOST_SLOTS}

-- 1 to 2^28 slots
abbrev pub sized : Option ℕ → Option ℕ
sized None = None
sized (Some n) = if nat_le 1 n && nat_le n MOST_SLOTS then Some n else None

abbrev pub slots_of : List ℕ → Option ℕ
slots_of w = sized (decimal_of w)

-- the place of a read or a write, from 1
abbrev pub place_in : Option ℕ → Option ℕ
place_in None = None
place_in (Some k) = if nat_le 1 k then Some k else None

abbrev pub area_by : List ℕ → Option ℕ → Option SwapWord
area_by kind None = None
area_by kind (Some n) =
    if bytes_eq kind (codes "ram") then Some (Ram n) else
    if bytes_eq kind (codes "sparse") then Some (Sparse n) else
    if bytes_eq kind (codes "mirror") then Some (Mirror n) else
    None

abbrev pub fuse_by : List ℕ → Option ℕ → Option ℕ → Option SwapWord
fuse_by place None k = None
fuse_by place (Some n) None = None
fuse_by place (Some n) (Some k) =
    if slice_index place 0 == 114 then Some (FuseRead n k) else
    if slice_index place 0 == 119 then Some (FuseWrite n k) else
    None

abbrev pub colon : List ℕ → Option ℕ
colon w = position (λ b. b == 58) w

abbrev pub rest_by : List ℕ → List ℕ → Option ℕ → Option SwapWord
rest_by kind rest None = area_by kind (slots_of rest)
rest_by kind rest (Some j) =
    if bytes_eq kind (codes "fuse") then fuse_by (drop (j + 1) rest) (slots_of (take j rest)) (place_in (decimal_of (drop 1 (drop (j + 1) rest)))) else None

abbrev pub swap_by : List ℕ → Option ℕ → Option SwapWord
swap_by w None = None
swap_by w (Some i) = rest_by (take i w) (drop (i + 1) w) (colon (drop (i + 1) w))

-- `ram:N`, `sparse:N`, `mirror:N`, `fuse:N:rK` or `fuse:N:wK`
abbrev pub swap_of : List ℕ → Option SwapWord
swap_of w = swap_by w (colon w)

abbrev pub swap_before : Option SwapWord → Option (List SwapWord) → Option (List SwapWord)
swap_before (Some s) (Some ss) = Some (s ∷ ss)
swap_before (Some s) None = None
swap_before None rest = None

-- the areas of all words, if each names one
abbrev pub each_swap : List (List ℕ) → Option (List SwapWord)
each_swap [] = Some []
each_swap (w ∷ ws) = swap_before (swap_of w) (each_swap ws)

-- one to eight areas
abbrev pub swaps_of : List (List ℕ) → Option (List SwapWord)
swaps_of ws = if within 1 8 (length ws) then each_swap ws else None
