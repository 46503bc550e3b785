-- A page of zeros.
use Rattle.std.specs.Prelude.{ℕ, List, replicate}
use Rattle.shm_base.specs.declared.paging.TheConstants.{PAGE_SIZE}

-- a page of zeros
unfoldable pub zero_page : List ℕ
zero_page = replicate PAGE_SIZE 0
