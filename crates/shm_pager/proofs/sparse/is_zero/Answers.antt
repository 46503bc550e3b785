use Rattle.std.proofs.Common.{rules, tests, ◌≡◌, ◌==◌}
use Rattle.std.specs.List.{list_all}
use Rattle.std.proofs.lemmas.Iterator.{YieldsList-from_slice}
use Rattle.std.proofs.lemmas.Iterator.Search.{all_from_yields_List}
use Rattle.shm_pager.proofs.Rooms.{zero_page-from_all}
use Rattle.shm_pager.proofs.sparse.is_zero.Goals as goal

pub returns : goal.returns
returns c =
    let page = c.args.page.now in
    let all : c.all.result ≡ list_all (λ b. b == 0) page = all_from_yields_List (λ b. b == 0) _ _ c.all.result c.all.ensures.ran (YieldsList-from_slice page cc) (λ x b q k. search (rules, tests)) in
    rw all (zero_page-from_all page c.told-page)
