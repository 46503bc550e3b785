-- The swap areas that the command line names.
use Rattle.shm_program.proofs.Names.{◌≡◌, ◌<◌, ◌≤◌, List, [], ◌∷◌, map, refl, ap, ◌∙◌, AllZip, pager_seen, area_pages, failed_in, most_in, calls_in, AreaPager, made-seen, AreaView, fresh, new_swap, IsAreaOf, areas_named, blank_of, calls_of, kind_of, no_calls, size_of, handed_in, SwapWord}

each-named : (swaps : List SwapWord) (ps : List AreaPager) → AllZip IsAreaOf swaps ps
    → map (λ (p : AreaPager). fresh (pager_seen area_pages failed_in most_in calls_in p)) ps ≡ map (λ (swap : SwapWord). fresh (blank_of swap)) swaps
each-named [] [] all = refl
each-named [] (p ∷ ps) all = absurd all
each-named (w ∷ ws) [] all = absurd all
each-named (w ∷ ws) (p ∷ ps) all =
    let first : fresh (pager_seen area_pages failed_in most_in calls_in p) ≡ fresh (blank_of w) = ap fresh (made-seen (kind_of w) (size_of w) (calls_of w) no_calls p all.0.0) in
    ap (λ (a : AreaView). a ∷ map (λ (q : AreaPager). fresh (pager_seen area_pages failed_in most_in calls_in q)) ps) first
    ∙ ap (λ (areas : List AreaView). fresh (blank_of w) ∷ areas) (each-named ws ps all.1)

-- the areas of these words
pub named : (swaps : List SwapWord) (ps : List AreaPager) → AllZip IsAreaOf swaps ps → handed_in area_pages failed_in most_in calls_in ps ≡ areas_named swaps
named swaps ps all = ap new_swap (each-named swaps ps all)
