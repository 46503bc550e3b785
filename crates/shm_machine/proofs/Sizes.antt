-- The pagers of areas, and what is seen of them.
use Rattle.std.proofs.Common.{◌≡◌, ◌≤◌, ◌⊎◌, ℕ, suc, ◌<◌, ◌+◌, List, [], ◌∷◌, ◌++◌, map, length, take, get_or, None, Some, refl, sym, ap, subst, ◌∙◌, inl, inr, arith}
use Rattle.std.proofs.lemmas.Bool.Decides.{nat_tests}
use Rattle.std.proofs.lemmas.Grind.{common_steps}
use Rattle.std.proofs.Math.Seq.{take-suc}
use Rattle.std.proofs.lemmas.List.{length-map, length-take-le}
use Rattle.shm_base.specs.Bounds.{Bounds}
use Rattle.shm_base.specs.declared.call.Process.{Process}
use Rattle.shm_pager_core.specs.Pages.{PagerView, pager_seen}
use Rattle.shm_slots.specs.View.{fresh}
use Rattle.shm_life.specs.Start.{IsFirstError, start_error}
use Rattle.shm_life.specs.declared.start.StartError.{StartError}
use Rattle.shm_life.specs.declared.start.StartError.TheVariants.{HostMemory}
use Rattle.shm_pager.specs.declared.area.AreaPager.{AreaPager}
use Rattle.shm_machine.specs.declared.opening.AreaConfig.{AreaConfig}
use Rattle.shm_machine.specs.declared.opening.Failure.{Failure}
use Rattle.shm_pager_core.specs.declared.failing.Side.TheVariants.{Left, Right}
use Rattle.shm_pager.specs.Areas.{area_pages, failed_in, most_in, calls_in}
use Rattle.shm_pager.proofs.Made.{made-seen}
use Rattle.shm_machine.specs.Opened.{sizes_of, failing_at, IsMade, AreMade, pagers_made}

map-after : {X Y Z : Type 0} (f : Y → Z) (g : X → Y) (xs : List X) → map (λ x. f (g x)) xs ≡ map f (map g xs)
map-after f g [] = refl
map-after f g (x ∷ xs) = ap (λ ys. f (g x) ∷ ys) (map-after f g xs)

-- one more area
pub made-more : (failures : List Failure) (index : ℕ) (areas : List AreaConfig) (ps : List AreaPager) (a : AreaConfig) (p : AreaPager)
    → AreMade failures index areas ps → IsMade failures (index + length areas) a p → AreMade failures index (areas ++ a ∷ []) (ps ++ p ∷ [])
made-more failures index [] [] a p made one = (subst (λ n. IsMade failures n a p) (omega arith) one, tt)
made-more failures index [] (q ∷ ps) a p made one = absurd made
made-more failures index (b ∷ areas) [] a p made one = absurd made
made-more failures index (b ∷ areas) (q ∷ ps) a p made one =
    (made.0, made-more failures (index + 1) areas ps a p made.1 (subst (λ n. IsMade failures n a p) (omega arith) one))

pub made-next : (failures : List Failure) (areas : List AreaConfig) (i : ℕ) (ps : List AreaPager) (d : AreaConfig) (p : AreaPager) → i < length areas
    → AreMade failures 0 (take i areas) ps → IsMade failures i (get_or areas i d) p → AreMade failures 0 (take (i + 1) areas) (ps ++ p ∷ [])
made-next failures areas i ps d p within made one =
    let next : suc i ≡ i + 1 = omega arith in
    let front : take i areas ++ get_or areas i d ∷ [] ≡ take (i + 1) areas = sym (take-suc areas i d within) ∙ ap (λ n. take n areas) next in
    let place : i ≡ 0 + length (take i areas) = omega (arith, length-take-le i areas (omega arith)) in
    subst (λ xs. AreMade failures 0 xs (ps ++ p ∷ [])) front (made-more failures 0 (take i areas) ps (get_or areas i d) p made (subst (λ n. IsMade failures n (get_or areas i d) p) place one))

-- what is seen of the pagers
pub pagers-seen : (failures : List Failure) (index : ℕ) (areas : List AreaConfig) (ps : List AreaPager) → AreMade failures index areas ps → map (pager_seen area_pages failed_in most_in calls_in) ps ≡ pagers_made failures index areas
pagers-seen failures index [] [] made = refl
pagers-seen failures index [] (p ∷ ps) made = absurd made
pagers-seen failures index (a ∷ areas) [] made = absurd made
pagers-seen failures index (a ∷ areas) (p ∷ ps) made =
    let first = made-seen a.kind a.slots (failing_at failures index Left) (failing_at failures index Right) p made.0 in
    let rest = pagers-seen failures (index + 1) areas ps made.1 in
    rw (first, rest) refl

made-sizes : (failures : List Failure) (index : ℕ) (areas : List AreaConfig) → map (λ (v : PagerView). length v.pages) (pagers_made failures index areas) ≡ sizes_of areas
made-sizes failures index [] = refl
made-sizes failures index (a ∷ areas) = grind (arith, common_steps, (made-sizes failures (index + 1) areas))

pub pager-sizes : (failures : List Failure) (ps : List AreaPager) (areas : List AreaConfig) → AreMade failures 0 areas ps → map (λ (p : AreaPager). length (area_pages p)) ps ≡ sizes_of areas
pager-sizes failures ps areas made =
    map-after (λ (v : PagerView). length v.pages) (pager_seen area_pages failed_in most_in calls_in) ps
    ∙ (ap (λ vs. map (λ (v : PagerView). length v.pages) vs) (pagers-seen failures 0 areas ps made) ∙ made-sizes failures 0 areas)

pub pager-areas : (failures : List Failure) (ps : List AreaPager) (areas : List AreaConfig) → AreMade failures 0 areas ps
    → map (λ (p : AreaPager). fresh (pager_seen area_pages failed_in most_in calls_in p)) ps ≡ map fresh (pagers_made failures 0 areas)
pager-areas failures ps areas made =
    map-after fresh (pager_seen area_pages failed_in most_in calls_in) ps ∙ ap (λ vs. map fresh vs) (pagers-seen failures 0 areas ps made)

pub first-error : (limits : Bounds) (e : StartError) (sizes known : List ℕ) (processes : List Process) → sizes ≡ known → IsFirstError e (start_error limits sizes processes) → (e ≡ HostMemory) ⊎ (start_error limits known processes ≡ Some e)
first-error limits e sizes known processes same (inl is) = inr (ap (λ ns. start_error limits ns processes) (sym same) ∙ is)
first-error limits e sizes known processes same (inr none) = inl none.0

-- areas without an error are few
pub few-areas : (limits : Bounds) (areas : List AreaConfig) → start_error limits (sizes_of areas) [] ≡ None → length areas ≤ 8
few-areas limits areas none = grind (arith, common_steps, length-map, nat_tests)
