-- The pages that a mirror shows, slot by slot.
use Rattle.std.proofs.Common.{◌≡◌, ℕ, zero, suc, ◌<◌, ◌⊎◌, true, false, if◌then◌else◌, List, [], ◌∷◌, length, get_or, set, drop, replicate, refl, ap, ◌∙◌, inl, inr, arith, get_or-set_same}
use Rattle.std.proofs.lemmas.Grind.{common_steps}
use Rattle.std.proofs.lemmas.List.{get_or_read}
use Rattle.shm_pager_core.specs.Pages.{SlotUnknown}
use Rattle.shm_pager.specs.Mirror.{MirrorSeen, merged, pages_shown, good_at, no_side}
use Rattle.shm_pager.specs.declared.mirror.Good.{Good}

-- the page of one slot
abbrev pub shown : Good → List ℕ → List ℕ → List ℕ
shown g l r = if g.left then l else r

pub length-merged : (gs : List Good) (ls rs : List (List ℕ)) → length (merged gs ls rs) ≡ length gs
length-merged [] ls rs = refl
length-merged (g ∷ gs) ls rs = ap suc (length-merged gs (drop 1 ls) (drop 1 rs))

-- the marks of the slot that a call found
pub good-found : (v m : MirrorSeen) (slot : ℕ) (g : Good) → v ≡ m → g ≡ get_or v.good slot g → slot < length (pages_shown m) → g ≡ good_at m slot
good-found v m slot g same found within = get_or_read m.good slot g (omega (arith, within, length-merged m.good m.left.pages m.right.pages)) (rw (← same) found) no_side

pub get_or-merged : (gs : List Good) (ls rs : List (List ℕ)) (i : ℕ) → i < length gs
    → get_or (merged gs ls rs) i [] ≡ shown (get_or gs i no_side) (get_or ls i []) (get_or rs i [])
get_or-merged [] ls rs i within = absurd (omega arith)
get_or-merged (g ∷ gs) ls rs zero within = refl
get_or-merged (g ∷ gs) ls rs (suc i) within = grind (arith, common_steps, (get_or-merged gs (drop 1 ls) (drop 1 rs) i))

-- one slot of both sides written, and its marks
merged-set : (gs : List Good) (ls rs : List (List ℕ)) (i : ℕ) (g : Good) (l r : List ℕ) → length ls ≡ length gs → length rs ≡ length gs
    → merged (set gs i g) (set ls i l) (set rs i r) ≡ set (merged gs ls rs) i (shown g l r)
merged-set [] ls rs i g l r el er = refl
merged-set (g₀ ∷ gs) [] rs i g l r el er = absurd (omega arith)
merged-set (g₀ ∷ gs) (l₀ ∷ ls) [] i g l r el er = absurd (omega arith)
merged-set (g₀ ∷ gs) (l₀ ∷ ls) (r₀ ∷ rs) zero g l r el er = refl
merged-set (g₀ ∷ gs) (l₀ ∷ ls) (r₀ ∷ rs) (suc i) g l r el er = grind (arith, common_steps, (merged-set gs ls rs i g l r))

-- one slot of both sides became unknown, and has these marks
merged-unknown : (gs : List Good) (ls rs ls' rs' : List (List ℕ)) (i : ℕ) (g : Good) → length ls ≡ length gs → length rs ≡ length gs
    → SlotUnknown i ls ls' → SlotUnknown i rs rs'
    → merged (set gs i g) ls' rs' ≡ set (merged gs ls rs) i (shown g (get_or ls' i []) (get_or rs' i []))
merged-unknown gs ls rs ls' rs' i g el er ul ur = grind (arith, common_steps, set, merged-set)

-- a slot that was set counts as unknown
unknown-set : (xs ys : List (List ℕ)) (i : ℕ) (x : List ℕ) → i < length xs → ys ≡ set xs i x → SlotUnknown i xs ys
unknown-set xs ys i x within e = grind (arith, common_steps)

-- if one slot of both sides is unknown, it is unknown in the mirror too
pub unknown-merged : (gs : List Good) (ls rs ls' rs' : List (List ℕ)) (i : ℕ) (g : Good) → i < length gs → length ls ≡ length gs → length rs ≡ length gs
    → SlotUnknown i ls ls' → SlotUnknown i rs rs' → SlotUnknown i (merged gs ls rs) (merged (set gs i g) ls' rs')
unknown-merged gs ls rs ls' rs' i g within el er ul ur =
    unknown-set (merged gs ls rs) (merged (set gs i g) ls' rs') i (shown g (get_or ls' i []) (get_or rs' i [])) (omega (arith, length-merged gs ls rs)) (merged-unknown gs ls rs ls' rs' i g el er ul ur)

-- one slot of both sides is unknown, except on the sides that took the page, at least one
pub merged-written : (gs : List Good) (ls rs ls' rs' : List (List ℕ)) (i : ℕ) (g : Good) (page : List ℕ) → i < length gs → length ls ≡ length gs → length rs ≡ length gs
    → SlotUnknown i ls ls' → SlotUnknown i rs rs' → (g.left ≡ true → ls' ≡ set ls i page) → (g.right ≡ true → rs' ≡ set rs i page)
    → (g.left ≡ true) ⊎ ((g.left ≡ false) × (g.right ≡ true)) → merged (set gs i g) ls' rs' ≡ set (merged gs ls rs) i page
merged-written gs ls rs ls' rs' i g page within el er ul ur on_left on_right took =
    merged-unknown gs ls rs ls' rs' i g el er ul ur ∙ ap (set (merged gs ls rs) i) (by took)
  where
    by : (g.left ≡ true) ⊎ ((g.left ≡ false) × (g.right ≡ true)) → shown g (get_or ls' i []) (get_or rs' i []) ≡ page
    by (inl l) =
        rw l (ap (λ zs. get_or zs i []) (on_left l) ∙ get_or-set_same ls i page [] (omega arith))
    by (inr r) =
        let no_left = r.0 in
        rw no_left (ap (λ zs. get_or zs i []) (on_right r.1) ∙ get_or-set_same rs i page [] (omega arith))

-- both sides filled with one page, and both good
merged-replicate : (n : ℕ) (g : Good) (x : List ℕ) → merged (replicate n g) (replicate n x) (replicate n x) ≡ replicate n x
merged-replicate zero g x = refl
merged-replicate (suc n) g x = grind (arith, common_steps, (merged-replicate n g x))

-- both sides wiped, and both good
pub merged-wiped : (gs gs' : List Good) (ls rs ls' rs' : List (List ℕ)) (g : Good) (x : List ℕ) → length ls ≡ length gs → length rs ≡ length gs
    → gs' ≡ replicate (length gs) g → ls' ≡ replicate (length ls) x → rs' ≡ replicate (length rs) x
    → merged gs' ls' rs' ≡ replicate (length (merged gs ls rs)) x
merged-wiped gs gs' ls rs ls' rs' g x el er eg l r = grind (arith, common_steps, merged-replicate, length-merged)

pub ruleset merging = (length-merged, get_or-merged)
