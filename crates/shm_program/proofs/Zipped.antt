-- Pairs that are appended to others.
use Rattle.shm_program.proofs.Names.{arith, ◌≡◌, ◌<◌, ◌+◌, ◌∙◌, ℕ, suc, List, [], ◌∷◌, ◌++◌, take, get_or, length, ap, sym, subst, take-suc, AllZip}

zipped-push : {X Y : Type 0} (R : X → Y → Type 0) (xs : List X) (ys : List Y) (x : X) (y : Y) → AllZip R xs ys → R x y → AllZip R (xs ++ x ∷ []) (ys ++ y ∷ [])
zipped-push R [] [] x y all r = (r, tt)
zipped-push R [] (b ∷ ys) x y all r = absurd all
zipped-push R (a ∷ xs) [] x y all r = absurd all
zipped-push R (a ∷ xs) (b ∷ ys) x y all r = (all.0, zipped-push R xs ys x y all.1 r)

-- the same for the items of a list so far
pub zipped-more : {X Y : Type 0} (R : X → Y → Type 0) (xs : List X) (ys : List Y) (i : ℕ) (d : X) (y : Y) → i < length xs → AllZip R (take i xs) ys → R (get_or xs i d) y → AllZip R (take (i + 1) xs) (ys ++ y ∷ [])
zipped-more R xs ys i d y within all r =
    let next : suc i ≡ i + 1 = omega arith in
    let front : take i xs ++ get_or xs i d ∷ [] ≡ take (i + 1) xs = sym (take-suc xs i d within) ∙ ap (λ n. take n xs) next in
    subst (λ zs. AllZip R zs (ys ++ y ∷ [])) front (zipped-push R (take i xs) ys (get_or xs i d) y all r)
