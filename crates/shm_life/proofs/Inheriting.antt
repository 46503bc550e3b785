-- Segments that a child inherits, noted piece by piece.
use Rattle.shm_life.proofs.Names.{◌≡◌, ℕ, ◌+◌, ◌<◌, List, [], ◌∷◌, length, get_or, take, refl, ap, ◌∙◌, All, bare_all, Entry, Piece, change, attached, attach_all, IsLive, map, length-map, Stored, segments_in}
use Rattle.std.proofs.Math.ListN.{get_or-map}
use Rattle.shm_life.proofs.Settled.{change_all-more, live-attached}

-- the segments of pieces as they are stored are those of the pieces
pub segments-bare : (ps : List Stored) → segments_in ps ≡ map (λ (p : Piece). p.seg) (bare_all ps)
segments-bare [] = refl
segments-bare (p ∷ ps) = ap (λ ids. p.seg ∷ ids) (segments-bare ps)

module _ (n pid : ℕ) (t : List Entry) (ps : List Stored) (i : ℕ) (d : Stored) (lt : i < length ps) where
  here : get_or (segments_in ps) i d.seg ≡ (get_or ps i d).seg
  here = get_or-map (λ (p : Stored). p.seg) ps i d

  within : i < length (segments_in ps)
  within = rw (length-map ps (λ (p : Stored). p.seg)) lt

  pub pieces-more : attach_all n pid t (take (i + 1) (segments_in ps)) ≡ change (attach_all n pid t (take i (segments_in ps))) (get_or ps i d).seg (attached n pid)
  pieces-more =
      change_all-more (attached n pid) t (segments_in ps) i d.seg within ∙ ap (λ id. change (attach_all n pid t (take i (segments_in ps))) id (attached n pid)) here

  pub pieces-live : All (IsLive t) (segments_in ps) → IsLive (attach_all n pid t (take i (segments_in ps))) (get_or ps i d).seg
  pieces-live all = live-attached n pid t (take i (segments_in ps)) (get_or ps i d).seg (rw here at (all i d.seg within))
