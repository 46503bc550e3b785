-- What both proofs of `Parts` share. Assumes `Logic`.
use Rattle.nogcuvema.proofs.Names.{ftrue, flft, Lft, Share, ◌⊑◌, fact, Ura, Logic, Item, ‵, raw, ◌⊛◌, RattleType, Bx, R, P}
use Rattle.nogcuvema.specs.contracts.parts.Parts as parts

-- the parts of a box, as a row
abbrev pub PartsOf : Bx → RattleType
PartsOf E = parts.the_row (R E) (P E) E.al.g

module _ (E : Bx) {M : Type 1} {𝓤 : Ura M} (𝓛 : Logic 𝓤) where
  -- the tokens of the lifetimes of the value and of the allocator, and that they outlive what they are of
  abbrev pub tokens : (value alloc : Lft) (p q : Share) → Item 𝓤
  tokens value alloc p q = ‵ (flft value p) ⊛ ‵ (flft alloc q) ⊛ ‵ ftrue

  abbrev pub outlived : (value alloc : Lft) → Item 𝓤
  outlived value alloc = raw (fact 𝓤 (value ⊑ E.row.lives)) ⊛ raw (fact 𝓤 (alloc ⊑ E.al.row.lives)) ⊛ ‵ ftrue
