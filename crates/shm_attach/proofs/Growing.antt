-- A protect never makes fewer pieces: a range that has one piece at most leaves a part of each other piece that it meets.
use Rattle.shm_attach.proofs.Names.{◌≡◌, ℕ, ◌+◌, ◌<◌, ◌≤◌, List, [], ◌∷◌, ◌++◌, length, Option, Some, None, sym, ap, arith, common_steps, inl, inr, All, All-head, All-tail, end_of, cut, parts, option_to_list, most_at, Runner, ArrangedBy, IsWhole, cases_lt, append_assoc, length-append, IfSome, Protected, Grows, held, noted, split_in, flat_map-cons}
use Rattle.shm_base.specs.State.{Piece}

-- HOW MANY PIECES A CUT LEAVES

counted : (low high : ℕ) (p : Piece) (ps : List Piece) → length (cut low high (p ∷ ps)) ≡ length (parts low high p) + length (cut low high ps)
counted low high p ps = rw (flat_map-cons (parts low high) p ps) (length-append (parts low high p) (cut low high ps))

-- a piece that reaches beyond one side of a range leaves a part there
leaves-above : (low high : ℕ) (p : Piece) → high < end_of p → 1 ≤ length (parts low high p)
leaves-above low high p lt = grind (arith, common_steps, length-append)

leaves-below : (low high : ℕ) (p : Piece) → p.base < low → 1 ≤ length (parts low high p)
leaves-below low high p lt = grind (arith, common_steps, length-append)

-- each piece in the range begins at this address
abbrev pub AreAt : ℕ → ℕ → ℕ → List Piece → Type 0
AreAt b low high ps = All (λ (q : Piece). low ≤ q.base → end_of q ≤ high → q.base ≡ b) ps

left-all : (b l low high : ℕ) (ps : List Piece) → ArrangedBy IsWhole l ps → b < l → AreAt b low high ps → length ps ≤ length (cut low high ps)
left-all b l low high [] ar past at = omega arith
left-all b l low high (p ∷ ps) ar past at =
    let first = All-head (λ (q : Piece). low ≤ q.base → end_of q ≤ high → q.base ≡ b) p ps at in
    let rest = left-all b (end_of p) low high ps ar.1.1 (omega (arith, ar.0, past)) (All-tail (λ (q : Piece). low ≤ q.base → end_of q ≤ high → q.base ≡ b) p ps at) in
    elim (cases_lt p.base low) [
      | inl below ↦ omega (arith, counted low high p ps, leaves-below low high p below, rest)
      | inr from ↦ elim (cases_lt high (end_of p)) [
        | inl above ↦ omega (arith, counted low high p ps, leaves-above low high p above, rest)
        | inr to ↦ absurd (let same = first from to in omega (arith, same, ar.0, past))
      ]
    ]

-- so one piece is in it at most, and all others leave a part
pub left-many : (b l low high : ℕ) (ps : List Piece) → ArrangedBy IsWhole l ps → AreAt b low high ps → length ps ≤ length (cut low high ps) + 1
left-many b l low high [] ar at = omega arith
left-many b l low high (p ∷ ps) ar at =
    let first = All-head (λ (q : Piece). low ≤ q.base → end_of q ≤ high → q.base ≡ b) p ps at in
    let others = All-tail (λ (q : Piece). low ≤ q.base → end_of q ≤ high → q.base ≡ b) p ps at in
    let rest = left-many b (end_of p) low high ps ar.1.1 others in
    elim (cases_lt p.base low) [
      | inl below ↦ omega (arith, counted low high p ps, leaves-below low high p below, rest)
      | inr from ↦ elim (cases_lt high (end_of p)) [
        | inl above ↦ omega (arith, counted low high p ps, leaves-above low high p above, rest)
        | inr to ↦ (
            let same = first from to in
            omega (arith, counted low high p ps, left-all b (end_of p) low high ps ar.1.1 (omega (arith, same, ar.1.0.some)) others)
            )
      ]
    ]

-- a named segment has one more piece, for which there is room
pub grows : (es fs : List (ℕ × Runner)) (i id : ℕ) (split : Option ℕ) (now : List Piece) → option_to_list split ≡ split_in id (length (held es i)) (length now) → held fs i ≡ now
    → length (held es i) ≤ length now → length now ≤ most_at es i → Grows es fs i split
grows es fs i id None now named is more room = record { more = omega (arith, ap length is, more); room = tt }
grows es fs i id (Some seg) now named is more room =
    let one : 1 ≡ length (split_in id (length (held es i)) (length now)) = ap length named in
    let grown : length (held es i) < length now = grind (arith, one) in
    record { more = omega (arith, ap length is, grown); room = omega (arith, ap length is, room) }

-- WHAT IS NOTED

pub noted-twice : (first then : List ℕ) (x : Protected) → noted first (noted then x) ≡ noted (first ++ then) x
noted-twice first then x = ap (λ (ids : List ℕ). record x { split = ids }) (sym (append_assoc first then x.split))

-- one more is noted where there is one more piece, for which there is room
pub room-left : (ids : List ℕ) (split : Option ℕ) (now room most : ℕ) → length ids ≤ most → length ids + length (option_to_list split) ≤ now → IfSome split (λ _. now ≤ room) → room ≡ most
    → length ids + length (option_to_list split) ≤ most
room-left ids None now room most few more fits same = omega (arith, few)
room-left ids (Some id) now room most few more fits same = omega (arith, more, fits, same)
