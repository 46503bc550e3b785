-- Each piece is within a segment that exists.
use Rattle.shm_laws.proofs.Names.{PiecesNameWhatStands, subst, sym, inr, ◌≡◌, ℕ, ◌+◌, ◌*◌, ◌%◌, ◌≤◌, true, length, get_or, Option, Some, None, refl, arith, common_steps, none-some, All-contains, Contains-get_or, Event, Segment, Piece, Runner, Machine, Place, covers, place_by, place, attach_count, Caller, caller_of, IsMove, Stands, HasPiece, EachPiece, pieces_of_caller}
use Rattle.shm_laws.proofs.Fates.{IsMachineSound}
use Rattle.shm_laws.proofs.Stepping.{Moved}
use Rattle.shm_laws.proofs.Accessing.{lies-in}
use Rattle.shm_laws.proofs.Looks.{one-segment}
use Rattle.shm_laws.proofs.Granting.{IsPieceGiven, Aligned, each-has, has-own, mine, given-move}
use Rattle.shm_laws.proofs.Naming.{Before, came-from}
use Rattle.shm_laws.proofs.Putting.{over-length}

-- TWO SEGMENTS AT ONE INDEX ARE ONE

pub one-index : (s : Machine) (a b : ℕ) (x y : Segment) → Stands s a x → Stands s b y → a % 32768 ≡ b % 32768 → a ≡ b
one-index s a b x y h k same = grind (arith, common_steps)

-- WHO HAS A PIECE IS COUNTED

pub has-count : (s : Machine) (pid : ℕ) (p : Piece) → HasPiece s pid p → 1 ≤ attach_count s.runners p.seg
has-count s pid p h = grind (arith, common_steps)

-- WITHIN ITS SEGMENT

pub record Fits (s : Machine) (p : Piece) : Type 0 where
  pub segment : Segment
  pub stands : Stands s p.seg segment
  pub within : 4096 * (p.first_page + p.pages) ≤ length segment.bytes

abbrev pub AllFit : Machine → Type 0
AllFit s = EachPiece (λ pid p. Fits s p) s

fits-given : (s : Machine) (e : Event) (pid : ℕ) (p : Piece) → AllFit s → IsPieceGiven s e pid p → Fits s p
fits-given s e pid p all (inr (inr (inr h))) =
    let r = h.reach in
    let f = each-has (λ pid q. Fits s q) s pid r.0 all r.1 in
    record { segment = f.segment; stands = subst (λ id. Stands s id f.segment) (sym r.2.seg) f.stands; within = omega (arith, f.within, r.3) }
fits-given s e pid p all h2 = grind (arith, each-has)

-- a piece that fitted fits if its segment still exists
fits-on : (s : Machine) (e : Event) (t : Machine) (p : Piece) (y : Segment) → Fits s p → Stands t p.seg y → Before s e p.seg y → Fits t p
fits-on s e t p y old stands h3 = grind (arith, common_steps, one-segment, over-length)

-- ONE MOVE

pub fits-move : (s : Machine) (n : ℕ) (e : Event) (t : Machine) → IsMachineSound s → Moved s e t → Aligned s → PiecesNameWhatStands t → AllFit s → IsMove s n e t → AllFit t
fits-move s n e t sound k aligned pieces fits m i d lt j q le =
    let r : Runner = get_or t.runners i d in
    let p : Piece = get_or r.pieces j q in
    let has : HasPiece t r.pid p = has-own t r (Contains-get_or t.runners i d lt) j q le in
    let there = pieces p.seg (has-count t r.pid p has) in
    fits-on s e t p there.0 (fits-given s e r.pid p fits (given-move s n e t aligned m i d lt j q le)) there.1 (came-from s t e sound k p.seg there.0 there.1)

-- THE PLACES OF A PROCESS

-- a place lies in a piece of the process that fits
pub record SpotFits (s : Machine) (pid a : ℕ) (q : Place) : Type 0 where
  pub piece : Piece
  pub has : HasPiece s pid piece
  pub fits : Fits s piece
  pub covered : covers piece a ≡ true
  pub spot : q ≡ place_by piece a

pub spot-fits : (s : Machine) (pid a : ℕ) (q : Place) → AllFit s → place (pieces_of_caller (caller_of s pid)) a ≡ Some q → SpotFits s pid a q
spot-fits s pid a q fits found = by (caller_of s pid) refl found
  where
    by : (o : Option Caller) → caller_of s pid ≡ o → place (pieces_of_caller o) a ≡ Some q → SpotFits s pid a q
    by None is none = absurd (none-some q none)
    by (Some c) is there =
        let l = lies-in c.pieces a q there in
        let has : HasPiece s pid l.piece = All-contains (HasPiece s pid) c.pieces l.piece (mine s pid c is) l.is in
        record { piece = l.piece; has = has; fits = each-has (λ m r. Fits s r) s pid l.piece fits has; covered = l.covered; spot = l.spot }
