use Rattle.shm_areas.proofs.Names.{◌≡◌, ℕ, ◌-◌, ◌<◌, ◌≤◌, arith, common_steps, length, get_or, if◌then◌else◌, nat_lt, List, sym, end_of, Some, None, lowest_address, Piece, bare, bare_all, Arranged, IsFit, covering}
use Rattle.shm_areas.proofs.Placing.{none_at, covering_last, fit_at, whole_of}
use Rattle.shm_areas.proofs.space.Space.piece_at.Goals.{After-index-piece}
use Rattle.shm_areas.proofs.space.Space.piece_at.Goals as goal

-- the last piece that begins at or below the address is the only one that may cover it
record IsLast (a : ℕ) (p : Piece) (ps : List Piece) : Type 0 where
  fit : IsFit (bare p)
  from : p.base ≤ a
  covers : covering a (bare_all ps) ≡ (if nat_lt a (end_of (bare p)) then Some (bare p) else None)

is_last : (a n : ℕ) (ps : List Piece) (p : Piece) → Arranged lowest_address (bare_all ps) → 1 ≤ n → n ≤ length ps
    → ((k : ℕ) (d : Piece) → k < n → (get_or ps k d).base ≤ a)
    → ((k : ℕ) (d : Piece) → n ≤ k → k < length ps → a < (get_or ps k d).base)
    → p ≡ get_or ps (n - 1) p → IsLast a p ps
is_last a n ps p ar some bound below above is =
    record {
      fit = rw is (fit_at lowest_address ps (n - 1) p ar (omega arith));
      from = rw is (below (n - 1) p (omega arith));
      covers = rw is (covering_last a lowest_address (n - 1) ps p ar (omega arith) (λ k d l. below k d (omega arith)) (λ k d g l. above k d (omega arith) l));
    }

last : (c : After-index-piece) → IsLast c.args.addr c.index-piece.result.now c.args.self.now.pieces
last c =
    let own : c.deref.result.now ≡ c.args.self.now.pieces = cc in
    let shown : c.self.inside.pieces.items ≡ c.args.self.now.pieces = cc in
    is_last c.args.addr c.count_to-count.result c.args.self.now.pieces c.index-piece.result.now (rw (← c.self.view_is) c.self.invariant.0.arranged) (omega arith)
    (rw own at c.count_to-count.ensures.bound) (rw own at c.count_to-count.ensures.below) (rw own at c.count_to-count.ensures.above)
    (rw shown at c.index-piece.ensures)

pub returns-then-count-eq0-clause-value : goal.returns-then-count-eq0-clause-value
returns-then-count-eq0-clause-value c =
    let own : c.deref.result.now ≡ c.args.self.now.pieces = cc in
    let none : c.count_to-count.result ≡ 0 = c.if-count-eq0.true in
    sym (none_at c.args.addr lowest_address c.args.self.now.pieces (rw (← c.self.view_is) c.self.invariant.0.arranged)
    (λ k d l. (rw own at c.count_to-count.ensures.above) k d (omega arith) l))

pub end-requires : goal.end-requires
end-requires c = (last c).fit

pub returns-then-addr-end-clause-value : goal.returns-then-addr-end-clause-value
returns-then-addr-end-clause-value c =
    let l = last (goal.at.returns-then-addr-end-clause-value c).After-index-piece in
    grind (arith, common_steps, l.covers)

pub returns-then-addr-end-clause-within : goal.returns-then-addr-end-clause-within
returns-then-addr-end-clause-within c =
    let l = last (goal.at.returns-then-addr-end-clause-within c).After-index-piece in
    record { fit = l.fit; from = l.from; to = omega arith }

pub returns-then-addr-end-clause-whole : goal.returns-then-addr-end-clause-whole
returns-then-addr-end-clause-whole c =
    let l = last (goal.at.returns-then-addr-end-clause-whole c).After-index-piece in
    whole_of c.args.addr lowest_address c.args.self.now.pieces (Some c.index-piece.result.now) (rw (← c.self.view_is) c.self.invariant.0.arranged) (grind (arith, common_steps, l.covers))

pub returns-else-addr-end-clause-value : goal.returns-else-addr-end-clause-value
returns-else-addr-end-clause-value c =
    let l = last (goal.at.returns-else-addr-end-clause-value c).After-index-piece in
    grind (arith, common_steps, l.covers)
