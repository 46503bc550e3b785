-- Where shmat attaches a segment that it found.
use Rattle.std.specs.Option.{ok_or}
use Rattle.shm_life.proofs.Names.{nat_tests, ◌≡◌, ℕ, ℤ, ◌+◌, ◌<◌, ◌≤◌, true, false, length, refl, sym, ap, ◌∙◌, subst, arith, lt-ltb, le-ltb, segment_seen, AtFlags, Machine, pages_of, look, grants, at_wish, OnErr, IsFound, look_of, is_misplaced, if_few, base_for, pieces_beside, Placed, placed, placed_at, Piece, Segment, pages_in, choose_beside, ranges_of, Errno, Enomem, pieces_errno, Caller, List, Option, Result, Ok, Err}
use Rattle.shm_segments.specs.declared.head.Found.{Found as Live}

-- after the first tests, the base decides
pub placed-found : (s : Machine) (c : Caller) (id : ℤ) (addr : ℕ) (flags : AtFlags) (f : Live) → IsFound s.table f → is_misplaced s addr flags ≡ false
    → look s.table id ≡ look_of s.table f → grants c.cred f.head.perm (at_wish s flags) ≡ true
    → placed s c id addr flags ≡ placed_at s c f.seg (pages_of f.head.size) (base_for s c (segment_seen s.table f) flags addr)
placed-found s c id addr flags f found h is granted = grind (arith, nat_tests)

-- at a null address, the least gap beside the pieces and the reserved ranges is chosen
pub chosen-for : (s : Machine) (c : Caller) (x : Segment) (flags : AtFlags) (addr pages : ℕ) (ps : List Piece) (o : Option ℕ) (r : Result ℕ Errno)
    → addr ≡ 0 → pages ≡ pages_in x → ps ≡ c.pieces → o ≡ choose_beside ps (ranges_of c.pid s.host_ranges) pages → r ≡ ok_or o Enomem → r ≡ base_for s c x flags addr
chosen-for s c x flags addr pages ps o r null size own chosen is =
    let rs = ranges_of c.pid s.host_ranges in
    let same = chosen ∙ ap (λ qs. choose_beside qs rs pages) own ∙ ap (λ n. choose_beside c.pieces rs n) size in
    is ∙ ap (λ a. ok_or a Enomem) same ∙ subst (λ a. ok_or (choose_beside c.pieces rs (pages_in x)) Enomem ≡ base_for s c x flags a) (sym null) refl

pub if_few-under : (s : Machine) (c : Caller) (p : Placed) → length (pieces_beside c p) < s.limits.most_pieces → if_few s c p ≡ Ok p
if_few-under s c p few = rw (le-ltb s.limits.most_pieces (length (pieces_beside c p) + 1) (omega (arith, few))) refl

pub if_few-over : (s : Machine) (c : Caller) (p : Placed) → s.limits.most_pieces ≤ length (pieces_beside c p) → if_few s c p ≡ Err (pieces_errno s.limits.rules)
if_few-over s c p many = rw (lt-ltb s.limits.most_pieces (length (pieces_beside c p) + 1) (omega (arith, many))) refl

pub on-err : {T E X : Type 0} (r : Result T E) → X → OnErr r X
on-err (Ok t) x = tt
on-err (Err e) x = x
