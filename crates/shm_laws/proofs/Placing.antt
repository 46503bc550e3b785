-- What it means that shmat has a place.
use Rattle.shm_laws.proofs.Names.{◌≡◌, ℕ, ◌+◌, ◌-◌, ◌*◌, ◌%◌, ◌≤◌, ◌==◌, ℤ, pos, negsuc, Bool, true, false, not, nat_lt, if◌then◌else◌, List, [], ◌∷◌, length, map, Option, Some, None, refl, sym, ap, subst, ◌∙◌, arith, common_steps, All, not-false, none-some, Errno, Eacces, Einval, Enomem, AtFlags, end_of, grants, Segment, Piece, Machine, pages_in, Look, Found, Removed, Invalid, identifier, destroyed_at, look, inside, occupied, first_chosen, lowest_address, end_address, Caller, at_wish, is_remap, is_taken, is_full, is_misplaced, pieces_errno, pieces_beside, pieces_with, piece_for, Placed, placed, placed_at, placed_found, base_for, chosen_base, fixed_base, Stands, length-inserted, inl, inr, cases_lt, choose_beside, is_free_gap, least_where, lesser, host_ranges, outside_errno, IsAligned, Result, Ok, Err, min, ◌++◌}
use Rattle.std.specs.Option.{ok_or}
use Rattle.shm_base.specs.declared.guest.HostRange.{HostRange}
use Rattle.shm_laws.proofs.Looks.{found-own}

-- the base is within the addresses, at a page, and free unless a remap asks for it
pub record IsBase (ps : List Piece) (flags : AtFlags) (pages base : ℕ) : Type 0 where
  pub page : All IsAligned ps → base % 4096 ≡ 0
  pub from : lowest_address ≤ base
  pub to : base + 4096 * pages ≤ end_address
  pub free : is_remap flags ≡ false → occupied ps base (base + 4096 * pages) ≡ false

pub record IsPlaced (s : Machine) (c : Caller) (flags : AtFlags) (p : Placed) : Type 0 where
  pub segment : Segment
  pub stands : Stands s p.seg segment
  pub whole : p.pages ≡ pages_in segment
  pub permitted : grants c.cred segment.perm (at_wish s flags) ≡ true
  pub lies : IsBase c.pieces flags p.pages p.base
  pub few : length (pieces_with c flags p) ≤ s.limits.most_pieces

-- a test that did not refuse
ok-if : {A E : Type 0} (b : Bool) (e : E) (r : Result A E) (a : A) → (if b then Err e else r) ≡ Ok a → (b ≡ false) × (r ≡ Ok a)
ok-if true e r a h = absurd (cc h)
ok-if false e r a h = (refl, h)

pub few-enough : (most n : ℕ) → nat_lt most n ≡ false → n ≤ most
few-enough most n h = grind (arith, common_steps)

-- THE SYSTEM CHOOSES

passing-one : (test : ℕ → Bool) (x a : ℕ) (b : Bool) (o : Option ℕ) → test x ≡ b → ((y : ℕ) → o ≡ Some y → test y ≡ true) → (if b then lesser x o else o) ≡ Some a → test a ≡ true
passing-one test x a false o own rest is = rest a is
passing-one test x a true None own rest is = subst (λ y. test y ≡ true) (cc is) own
passing-one test x a true (Some y) own rest is = elim (cases_lt x y) [
  | inl lt ↦ let least : min x y ≡ x = omega (arith, lt) in subst (λ z. test z ≡ true) (sym least ∙ cc is) own
  | inr ge ↦ let least : min x y ≡ y = omega (arith, ge) in subst (λ z. test z ≡ true) (sym least ∙ cc is) (rest y refl)
]

passing : (test : ℕ → Bool) (xs : List ℕ) (a : ℕ) → least_where test xs ≡ Some a → test a ≡ true
passing test [] a found = absurd (none-some a found)
passing test (x ∷ xs) a found = passing-one test x a (test x) (least_where test xs) refl (λ y h. passing test xs y h) found

in-gap : (flags : AtFlags) (ps : List Piece) (rs : List HostRange) (pages base : ℕ) → is_free_gap ps rs pages base ≡ true → IsBase ps flags pages base
in-gap flags ps rs pages base gap = record { page = λ all. grind (arith, common_steps); from = grind (arith, common_steps); to = grind (arith, common_steps); free = λ plain. grind (arith, common_steps) }

chosen : (c : Caller) (rs : List HostRange) (flags : AtFlags) (x : Segment) (base : ℕ) (o : Option ℕ) → choose_beside c.pieces rs (pages_in x) ≡ o → ok_or o Enomem ≡ Ok base → IsBase c.pieces flags (pages_in x) base
chosen c rs flags x base None found is = absurd (cc is)
chosen c rs flags x base (Some a) found is =
    let there : choose_beside c.pieces rs (pages_in x) ≡ Some base = found ∙ cc is in
    in-gap flags c.pieces rs (pages_in x) base (passing (is_free_gap c.pieces rs (pages_in x)) (first_chosen ∷ map end_of c.pieces ++ map (λ (r : HostRange). r.to) rs) base there)

-- THE CALLER GIVES THE ADDRESS

in-range : (s : Machine) (c : Caller) (x : Segment) (flags : AtFlags) (base : ℕ) → base % 4096 ≡ 0 → is_taken s c x flags base ≡ false → not (inside base (pages_in x)) ≡ false → IsBase c.pieces flags (pages_in x) base
in-range s c x flags base page taken within =
    record { page = λ all. page; from = grind (arith, common_steps); to = grind (arith, common_steps); free = λ plain. grind (arith, common_steps) }

fixed : (s : Machine) (c : Caller) (x : Segment) (flags : AtFlags) (at base : ℕ) → at % 4096 ≡ 0 → fixed_base s c x flags at ≡ Ok base → IsBase c.pieces flags (pages_in x) base
fixed s c x flags at base page is =
    let taken = ok-if (is_taken s c x flags at) Einval _ base is in
    let full = ok-if (is_full s c) Enomem _ base taken.1 in
    let within = ok-if (not (inside at (pages_in x))) (outside_errno s c (at + 4096 * pages_in x)) (Ok at) base full.1 in
    subst (IsBase c.pieces flags (pages_in x)) (cc within.1) (in-range s c x flags at page taken.0 within.0)

is-base : (s : Machine) (c : Caller) (x : Segment) (flags : AtFlags) (addr base : ℕ) (b : Bool)
    → (if b then chosen_base s c x else fixed_base s c x flags (addr - addr % 4096)) ≡ Ok base → IsBase c.pieces flags (pages_in x) base
is-base s c x flags addr base true is = chosen c (host_ranges s c) flags x base (choose_beside c.pieces (host_ranges s c) (pages_in x)) refl is
is-base s c x flags addr base false is = fixed s c x flags (addr - addr % 4096) base (omega arith) is

-- THE PLACE

in-found : (s : Machine) (c : Caller) (m : ℕ) (flags : AtFlags) (addr : ℕ) (p : Placed) (l : Look) → look s.table (pos m) ≡ l → placed_found s c flags addr l ≡ Ok p → (pos m ≡ pos p.seg) × IsPlaced s c flags p
in-found s c m flags addr p Invalid looked is = absurd (cc is)
in-found s c m flags addr p Removed looked is = absurd (cc is)
in-found s c m flags addr p (Found i x) looked is =
    let granted = ok-if (not (grants c.cred x.perm (at_wish s flags))) Eacces _ p is in
    by (base_for s c x flags addr) refl granted.1 (not-false (grants c.cred x.perm (at_wish s flags)) granted.0)
  where
    seg : ℕ
    seg = identifier i (destroyed_at s.table i)

    by : (r : Result ℕ Errno) → base_for s c x flags addr ≡ r → placed_at s c seg (pages_in x) r ≡ Ok p → grants c.cred x.perm (at_wish s flags) ≡ true → (pos m ≡ pos p.seg) × IsPlaced s c flags p
    by (Err e) based at permitted = absurd (cc at)
    by (Ok base) based at permitted =
        let q : Placed = record { seg = seg; pages = pages_in x; base = base } in
        let few = ok-if (nat_lt s.limits.most_pieces (length (pieces_beside c q) + 1)) (pieces_errno s.limits.rules) (Ok q) p at in
        let found = found-own s.table m i x looked in
        let own : identifier i (destroyed_at s.table i) ≡ m = found.1 in
        subst (λ r. (pos m ≡ pos r.seg) × IsPlaced s c flags r) (cc few.1) (
          ap pos (sym own),
          record {
            segment = x;
            stands = rw own (looked ∙ ap (λ k. Found k x) found.0);
            whole = refl;
            permitted = permitted;
            lies = is-base s c x flags addr base (addr == 0) based;
            few = rw (length-inserted (piece_for flags q) (pieces_beside c q)) (few-enough s.limits.most_pieces (length (pieces_beside c q) + 1) few.0);
          },
        )

in-look : (s : Machine) (c : Caller) (id : ℤ) (addr : ℕ) (flags : AtFlags) (p : Placed) → placed_found s c flags addr (look s.table id) ≡ Ok p → (id ≡ pos p.seg) × IsPlaced s c flags p
in-look s c (pos m) addr flags p is = in-found s c m flags addr p (look s.table (pos m)) refl is
in-look s c (negsuc m) addr flags p is = absurd (cc is)

-- the segment exists, and the caller may attach it there
pub is-placed : (s : Machine) (c : Caller) (id : ℤ) (addr : ℕ) (flags : AtFlags) (p : Placed) → placed s c id addr flags ≡ Ok p → (id ≡ pos p.seg) × IsPlaced s c flags p
is-placed s c id addr flags p is = in-look s c id addr flags p (ok-if (is_misplaced s addr flags) Einval (placed_found s c flags addr (look s.table id)) p is).1
