-- A part of an attach gets another protection: where it begins and ends, and why it may be placed there.
use Rattle.shm_attach.proofs.Names.{most_at, ◌≡◌, ◌≢◌, ◌==◌, ◌^◌, eq-eqb, ne_eqb, nat_le, ℕ, ◌+◌, ◌-◌, ◌*◌, ◌/◌, ◌%◌, ◌<◌, ◌≤◌, zero, suc, Bool, true, false, not, ◌&&◌, nat_lt, lt-ltb, le-ltb, lt-leb, le-leb, List, [], ◌∷◌, length, Some, cases_Bool, inl, inr, refl, ap, ◌∙◌, arith, common_steps, All, All-nil, All-cons, All-head, All-tail, length-map, get, is_live, end_of, covering, cut, inserted, lowest_address, bare, bare_all, IsFit, Arranged, Tables, runner_view, runners_view, with_pieces_at, pieces_at, life_at, size_in, HasTable, OneTableEach, AreTablesSound, no_reservations, Piece, Runner, MOST_PIECES, MOST_SHMALL, pages_of, has_protection, low_end, high_end, part_between, turned, Protected, stopped, ended, with_split, protects_piece, protects_from, protects_pieces, rounded, Enomem, IsStretch, CanReplace, AreNow, noted, split_in, All-weaker, all_kind, whole_fit}
use Rattle.shm_base.specs.State as flat
use Rattle.shm_attach.proofs.Processes.{length-inserted}
use Rattle.shm_attach.proofs.Turned.{kept-many, AreSized, IsHigh, IsLow, high_is, laid-aligned, low_is, turned-cut}
use Rattle.shm_attach.proofs.Keeping.{life_at-changed, pieces_at-changed, with_pieces_at-same, with_pieces_at-twice}

-- THE PIECES THAT A PROCESS HAS NOW

-- it has the pieces that it had
pub now-same : (es : List (ℕ × Runner)) (t : Tables) (i : ℕ) → i < length es → AreTablesSound no_reservations es t → AreNow es es t t i (pieces_at (runners_view es) i)
now-same es t i lt sound =
    let rs = runners_view es in
    record {
      runners = with_pieces_at-same rs i (λ (_ : List flat.Piece). pieces_at rs i) (omega (arith, lt, length-map es runner_view)) refl;
      count = refl;
      most = λ j. refl;
      sound = sound;
      translated = λ at all. all;
    }

-- it has these pieces
pub pieces-now : (es fs : List (ℕ × Runner)) (t u : Tables) (i : ℕ) (ps : List flat.Piece) → i < length es → AreNow es fs t u i ps → pieces_at (runners_view fs) i ≡ ps
pieces-now es fs t u i ps lt now =
    ap (λ rs. pieces_at rs i) now.runners ∙ pieces_at-changed (runners_view es) i (λ (_ : List flat.Piece). ps) (omega (arith, lt, length-map es runner_view))

-- WHERE A PART BEGINS AND ENDS

-- pieces of one segment have one table
pub sized_by : (t : Tables) (p : Piece) (ps : List Piece) → OneTableEach t → HasTable t.slab p → All (HasTable t.slab) ps → AreSized p.seg (size_in (get t.slab p.key)) (bare_all ps)
sized_by t p [] tied own all = All-nil (λ (q : flat.Piece). q.seg ≡ p.seg → q.first_page + q.pages ≤ size_in (get t.slab p.key))
sized_by t p (q ∷ qs) tied own all =
    All-cons (λ (q : flat.Piece). q.seg ≡ p.seg → q.first_page + q.pages ≤ size_in (get t.slab p.key)) (bare q) (bare_all qs)
    (λ same. sized_one t p q tied own (All-head (HasTable t.slab) q qs all) same)
    (sized_by t p qs tied own (All-tail (HasTable t.slab) q qs all))
  where
    sized_one : (t : Tables) (p q : Piece) → OneTableEach t → HasTable t.slab p → HasTable t.slab q → q.seg ≡ p.seg → q.first_page + q.pages ≤ size_in (get t.slab p.key)
    sized_one t p q tied own other same =
        let mine = tied.named p.seg p.key own.seg in
        let its = tied.named q.seg q.key other.seg in
        grind (arith, common_steps)

pub stretch_of : (p : flat.Piece) (size at low high : ℕ) → IsLow p at low → IsHigh p size at high → IsStretch p low high
stretch_of p size at low high l h = grind (arith, common_steps)

-- the part that a step protects lies between these, and replaces what is there. There are no fewer pieces then
pub record IsTurn (w : Bool) (at to : ℕ) (p : flat.Piece) (ps : List flat.Piece) (size : ℕ) : Type 0 where
  pub low : IsLow p at (low_end w at to p ps)
  pub high : IsHigh p size at (high_end w at to p ps)
  pub replaced : turned w at to p ps ≡ inserted (part_between w (low_end w at to p ps) (high_end w at to p ps) p) (cut (low_end w at to p ps) (high_end w at to p ps) ps)
  pub longer : length (turned w at to p ps) ≡ length (cut (low_end w at to p ps) (high_end w at to p ps) ps) + 1
  pub more : length ps ≤ length (turned w at to p ps)

pub turn_is : (w : Bool) (at to : ℕ) (p : flat.Piece) (ps : List flat.Piece) (size : ℕ) → Arranged lowest_address ps → covering at ps ≡ Some p → at % 4096 ≡ 0 → to % 4096 ≡ 0 → at < to
    → AreSized p.seg size ps → IsTurn w at to p ps size
turn_is w at to p ps size ar found page to-page order sized =
    let laid = whole_fit lowest_address ps ar in
    let aligned = laid-aligned lowest_address ps laid in
    let few = All-weaker IsFit (λ (q : flat.Piece). q.first_page + q.pages ≤ MOST_SHMALL) (λ q fit. fit.few) ps (all_kind IsFit lowest_address ps ar) in
    let replaced = turned-cut w at to p ps aligned found page to-page order laid in
    let longer : length (turned w at to p ps) ≡ length (cut (low_end w at to p ps) (high_end w at to p ps) ps) + 1 =
    ap length replaced ∙ length-inserted (part_between w (low_end w at to p ps) (high_end w at to p ps) p) (cut (low_end w at to p ps) (high_end w at to p ps) ps) in
    record {
      low = low_is w at to p ps aligned found page to-page order laid;
      high = high_is w at to p ps aligned found page to-page order laid size few sized;
      replaced = replaced;
      longer = longer;
      more = omega (arith, kept-many w at to p ps aligned found page to-page order laid, longer);
    }

-- THE PART CAN BE PLACED THERE

pub part_replaces : (es : List (ℕ × Runner)) (t : Tables) (i : ℕ) (p q : Piece) (w : Bool) (at low high : ℕ) → i < length es → is_live (life_at (runners_view es) i) ≡ true
    → most_at es i ≤ MOST_PIECES → HasTable t.slab p → IsLow (bare p) at low → IsHigh (bare p) (size_in (get t.slab p.key)) at high
    → bare q ≡ part_between w low high (bare p) → q.key ≡ p.key → length (cut low high (pieces_at (runners_view es) i)) < most_at es i → CanReplace es t i q
part_replaces es t i p q w at low high there live most own l h shown key room = grind (arith, common_steps)

pub part_ends : (p : flat.Piece) (size at low high : ℕ) (w : Bool) → IsLow p at low → IsHigh p size at high → end_of (part_between w low high p) ≡ high
part_ends p size at low high w l h = grind (arith, common_steps)

-- A PIECE WITH ANOTHER PROTECTION

-- the piece of an address can get a protection that it does not have
pub record IsTurnable (w : Bool) (at : ℕ) (p : flat.Piece) (ps : List flat.Piece) : Type 0 where
  pub found : covering at ps ≡ Some p
  pub may : w ≡ true → p.may_write ≡ true
  pub lacks : has_protection w p ≡ false

may-test : (w : Bool) (p : flat.Piece) → (w ≡ true → p.may_write ≡ true) → (w && not p.may_write) ≡ false
may-test true p may = rw (may refl) refl
may-test false p may = refl

-- it is refused if there would be too many pieces
pub protects-refused : (most : ℕ) (w : Bool) (at to : ℕ) (p : flat.Piece) (ps : List flat.Piece) (next : ℕ → List flat.Piece → Protected) → IsTurnable w at p ps
    → most < length (turned w at to p ps) → protects_piece most w at to ps next (covering at ps) ≡ stopped ps Enomem
protects-refused most w at to p ps next t many =
    let over : nat_lt most (length (turned w at to p ps)) ≡ true = lt-ltb most (length (turned w at to p ps)) many in
    rw (t.found, t.lacks, over, may-test w p t.may) refl

-- the segment of a split piece comes before those after it
split-noted : (id : ℕ) (before after : List flat.Piece) (x : Protected) → with_split id before after x ≡ noted (split_in id (length before) (length after)) x
split-noted id before after x = elim (cases_Bool (nat_lt (length before) (length after))) [ inl h ↦ rw h refl | inr h ↦ rw h refl ]

pub protects-turned : (most : ℕ) (w : Bool) (at to : ℕ) (p : flat.Piece) (ps : List flat.Piece) (next : ℕ → List flat.Piece → Protected) → IsTurnable w at p ps
    → length (turned w at to p ps) ≤ most → protects_piece most w at to ps next (covering at ps) ≡ noted (split_in p.seg (length ps) (length (turned w at to p ps))) (next (end_of p) (turned w at to p ps))
protects-turned most w at to p ps next t room =
    let fits : nat_lt most (length (turned w at to p ps)) ≡ false = le-ltb most (length (turned w at to p ps)) room in
    rw (t.found, t.lacks, fits, may-test w p t.may) (split-noted p.seg ps (turned w at to p ps) (next (end_of p) (turned w at to p ps)))

-- the pieces after the part is in
pub replaced_by : (p q : flat.Piece) (w : Bool) (size at low high : ℕ) (ps : List flat.Piece) → q ≡ part_between w low high p → IsLow p at low → IsHigh p size at high
    → inserted q (cut q.base (end_of q) ps) ≡ inserted (part_between w low high p) (cut low high ps)
replaced_by p q w size at low high ps is l h =
    let ends : end_of q ≡ high = ap end_of is ∙ part_ends p size at low high w l h in
    let begins : q.base ≡ low = ap (λ (x : flat.Piece). x.base) is in
    rw (ends, begins, is) refl

-- PIECE BY PIECE

-- one change after another
pub now-then : (es fs gs : List (ℕ × Runner)) (t u v : Tables) (i : ℕ) (ps qs : List flat.Piece) → i < length es → AreNow es fs t u i ps → AreNow fs gs u v i qs → AreNow es gs t v i qs
now-then es fs gs t u v i ps qs lt first then =
    record {
      runners =
          then.runners
          ∙ ap (λ rs. with_pieces_at rs i (λ (_ : List flat.Piece). qs)) first.runners
          ∙ with_pieces_at-twice (runners_view es) i (λ (_ : List flat.Piece). ps) (λ (_ : List flat.Piece). qs) (omega (arith, lt, length-map es runner_view));
      count = then.count ∙ first.count;
      most = λ j. then.most j ∙ first.most j;
      sound = then.sound;
      translated = λ at all. then.translated at (first.translated at all);
    }

pub lives-now : (es fs : List (ℕ × Runner)) (t u : Tables) (i : ℕ) (ps : List flat.Piece) → i < length es → AreNow es fs t u i ps → is_live (life_at (runners_view es) i) ≡ true → is_live (life_at (runners_view fs) i) ≡ true
lives-now es fs t u i ps lt now live =
    let same = life_at-changed (runners_view es) i (λ (_ : List flat.Piece). ps) (omega (arith, lt, length-map es runner_view)) in
    ap (λ rs. is_live (life_at rs i)) now.runners ∙ ap is_live same ∙ live

-- while pages are left, the piece of the first one is next
pub protects-next : (left most : ℕ) (w : Bool) (to at : ℕ) (ps : List flat.Piece) → at < to → to ≤ at + 4096 * left
    → protects_from left most w to at ps ≡ protects_piece most w at to ps (protects_from (left - 1) most w to) (covering at ps)
protects-next zero most w to at ps lt enough = absurd (omega (arith, lt, enough))
protects-next (suc left) most w to at ps lt enough = let less : suc left - 1 ≡ left = omega arith in rw (lt-leb to at lt, less) refl

-- no page is left
pub protects-done : (left most : ℕ) (w : Bool) (to at : ℕ) (ps : List flat.Piece) → to ≤ at → protects_from left most w to at ps ≡ ended ps
protects-done zero most w to at ps le = refl
protects-done (suc left) most w to at ps le = rw (le-leb to at le) refl

-- all pages of a range of bytes
pub protected-whole : (most : ℕ) (w : Bool) (addr len to : ℕ) (ps : List flat.Piece) → addr % 4096 ≡ 0 → len ≢ 0 → to ≡ addr + rounded len → addr + rounded len < 2 ^ 64
    → protects_from ((to - addr) / 4096) most w to addr ps ≡ protects_pieces most w addr len ps
protected-whole most w addr len to ps page some ends fits =
    let count : (to - addr) / 4096 ≡ pages_of len = omega (arith, ends) in
    let first : (addr % 4096 == 0) ≡ true = eq-eqb (addr % 4096) 0 page in
    let bytes : (len == 0) ≡ false = ne_eqb len 0 some in
    let below : nat_le (2 ^ 64) (addr + rounded len) ≡ false = lt-leb (2 ^ 64) (addr + rounded len) fits in
    rw (first, bytes, below, count, ends) refl
