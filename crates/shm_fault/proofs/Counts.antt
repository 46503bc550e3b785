-- Frames and slots that are owned, counted by the pages that own them.
use Rattle.shm_fault.proofs.Names.{◌≡◌, ◌≢◌, ℕ, zero, suc, ◌<◌, ◌≤◌, ◌+◌, ◌-◌, ◌*◌, Bool, cond, eqb, leb, List, [], ◌∷◌, length, get_or, sum_by, Option, Some, None, is_some, refl, sym, ap, ◌∙◌, inl, inr, arith, count_by, cases_eq, cases_lt, eq-eqb, ne_eqb, lt-leb, sum_by-cons, PageRef, PageRec, SegRec, rec_at, AreApart, rec_by, HasPage, locked_by, page_count, locked_pages, nat_tests, common_steps}
use Rattle.shm_fault.proofs.Pages.{has-head, rec-head, not-head, has-tail, rec-tail, other, other-self, other-true}

-- the sum over all pages of what each weighs, by its name and its place
pub weigh_from : (PageRef → PageRec → ℕ) → ℕ → ℕ → List PageRec → ℕ
weigh_from h id i [] = 0
weigh_from h id i (p ∷ ps) = h (record { seg = id; page = i }) p + weigh_from h id (suc i) ps

pub weigh : (PageRef → PageRec → ℕ) → List SegRec → ℕ
weigh h [] = 0
weigh h (g ∷ gs) = weigh_from h g.id 0 g.pages + weigh h gs

module _ (h k : PageRef → PageRec → ℕ) where
  -- where every page weighs no more
  from-le : (id i : ℕ) (ps : List PageRec) → ((j : ℕ) → j < length ps → h (record { seg = id; page = i + j }) (rec_at ps j) ≤ k (record { seg = id; page = i + j }) (rec_at ps j)) → weigh_from h id i ps ≤ weigh_from k id i ps
  unfolding weigh_from
  from-le id i [] le = omega arith
  from-le id i (p ∷ ps) le =
      let rest = from-le id (suc i) ps (λ j l. let s : i + suc j ≡ suc i + j = omega arith in rw s at (le (suc j) (omega arith))) in
      grind (arith, le 0 (omega arith), rest)

  pub weigh-le : (gs : List SegRec) → AreApart gs → ((r : PageRef) → HasPage gs r → h r (rec_by gs r) ≤ k r (rec_by gs r)) → weigh h gs ≤ weigh k gs
  unfolding weigh
  weigh-le [] apart le = omega arith
  weigh-le (g ∷ gs) apart le =
      let here : weigh_from h g.id 0 g.pages ≤ weigh_from k g.id 0 g.pages = from-le g.id 0 g.pages (λ j l.
      let z : 0 + j ≡ j = omega arith in
      rw z (rw (rec-head g gs j) at (le (record { seg = g.id; page = j }) (has-head g gs j l)))) in
      let rest : weigh h gs ≤ weigh k gs = weigh-le gs apart.1 (λ r has. rw (rec-tail g gs apart r has) at (le r (has-tail g gs apart r has))) in
      omega (arith, here, rest)

  from-sum : (id i : ℕ) (ps : List PageRec) → weigh_from (λ r p. h r p + k r p) id i ps ≡ weigh_from h id i ps + weigh_from k id i ps
  unfolding weigh_from
  from-sum id i [] = refl
  from-sum id i (p ∷ ps) = let rest = from-sum id (suc i) ps in omega (arith, rest)

  pub weigh-sum : (gs : List SegRec) → weigh (λ r p. h r p + k r p) gs ≡ weigh h gs + weigh k gs
  unfolding weigh
  weigh-sum [] = refl
  weigh-sum (g ∷ gs) = let here = from-sum g.id 0 g.pages in let rest = weigh-sum gs in omega (arith, here, rest)

-- where every page weighs as much
module _ (h k : PageRef → PageRec → ℕ) where
  from-ext : (id i : ℕ) (ps : List PageRec) → ((j : ℕ) → j < length ps → h (record { seg = id; page = i + j }) (rec_at ps j) ≡ k (record { seg = id; page = i + j }) (rec_at ps j)) → weigh_from h id i ps ≡ weigh_from k id i ps
  from-ext id i ps same = grind (arith, nat_tests, common_steps, from-le)

  pub weigh-ext : (gs : List SegRec) → AreApart gs → ((r : PageRef) → HasPage gs r → h r (rec_by gs r) ≡ k r (rec_by gs r)) → weigh h gs ≡ weigh k gs
  weigh-ext gs apart same = grind (arith, nat_tests, common_steps, weigh-le)

-- or each as much as any other
from-const : (n id i : ℕ) (ps : List PageRec) → weigh_from (λ r p. n) id i ps ≡ n * length ps
unfolding weigh_from
from-const n id i [] = omega arith
from-const n id i (p ∷ ps) = let rest = from-const n id (suc i) ps in grind (arith, rest)

pub weigh-all : (gs : List SegRec) → weigh (λ r p. 1) gs ≡ sum_by page_count gs
unfolding weigh
weigh-all [] = refl
weigh-all (g ∷ gs) = omega (arith, from-const 1 g.id 0 g.pages, weigh-all gs, sum_by-cons page_count g gs)

abbrev pub nothing : PageRef → PageRec → ℕ
nothing r p = 0

weigh-nothing : (gs : List SegRec) → weigh nothing gs ≡ 0
unfolding weigh
weigh-nothing [] = refl
weigh-nothing (g ∷ gs) = omega (arith, from-const 0 g.id 0 g.pages, weigh-nothing gs)

-- where every page weighs nothing
pub weigh-zero : (h : PageRef → PageRec → ℕ) (gs : List SegRec) → AreApart gs → ((r : PageRef) → HasPage gs r → h r (rec_by gs r) ≡ 0) → weigh h gs ≡ 0
weigh-zero h gs apart void = weigh-ext h nothing gs apart void ∙ weigh-nothing gs

-- only one page counts
module _ (h : PageRef → PageRec → ℕ) (r : PageRef) where
  from-one : (i j : ℕ) (ps : List PageRec) → i + j ≡ r.page → j < length ps → ((m : ℕ) → m < length ps → m ≢ j → h (record { seg = r.seg; page = i + m }) (rec_at ps m) ≡ 0) → weigh_from h r.seg i ps ≡ h r (rec_at ps j)
  unfolding weigh_from
  from-one i j [] e lt void = absurd (omega arith)
  from-one i zero (p ∷ ps) e lt void =
      let at : i ≡ r.page = omega arith in
      let rest : weigh_from h r.seg (suc i) ps ≡ 0 = omega (arith, from-const 0 r.seg (suc i) ps, from-ext h nothing r.seg (suc i) ps (λ m l. let s : i + suc m ≡ suc i + m = omega arith in rw s at (void (suc m) (omega arith) (omega arith)))) in
      let here : h (record { seg = r.seg; page = i }) p ≡ h r p = ap (λ n. h (record { seg = r.seg; page = n }) p) at in
      omega (arith, here, rest)
  from-one i (suc j) (p ∷ ps) e lt void =
      let z : i + 0 ≡ i = omega arith in
      let here : h (record { seg = r.seg; page = i }) p ≡ 0 = rw z at (void 0 (omega arith) (omega arith)) in
      let rest = from-one (suc i) j ps (omega arith) (omega arith) (λ m l n. let s : i + suc m ≡ suc i + m = omega arith in rw s at (void (suc m) (omega arith) (omega arith))) in
      omega (arith, here, rest)

  pub weigh-one : (gs : List SegRec) → AreApart gs → HasPage gs r → ((q : PageRef) → HasPage gs q → q ≢ r → h q (rec_by gs q) ≡ 0) → weigh h gs ≡ h r (rec_by gs r)
  unfolding weigh
  weigh-one [] apart has void = absurd (omega arith)
  weigh-one (g ∷ gs) apart has void = elim (cases_eq g.id r.seg) [
    | inl e ↦
        let lt : r.page < length g.pages = rw (eq-eqb g.id r.seg e) at has in
        let z : (n : ℕ) → 0 + n ≡ n = λ n. omega arith in
        let here : weigh_from h g.id 0 g.pages ≡ h r (rec_at g.pages r.page) = rw e (from-one 0 r.page g.pages (omega arith) lt (λ m l n.
        let off = void (record { seg = r.seg; page = m }) (rw (eq-eqb g.id r.seg e) l) (λ same. n (ap (λ (x : PageRef). x.page) same)) in
        rw z (rw (eq-eqb g.id r.seg e) at off))) in
        let rest : weigh h gs ≡ 0 = weigh-zero h gs apart.1 (λ q there.
        let ne : q ≢ r = λ same. not-head g gs apart q there (e ∙ sym (ap (λ (x : PageRef). x.seg) same)) in
        rw (rec-tail g gs apart q there) at (void q (has-tail g gs apart q there) ne)) in
        rw (eq-eqb g.id r.seg e) (omega (arith, here, rest))
    | inr n ↦
        let here : weigh_from h g.id 0 g.pages ≡ 0 = omega (
          arith,
          from-const 0 g.id 0 g.pages,
          from-ext h nothing g.id 0 g.pages (λ m l.
              let z : 0 + m ≡ m = omega arith in
              let off = void (record { seg = g.id; page = m }) (has-head g gs m l) (λ same. n (ap (λ (x : PageRef). x.seg) same)) in
              rw z (rw (rec-head g gs m) at off)),
        ) in
        let rest = weigh-one gs apart.1 (rw (ne_eqb g.id r.seg n) at has) (λ q there m. rw (rec-tail g gs apart q there) at (void q (has-tail g gs apart q there) m)) in
        rw (ne_eqb g.id r.seg n) (omega (arith, here, rest))
  ]

-- one where the number is there and not below k
abbrev pub at_least : ℕ → Option ℕ → ℕ
at_least k None = 0
at_least k (Some j) = cond (leb k j) 1 0

abbrev exactly : ℕ → Option ℕ → ℕ
exactly k None = 0
exactly k (Some j) = cond (eqb j k) 1 0

split : (k : ℕ) (o : Option ℕ) → at_least k o ≡ exactly k o + at_least (suc k) o
split k None = refl
split k (Some j) = grind (arith, nat_tests)

-- what pages name by number, counted: each number names its page, and each page its number
module _ (gs : List SegRec) (apart : AreApart gs) (number : PageRef → PageRec → Option ℕ) where
  pub counted_by_page : (owners : List (Option PageRef)) (k : ℕ)
      → ((r : PageRef) (i : ℕ) → HasPage gs r → number r (rec_by gs r) ≡ Some (k + i) → get_or owners i None ≡ Some r)
      → ((i : ℕ) (r : PageRef) → get_or owners i None ≡ Some r → HasPage gs r × (number r (rec_by gs r) ≡ Some (k + i)))
      → weigh (λ r p. at_least k (number r p)) gs ≡ count_by is_some owners
  counted_by_page [] k there back = weigh-zero (λ r p. at_least k (number r p)) gs apart (λ r has. by r has (number r (rec_by gs r)) refl)
    where
      by : (r : PageRef) → HasPage gs r → (o : Option ℕ) → number r (rec_by gs r) ≡ o → at_least k o ≡ 0
      by r has None e = refl
      by r has (Some j) e = elim (cases_lt j k) [
        | inl l ↦ rw (lt-leb k j l) refl
        | inr g ↦ absurd (let s : k + (j - k) ≡ j = omega arith in let h : None ≡ Some r = there r (j - k) has (rw s e) in cc)
      ]
  counted_by_page (o ∷ owners) k there back =
      weigh-ext (λ r p. at_least k (number r p)) (λ r p. exactly k (number r p) + at_least (suc k) (number r p)) gs apart (λ r has. split k (number r (rec_by gs r)))
      ∙ weigh-sum (λ r p. exactly k (number r p)) (λ r p. at_least (suc k) (number r p)) gs
      ∙ (let rest = counted_by_page owners (suc k) (λ r i has e. there r (suc i) has (let s : suc k + i ≡ k + suc i = omega arith in rw (← s) e)) (λ i r e. let b = back (suc i) r e in let s : suc k + i ≡ k + suc i = omega arith in (b.0, rw s b.1)) in
      let here : weigh (λ r p. exactly k (number r p)) gs ≡ cond (is_some o) 1 0 = first o refl in
      omega (arith, here, rest, sum_by-cons (λ (x : Option PageRef). cond (is_some x) 1 0) o owners))
    where
      z : k + 0 ≡ k
      z = omega arith

      not_first : (x : Option PageRef) → o ≡ x → (r : PageRef) → HasPage gs r → x ≢ Some r → (n : Option ℕ) → number r (rec_by gs r) ≡ n → exactly k n ≡ 0
      not_first x is r has ne None e = refl
      not_first x is r has ne (Some j) e = elim (cases_eq j k) [
        | inl same ↦ absurd (ne (let h : o ≡ Some r = there r 0 has (rw (z, ← same) e) in cc))
        | inr n ↦ rw (ne_eqb j k n) refl
      ]

      first : (x : Option PageRef) → o ≡ x → weigh (λ r p. exactly k (number r p)) gs ≡ cond (is_some x) 1 0
      first None is = weigh-zero (λ r p. exactly k (number r p)) gs apart (λ r has. not_first None is r has (λ e. cc) (number r (rec_by gs r)) refl)
      first (Some q) is =
          let b = back 0 q is in
          let e : number q (rec_by gs q) ≡ Some k = rw z at b.1 in
          weigh-one (λ r p. exactly k (number r p)) q gs apart b.0 (λ r has ne. not_first (Some q) is r has (λ h. ne (let s : q ≡ r = cc in sym s)) (number r (rec_by gs r)) refl)
          ∙ ap (exactly k) e ∙ ap (λ t. cond t 1 0) (eq-eqb k k refl)

-- all pages weigh no less than one of them
pub weigh-ge : (h : PageRef → PageRec → ℕ) (r : PageRef) (gs : List SegRec) → AreApart gs → HasPage gs r → h r (rec_by gs r) ≤ weigh h gs
weigh-ge h r gs apart has =
    let one : weigh (λ q p. cond (other r q) 0 (h q p)) gs ≡ h r (rec_by gs r) =
    weigh-one (λ q p. cond (other r q) 0 (h q p)) r gs apart has (λ q there n. rw (other-true r q n) refl) ∙ rw (other-self r) refl in
    let le = weigh-le (λ q p. cond (other r q) 0 (h q p)) h gs apart (λ q there. grind (arith, nat_tests)) in
    omega (arith, one, le)

-- a test of each page's place, counted
from-test : (test : PageRec → Bool) (id i : ℕ) (ps : List PageRec) → weigh_from (λ r p. cond (test p) 1 0) id i ps ≡ count_by test ps
unfolding weigh_from
from-test test id i [] = refl
from-test test id i (p ∷ ps) = let rest = from-test test id (suc i) ps in omega (arith, rest, sum_by-cons (λ (x : PageRec). cond (test x) 1 0) p ps)

pub weigh-test : (test : PageRec → Bool) (gs : List SegRec) → weigh (λ r p. cond (test p) 1 0) gs ≡ sum_by (λ (g : SegRec). count_by test g.pages) gs
unfolding weigh
weigh-test test [] = refl
weigh-test test (g ∷ gs) = let here = from-test test g.id 0 g.pages in let rest = weigh-test test gs in omega (arith, here, rest, sum_by-cons (λ (x : SegRec). count_by test x.pages) g gs)

-- one for each page of a locked segment
pub weigh-locked : (gs : List SegRec) → AreApart gs → weigh (λ r p. cond (locked_by gs r.seg) 1 0) gs ≡ sum_by locked_pages gs
unfolding weigh
weigh-locked [] apart = refl
weigh-locked (g ∷ gs) apart =
    let here : weigh_from (λ r p. cond (locked_by (g ∷ gs) r.seg) 1 0) g.id 0 g.pages ≡ locked_pages g =
    from-ext (λ r p. cond (locked_by (g ∷ gs) r.seg) 1 0) (λ r p. cond g.locked 1 0) g.id 0 g.pages (λ j l. rw (eq-eqb g.id g.id refl) refl)
    ∙ from-const (cond g.locked 1 0) g.id 0 g.pages ∙ grind (arith, nat_tests) in
    let rest : weigh (λ r p. cond (locked_by (g ∷ gs) r.seg) 1 0) gs ≡ sum_by locked_pages gs =
    weigh-ext (λ r p. cond (locked_by (g ∷ gs) r.seg) 1 0) (λ r p. cond (locked_by gs r.seg) 1 0) gs apart.1 (λ r has. rw (ne_eqb g.id r.seg (not-head g gs apart r has)) refl)
    ∙ weigh-locked gs apart.1 in
    omega (arith, here, rest, sum_by-cons locked_pages g gs)
