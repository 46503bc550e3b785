-- A flush, frame after frame.
use Rattle.shm_fault.proofs.Names.{◌≡◌, ◌≢◌, ℕ, zero, suc, ◌<◌, ◌≤◌, ◌+◌, Bool, true, false, not, cond, List, [], ◌∷◌, ◌++◌, length, set, take, filter, Some, refl, sym, ap, ◌∙◌, arith, append-nil, length-append, get_or-set_same, get_or-set_other, count_by, Contains, All, range_with_len, length-take, take_all, take-append-le, filter-append, Contains-push, Contains-append_left, All-head, All-tail, All-push, All-weaker, sum_by-cons, sum_by_push, PageRef, total, some_spent, Frame, no_frame, frame_at, locked_by, StoreView, IsStoreSound, Goes, Still, raised, may_flush, dirty_after, IsFlushed, nat_tests, common_steps, places, after_page_out, after_flush, unspent-before}
use Rattle.shm_fault.proofs.Sound.{Goes-trans}
use Rattle.shm_fault.proofs.Visits.{holds_locked-held}
use Rattle.shm_fault.proofs.Places.{flush-none, flush-push, flush-same}

-- those of the frames below i that may be flushed
abbrev pub due : StoreView → ℕ → List ℕ
due s i = filter (may_flush s) (range_with_len 0 i)

-- the frames below i were tested, and the first n that may be flushed were written
pub record Flushed (n : ℕ) (s : StoreView) (i : ℕ) (t : StoreView) (written failed : ℕ) : Type 0 where
  pub sound : IsStoreSound t
  pub goes : Goes s t
  pub still : Still s t
  pub sum : written + failed ≡ length (take n (due s i))
  pub failures : count_by (dirty_after t) (take n (due s i)) ≡ failed
  pub below : All (λ x. x < i) (take n (due s i))
  pub ahead : (f : ℕ) → i ≤ f → frame_at t.frames f ≡ frame_at s.frames f
  pub frames : (f : ℕ) → frame_at t.frames f ≡ record (frame_at s.frames f) { dirty = (frame_at t.frames f).dirty }
  pub others : (f : ℕ) → (Contains (take n (due s i)) f → ⊥) → frame_at t.frames f ≡ frame_at s.frames f
  pub counted : some_spent t.swap ≡ false → total t.swap ≡ total s.swap + failed
  pub written_out : t.outs ≡ raised s.outs written
  pub read_in : t.ins ≡ s.ins
  pub hand : t.hand ≡ s.hand
  pub placed : places t ≡ after_flush (dirty_after t) (take n (due s i)) (places s)

below-more : (i : ℕ) (xs : List ℕ) → All (λ x. x < i) xs → All (λ x. x < i + 1) xs
below-more i xs all = All-weaker (λ x. x < i) (λ x. x < i + 1) (λ x l. omega arith) xs all

count-below : (p q : ℕ → Bool) (i : ℕ) (xs : List ℕ) → All (λ x. x < i) xs → ((x : ℕ) → x < i → p x ≡ q x) → count_by p xs ≡ count_by q xs
count-below p q i [] all same = refl
count-below p q i (x ∷ xs) all same = grind (arith, nat_tests, common_steps, count-below p q i xs (All-tail (λ y. y < i) x xs all) same, All-head (λ y. y < i) x xs all, sum_by-cons)

take-more : (n : ℕ) (xs : List ℕ) (x : ℕ) → length (take n xs) < n → take n (xs ++ x ∷ []) ≡ take n xs ++ x ∷ []
take-more n xs x lt = grind (arith, common_steps, take_all, length-take n xs)

take-full : (n : ℕ) (xs ys : List ℕ) → n ≤ length (take n xs) → take n (xs ++ ys) ≡ take n xs
take-full n xs ys le = take-append-le n xs ys (omega (arith, length-take n xs))

range-more : (a n : ℕ) → range_with_len a (suc n) ≡ range_with_len a n ++ (a + n) ∷ []
range-more a zero = let e : a + 0 ≡ a = omega arith in rw e refl
range-more a (suc n) = let e : a + 1 + n ≡ a + suc n = omega arith in ap (λ l. a ∷ l) (rw e at (range-more (a + 1) n))

due-more : (s : StoreView) (i : ℕ) → due s (i + 1) ≡ due s i ++ filter (may_flush s) (i ∷ [])
due-more s i = grind (arith, range-more 0 i, filter-append)

due-yes : (s : StoreView) (i : ℕ) → may_flush s i ≡ true → due s (i + 1) ≡ due s i ++ i ∷ []
due-yes s i e = due-more s i ∙ rw e refl

due-no : (s : StoreView) (i : ℕ) → may_flush s i ≡ false → due s (i + 1) ≡ due s i
due-no s i e = due-more s i ∙ rw e (append-nil (due s i))

pub flushed-none : (n : ℕ) (s : StoreView) → IsStoreSound s → Flushed n s 0 s 0 0
flushed-none n s sound = grind (arith, nat_tests, common_steps, take, due, flush-none (dirty_after s) (places s))

-- the frame may be flushed as it might at first
pub may-same : (n : ℕ) (s : StoreView) (i : ℕ) (t : StoreView) (written failed : ℕ) → Flushed n s i t written failed → may_flush t i ≡ may_flush s i
may-same n s i t written failed d = grind (arith, nat_tests, d.ahead i (omega arith), d.goes.bytes)

module _ (n : ℕ) (s : StoreView) (i : ℕ) (t : StoreView) (written failed : ℕ) (d : Flushed n s i t written failed) where
  skipped : take n (due s (i + 1)) ≡ take n (due s i) → Flushed n s (i + 1) t written failed
  skipped same = record {
    sound = d.sound;
    goes = d.goes;
    still = d.still;
    sum = rw same d.sum;
    failures = rw same d.failures;
    below = rw same (below-more i (take n (due s i)) d.below);
    ahead = λ f le. d.ahead f (omega arith);
    frames = d.frames;
    others = λ f out. d.others f (rw same at out);
    counted = d.counted;
    written_out = d.written_out;
    read_in = d.read_in;
    hand = d.hand;
    placed = rw same d.placed;
  }

  -- enough frames were written
  pub flushed-enough : n ≤ written + failed → Flushed n s (i + 1) t written failed
  flushed-enough le = skipped (ap (take n) (due-more s i) ∙ take-full n (due s i) (filter (may_flush s) (i ∷ [])) (omega (arith, le, d.sum)))

  -- the frame stays as it is
  pub flushed-not : may_flush t i ≡ false → Flushed n s (i + 1) t written failed
  flushed-not e = skipped (ap (take n) (due-no s i (sym (may-same n s i t written failed d) ∙ e)))

  -- the frame was written, or the try failed
  pub flushed-more : (u : StoreView) (wrote fails : ℕ) → written + failed < n → may_flush t i ≡ true → i < length t.frames
      → u.frames ≡ set t.frames i (record (frame_at t.frames i) { dirty = dirty_after u i }) → Goes t u → Still t u → IsStoreSound u
      → wrote + fails ≡ written + failed + 1 → fails ≡ failed + cond (dirty_after u i) 1 0
      → (some_spent u.swap ≡ false → total u.swap ≡ total t.swap + cond (dirty_after u i) 1 0)
      → ((m : ℕ) → t.outs ≡ raised m written → u.outs ≡ raised m wrote) → u ≡ record t { segs = u.segs; frames = u.frames; swap = u.swap; outs = u.outs }
      → places u ≡ after_page_out i (not (dirty_after u i)) (places t) → Flushed n s (i + 1) u wrote fails
  flushed-more u wrote fails lt may there frames goes still sound sum more counted written_out rest placed =
      let l = take n (due s i) in
      let is : take n (due s (i + 1)) ≡ l ++ i ∷ [] =
      ap (take n) (due-yes s i (sym (may-same n s i t written failed d) ∙ may)) ∙ take-more n (due s i) i (omega (arith, lt, d.sum)) in
      record {
        sound = sound;
        goes = Goes-trans s t u d.goes goes;
        still = λ seg page. still seg page ∙ d.still seg page;
        sum = rw is (omega (arith, sum, d.sum, length-append l (i ∷ [])));
        failures = rw is (
            let a = sum_by_push (λ y. cond (dirty_after u y) 1 0) l i in
            let b = count-below (dirty_after u) (dirty_after t) i l d.below (λ x low. ap (λ (y : Frame). y.dirty) (other x (λ e. absurd (omega (arith, e, low))))) in
            omega (arith, a, b, more, d.failures)
            );
        below = rw is (All-push (λ x. x < i + 1) l i (below-more i l d.below) (omega arith));
        ahead = λ f le. other f (λ e. absurd (omega (arith, e, le))) ∙ d.ahead f (omega arith);
        frames = λ f. grind (arith, nat_tests, common_steps, d.ahead, d.frames);
        others = λ f out. other f (λ e. out (rw (is, e) (Contains-push l i))) ∙ d.others f (λ has. out (rw is (Contains-append_left l (i ∷ []) f has)));
        counted = λ e. let a = counted e in let b = d.counted (unspent-before t.swap u.swap sound.swap goes.goes_on goes.same_sizes e) in omega (arith, a, b, more);
        written_out = written_out s.outs d.written_out;
        read_in = ap (λ (v : StoreView). v.ins) rest ∙ d.read_in;
        hand = ap (λ (v : StoreView). v.hand) rest ∙ d.hand;
        placed =
            let same = flush-same (dirty_after u) (dirty_after t) i l d.below (λ x low. ap (λ (y : Frame). y.dirty) (other x (λ e. absurd (omega (arith, e, low))))) (places s) in
            rw (is, flush-push (dirty_after u) l i (places s), same, ← d.placed) placed;
      }
    where
      at : frame_at u.frames i ≡ record (frame_at t.frames i) { dirty = dirty_after u i }
      at = ap (λ (fs : List Frame). frame_at fs i) frames ∙ get_or-set_same t.frames i (record (frame_at t.frames i) { dirty = dirty_after u i }) no_frame there

      other : (f : ℕ) → f ≢ i → frame_at u.frames f ≡ frame_at t.frames f
      other f ne = ap (λ (fs : List Frame). frame_at fs f) frames ∙ get_or-set_other t.frames i f (record (frame_at t.frames i) { dirty = dirty_after u i }) no_frame ne

-- enough frames were written, so later ones don't count
pub flushed-full : (n : ℕ) (s : StoreView) (i k : ℕ) (t : StoreView) (written failed : ℕ) → n ≤ written + failed → Flushed n s i t written failed → Flushed n s (i + k) t written failed
flushed-full n s i zero t written failed le d = let e : i + 0 ≡ i = omega arith in rw e d
flushed-full n s i (suc k) t written failed le d =
    let e : i + suc k ≡ i + k + 1 = omega arith in
    rw e (flushed-enough n s (i + k) t written failed (flushed-full n s i k t written failed le d) le)

-- clean frames are passed
pub flushed-past : (n : ℕ) (s : StoreView) (i k : ℕ) (t : StoreView) (written failed : ℕ) → ((f : ℕ) → i ≤ f → f < i + k → (frame_at t.frames f).dirty ≡ false) → Flushed n s i t written failed → Flushed n s (i + k) t written failed
flushed-past n s i zero t written failed clean d = let e : i + 0 ≡ i = omega arith in rw e d
flushed-past n s i (suc k) t written failed clean d =
    let e : i + suc k ≡ i + k + 1 = omega arith in
    let off : may_flush t (i + k) ≡ false = rw (clean (i + k) (omega arith) (omega arith)) refl in
    rw e (flushed-not n s (i + k) t written failed (flushed-past n s i k t written failed (λ f le lt. clean f le (omega (arith, lt))) d) off)

pub flushed-all : (n : ℕ) (s : StoreView) (i : ℕ) (t : StoreView) (written failed : ℕ) → i ≡ length s.frames → Flushed n s i t written failed → IsFlushed s t n (record { written = written; failed = failed })
flushed-all n s i t written failed e d = grind (arith, nat_tests, common_steps, due, d.sum, length-take, d.failures, d.frames, d.others, d.counted, d.written_out, d.read_in, d.hand, d.placed)

pub flushable : (s : StoreView) (i : ℕ) (r : PageRef) → (frame_at s.frames i).owner ≡ Some r → (frame_at s.frames i).dirty ≡ true → not (locked_by s.segs r.seg) ≡ may_flush s i
flushable s i r owner dirty = rw (owner, dirty) (ap not (sym (holds_locked-held s r.seg)))
