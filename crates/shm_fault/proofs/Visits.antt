-- Steps of a visit to a page, one after another, and what an access of spans leaves.
use Rattle.shm_fault.proofs.Names.{IfOk, IsSeenIn, Paged, StopsAt, no_transfers, referenced, ◌≡◌, ◌≢◌, ℕ, suc, ◌<◌, true, false, not, cond, List, [], ◌∷◌, ◌++◌, length, set, Option, Some, None, refl, sym, ap, ◌∙◌, arith, length-set, get_or-set_same, get_or-set_other, and_parts, not-true, PageRef, Frame, no_frame, frame_at, may_go, owner_passes, is_pinned, PageRec, SegRec, rec_by, HasPage, with_rec, locked_by, SwapView, IsSwap, SameSlots, sizes, GoesOn, StoreView, slot_bytes, IsStoreSound, Goes, Still, StaysAway, Alike, Visits, MovesOn, unlocked, frame_by, referenced_at, is_page, Gone, Came, common_steps, nat_tests, ◌≤◌, ◌+◌, ◌&&◌, is_some, Touched, is_swapped, one_if, CountsOn, Visited, CountsFailure, counted, total, map, get_or, Result, Ok, Err, is_ok, OnErr, All, IsSome, false≢true, Span, holds_locked, held_by, page_of, ref_of, IsResident, KeepsLocked, Brings, Accessed, IsUntouched, OnOk, Held, places, visit_counted, after_visit, Acts, HasOld, Puts, written, failures-after}
use Rattle.shm_clock.proofs.Turning.{goes_on}
use Rattle.shm_fault.specs.declared.touched.PageMove.{PageMove}
use Rattle.shm_fault.specs.Steps.{moved, LockedPagesStay}
use Rattle.shm_fault.specs.declared.access.InFrames.{InFrames}
use Rattle.shm_fault.specs.Store.{frame_of, held}
use Rattle.shm_fault.proofs.Pages.{rec-with, rec-with_other, cases_ref, other_ne, other-true, has-frame, same-self, same-other, still-by, by-still}
use Rattle.shm_fault.proofs.Sound.{frame-own, Goes-trans, KeepsLocked-trans, keeps-alike, keeps-load, keeps-settle, cause-of}
use Rattle.shm_fault.proofs.Slots.{set-cases}
use Rattle.shm_fault.proofs.Counting.{counts-still}
use Rattle.shm_fault.proofs.Places.{access-none, access-one, access-two, stops-one, stops-first, stops-second, visit-known, known-counted, counted-none, counted-one, counted-two, untouched-counted}
use Rattle.shm_fault.proofs.Written.{no_span}

pub Visits-trans : (r : PageRef) (pinned : Option ℕ) (s t u : StoreView) → Visits r pinned s t → Visits r pinned t u → Visits r pinned s u
Visits-trans r pinned s t u a b = record {
  goes = Goes-trans s t u a.goes b.goes;
  kept = KeepsLocked-trans s t u a.goes.shape a.kept b.kept;
  away = λ q n e. let x = a.away q n e in b.away q n (rw x e) ∙ x;
  pin = λ p q is at. let x = a.pin p q is at in let y = b.pin p q is x.0 in (y.0, λ bit. y.1 (x.1 bit));
}

-- a frame of which the clock says that it may go
module _ (gs : List SegRec) (pinned : Option ℕ) (frames : List Frame) (f : ℕ) (page : PageRef) (may : may_go (unlocked gs) pinned frames f ≡ true) (owner : (frame_at frames f).owner ≡ Some page) where
  pub victim-unlocked : locked_by gs page.seg ≡ false
  victim-unlocked = not-true (locked_by gs page.seg) (rw owner at (and_parts (owner_passes (unlocked gs) (frame_at frames f).owner) (not (is_pinned pinned f)) may).0)

  pub victim-loose : (p : ℕ) → pinned ≡ Some p → p ≢ f
  victim-loose p is same = grind (arith, nat_tests, common_steps, not, and_parts, not-true)

module _ (s t₁ t₂ t₃ : StoreView) (f : ℕ) (page : PageRef) (pinned : Option ℕ) (x y : Frame)
    (segs₁ : t₁.segs ≡ s.segs) (still : Still t₁ t₂) (away : StaysAway t₁ t₂)
    (was : (rec_by t₂.segs page).frame ≡ Some f)
    (segs₃ : t₃.segs ≡ with_rec t₂.segs page (record (rec_by t₂.segs page) { frame = None })) where
  there : HasPage t₂.segs page
  there = has-frame t₂.segs page f was

  first : (rec_by s.segs page).frame ≡ Some f
  first = ap (λ (gs : List SegRec). (rec_by gs page).frame) (sym segs₁) ∙ sym (still-by t₁ t₂ still page) ∙ was

  pub evicted-gone : (q : PageRef) → frame_by t₃ q ≡ cond (is_page page q.seg q.page) None (frame_by s q)
  evicted-gone q = grind (arith, nat_tests, common_steps, still-by t₁ t₂ still, t₂.segs, cases_ref, same-self, same-other, rec-with, there, rec-with_other)

  other-rec : (q : PageRef) → q ≢ page → rec_by t₃.segs q ≡ rec_by t₂.segs q
  other-rec q n = ap (λ (gs : List SegRec). rec_by gs q) segs₃ ∙ (rec-with_other t₂.segs page q (record (rec_by t₂.segs page) { frame = None }) (other-true page q n))

  other-frame : (q : PageRef) → q ≢ page → (rec_by t₃.segs q).frame ≡ (rec_by s.segs q).frame
  other-frame q n = ap (λ (p : PageRec). p.frame) (other-rec q n) ∙ still-by t₁ t₂ still q ∙ ap (λ (gs : List SegRec). (rec_by gs q).frame) segs₁

  module _ (g₁ : Goes s t₁) (g₂ : Goes t₁ t₂) (g₃ : Goes t₂ t₃) (pin : (p : ℕ) → pinned ≡ Some p → frame_at t₁.frames p ≡ frame_at s.frames p)
      (frames₂ : t₂.frames ≡ set t₁.frames f x) (frames₃ : t₃.frames ≡ set t₂.frames f y)
      (may : may_go (unlocked s.segs) pinned s.frames f ≡ true) (owner : (frame_at s.frames f).owner ≡ Some page) where
    pub evicted-visits : (r : PageRef) → Visits r pinned s t₃
    evicted-visits r = record {
      goes = Goes-trans s t₁ t₃ g₁ (Goes-trans t₁ t₂ t₃ g₂ g₃);
      kept = λ q locked e. grind (arith, nat_tests, common_steps, cases_ref, victim-unlocked, s.segs, s.frames, other-frame, other_ne);
      away = λ q n e. grind (arith, nat_tests, common_steps, first, t₁.segs, other-rec);
      pin = λ p q is at. grind (arith, nat_tests, common_steps, victim-loose, s.segs, s.frames, first, t₃.frames, get_or-set_other, t₂.frames, t₁.frames, other-frame);
    }

-- a step that keeps what any visit keeps
pub record IsStep (s t : StoreView) : Type 0 where
  pub sound : IsStoreSound t
  pub visits : (r : PageRef) (pinned : Option ℕ) → Visits r pinned s t

-- no page is in a free frame
elsewhere : (s : StoreView) → IsStoreSound s → (f : ℕ) → (frame_at s.frames f).owner ≡ None → (q : PageRef) (p : ℕ) → (rec_by s.segs q).frame ≡ Some p → p ≢ f
elsewhere s sound f free q p at same = absurd (let h : (frame_at s.frames f).owner ≡ Some q = rw same at (frame-own s sound q p at).1 in cc)

-- the referenced bit of a frame that is not set
bit-other : (frames : List Frame) (f p : ℕ) (x : Frame) → p ≢ f → (frame_at frames p).referenced ≡ true → (frame_at (set frames f x) p).referenced ≡ true
bit-other frames f p x n bit = ap (λ (z : Frame). z.referenced) (get_or-set_other frames f p x no_frame n) ∙ bit

-- bytes come into a free frame
pub step-load : (s : StoreView) → IsStoreSound s → (f : ℕ) (bytes : List ℕ) → (frame_at s.frames f).owner ≡ None → (u : SwapView) (ins : ℕ) → SameSlots s.swap u → IsSwap u → sizes u ≡ sizes s.swap → GoesOn s.swap u
    → IsStep s (record s { frames = set s.frames f (record (frame_at s.frames f) { bytes = bytes }); swap = u; ins = ins })
step-load s sound f bytes free u ins kept is same goes_on =
    grind (
      arith,
      nat_tests,
      common_steps,
      keeps-load s sound f bytes free u ins kept is same goes_on,
      (keeps-load s sound f bytes free u ins kept is same goes_on).sound,
    )

-- a page comes into a free frame
pub record Settles (page : PageRef) (f : ℕ) (s t : StoreView) : Type 0 where
  pub sound : IsStoreSound t
  pub came : (q : PageRef) → frame_by t q ≡ cond (is_page page q.seg q.page) (Some f) (frame_by s q)
  pub bit : referenced_at t f ≡ true
  pub visits : (pinned : Option ℕ) → Visits page pinned s t

pub settles : (s : StoreView) → IsStoreSound s → (page : PageRef) (f : ℕ) → HasPage s.segs page → f < length s.frames → (frame_at s.frames f).owner ≡ None → (rec_by s.segs page).frame ≡ None
    → (frame_at s.frames f).bytes ≡ slot_bytes s.swap (rec_by s.segs page).slot
    → Settles page f s (record s { segs = with_rec s.segs page (record { frame = Some f; slot = (rec_by s.segs page).slot }); frames = set s.frames f (record (frame_at s.frames f) { owner = Some page; referenced = true }) })
settles s sound page f has lt free away bytes =
    let keeps = keeps-settle s sound page f has lt free away bytes in
    let place : PageRec = record { frame = Some f; slot = (rec_by s.segs page).slot } in
    let x : Frame = record (frame_at s.frames f) { owner = Some page; referenced = true } in
    let here = rec-with s.segs page place has in
    record {
      sound = keeps.sound;
      came = λ q. grind (arith, cases_ref page q, same-self page, same-other page q, here, rec-with_other s.segs page q place);
      bit = ap (λ (y : Frame). y.referenced) (get_or-set_same s.frames f x no_frame lt);
      visits = λ pinned. record {
        goes = keeps.goes;
        kept = λ q locked e. grind (arith, nat_tests, common_steps, cases_ref, here, rec-with_other, s.segs, place);
        away = λ q n e. rec-with_other s.segs page q place (other-true page q n);
        pin = λ p q is at. grind (arith, nat_tests, common_steps, rec-with_other, s.segs, place, other-true, bit-other, s.frames, x, elsewhere);
      };
    }

-- moves, one after another
moved-append : (ms : List PageMove) (m : PageMove) (seg page : ℕ) (f : Option ℕ) → moved (ms ++ m ∷ []) seg page f ≡ moved (m ∷ []) seg page (moved ms seg page f)
moved-append [] m seg page f = refl
moved-append (Gone r ∷ ms) m seg page f = moved-append ms m seg page _
moved-append (Came r k ∷ ms) m seg page f = moved-append ms m seg page _

pub moves-still : (ms : List PageMove) (s t : StoreView) → Still s t → MovesOn ms ms s t
moves-still ms s t still b led seg page = still seg page ∙ led seg page

pub moves-more : (ms : List PageMove) (m : PageMove) (s t : StoreView) → ((q : PageRef) → frame_by t q ≡ moved (m ∷ []) q.seg q.page (frame_by s q)) → MovesOn ms (ms ++ m ∷ []) s t
unfolding frame_of
moves-more ms m s t is b led seg page =
    is (record { seg = seg; page = page }) ∙ ap (moved (m ∷ []) seg page) (led seg page) ∙ sym (moved-append ms m seg page (frame_of b seg page))

pub moves-trans : (ms ns os : List PageMove) (s t u : StoreView) → MovesOn ms ns s t → MovesOn ns os t u → MovesOn ms os s u
moves-trans ms ns os s t u a c b led = c b (a b led)

-- a step that visits no page
pub visits-away : (pinned : Option ℕ) (s t : StoreView) → ((r : PageRef) → Visits r pinned s t) → StaysAway s t
visits-away pinned s t all q e = (all (record { seg = q.seg; page = suc q.page })).away q (λ same. absurd (let h : q.page ≡ suc q.page = ap (λ (r : PageRef). r.page) same in omega arith)) e

pub alike-set : (frames : List Frame) (f : ℕ) (x : Frame) → Alike (frame_at frames f) x → (g : ℕ) → Alike (frame_at frames g) (frame_at (set frames f x) g)
alike-set frames f x like g = grind (arith, nat_tests, common_steps, set-cases)

-- a frame's referenced bit is set
pub step-touch : (s : StoreView) → IsStoreSound s → (f : ℕ) → f < length s.frames → IsStep s (record s { frames = set s.frames f (record (frame_at s.frames f) { referenced = true }) })
step-touch s sound f lt =
    let x : Frame = record (frame_at s.frames f) { referenced = true } in
    let size = length-set s.frames f x in
    let alike = alike-set s.frames f x (record { owner = refl; bytes = refl; dirty = refl }) in
    let keeps = keeps-alike s sound (set s.frames f x) s.hand size alike (rw size sound.hand) in
    grind (arith, common_steps)

-- VISITS TO PAGES, RESIDENT OR NOT

-- what a result owes, if it is no error and if it is one
if-ok : {A E : Type 0} (r : Result A E) (P : Type 0) → OnOk r P → is_ok r ≡ true → P
if-ok (Ok a) P p e = p
if-ok (Err x) P p e = absurd (false≢true e)

on-ok : {A E : Type 0} (r : Result A E) (P : Type 0) → (is_ok r ≡ true → P) → OnOk r P
on-ok (Ok a) P f = f refl
on-ok (Err x) P f = tt

-- a resident page's frame was touched
pub visited-touched : {E : Type 0} (r : PageRef) (pinned : Option ℕ) (f : ℕ) (s t : StoreView) (u : Touched) → Some f ≡ frame_by s r → Visits r pinned s t → t ≡ record s { frames = t.frames } → referenced_at t f ≡ true → places t ≡ referenced f (places s)
    → Visited {E = E} r pinned (Some f) s t u u (Ok f)
visited-touched r pinned f s t u known visits rest bit placed =
    let segs = ap (λ (v : StoreView). v.segs) rest in
    record {
      here = (rw segs (sym known), bit);
      visits = visits;
      moves = moves-still u.moved.items s t (by-still s t (λ q. rw segs refl));
      few = omega arith;
      ins = let none : is_swapped (rec_by s.segs r) ≡ false = rw (← known) refl in rw none (omega arith);
      outs = omega arith;
      transfers = known-counted s r pinned f (counted u) (sym known);
      counts = counts-still u s t (ap (λ (v : StoreView). v.ins) rest) (ap (λ (v : StoreView). v.outs) rest);
      quiet = λ e. (refl, refl, segs, ap (λ (v : StoreView). v.swap) rest);
      placed = visit-known s (places t) r pinned f (sym known) placed;
      stopped = tt;
      failures = ap (λ (v : StoreView). total v.swap) rest;
    }

-- a page that was not resident was brought in, or was not
pub visited-fault : {E : Type 0} (r : PageRef) (pinned : Option ℕ) (s t : StoreView) (u v : Touched) (result : Result ℕ E) → frame_by s r ≡ None → IfOk result (IsSeenIn t r) → Visits r pinned s t → MovesOn u.moved.items v.moved.items s t
    → length v.moved.items ≤ length u.moved.items + 2 → v.ins ≡ u.ins + one_if (is_ok result && is_some (rec_by s.segs r).slot) → v.outs ≤ u.outs + 1 → CountsOn u v s t → (is_ok result ≡ true → counted v ≡ visit_counted r pinned (places s) (counted u))
    → OnOk result (places t ≡ after_visit r pinned (places s)) → OnErr result (StopsAt r pinned (places s) (places t) (counted u) (counted v)) → CountsFailure (is_ok result) s t → Visited r pinned None s t u v result
visited-fault r pinned s t u v result away here visits moves few ins outs counts transfers placed stopped failures = record {
  here = here;
  visits = visits;
  moves = moves;
  few = few;
  ins = rw away ins;
  outs = outs;
  transfers = on-ok result _ transfers;
  counts = counts;
  quiet = grind (arith, common_steps);
  placed = placed;
  stopped = stopped;
  failures = failures;
}

-- WHAT AN ACCESS LEAVES, PUT TOGETHER FROM THE VISITS TO ITS PAGES

resident-at : (s : StoreView) (p : Span) → is_some (frame_of s p.seg (page_of p)) ≡ true → IsSome (frame_by s (ref_of p))
unfolding frame_of
resident-at s p e = e

-- there was no page
pub brings-none : {E : Type 0} (s : StoreView) (u : Touched) (here : InFrames) → IsUntouched u → Brings {E = E} [] s s u (Ok here)
unfolding frame_of
brings-none s u here none = record {
  here = tt;
  goes = grind (arith, common_steps);
  kept = λ r locked e. e;
  paged = record {
    moves = rw none.0 (λ seg page. refl);
    few = let z : length u.moved.items ≡ 0 = rw none.0 refl in omega (arith, z);
    read_in = rw none.1 refl;
    written_out = rw none.2 refl;
    transfers = λ e. counted-none s u none;
    quiet = λ all. (refl, refl, none.1, none.2);
    cause = λ e. absurd (false≢true (sym e));
    failures = refl;
  };
  placed = access-none s;
  stopped = tt;
}

-- the first page was brought in, or was not
module _ {E : Type 0} (p : Span) (s t : StoreView) (u v : Touched) (none : IsUntouched u) where
  paged-one : (result : Result ℕ E) → Visited (ref_of p) None (frame_by s (ref_of p)) s t u v result → Paged (p ∷ []) s t v (is_ok result)
  paged-one result w = record {
    moves = w.moves s (λ seg page. rw none.0 refl);
    few = let f = w.few in let z : length u.moved.items ≡ 0 = rw none.0 refl in omega (arith, f, z);
    read_in = w.counts.ins s.ins (rw none.1 refl);
    written_out = w.counts.outs s.outs (rw none.2 refl);
    transfers = λ e. counted-one p s t (counted v) (rw (untouched-counted u none) at (if-ok result _ w.transfers e));
    quiet = λ all. let known = resident-at s p (all 0 p (omega arith)) in grind (arith, nat_tests, common_steps, w.quiet, none.1, none.2);
    cause = cause-of (is_ok result) s t w.visits.goes w.failures;
    failures = w.failures;
  }

  pub brings-one : (f : ℕ) → Visited {E = E} (ref_of p) None (frame_by s (ref_of p)) s t u v (Ok f) → Brings {E = E} (p ∷ []) s t v (Ok (record { first = f; second = f }))
  brings-one f w = record {
    here = record { at = w.here.0; bit = w.here.1 };
    goes = w.visits.goes;
    kept = w.visits.kept;
    paged = paged-one (Ok f) w;
    placed = access-one p s t w.placed;
    stopped = tt;
  }

  pub brings-not : {F : Type 0} (e : E) (x : F) → Visited (ref_of p) None (frame_by s (ref_of p)) s t u v (Err e) → Brings (p ∷ []) s t v (Err x)
  brings-not e x w = record {
    here = tt;
    goes = w.visits.goes;
    kept = w.visits.kept;
    paged = paged-one (Err e) w;
    placed = tt;
    stopped = stops-one p s t u (counted v) none w.stopped;
  }

  -- the first of two was not
  pub brings-first_not : {F : Type 0} (q : Span) (e : E) (x : F) → Visited (ref_of p) None (frame_by s (ref_of p)) s t u v (Err e) → Brings (p ∷ q ∷ []) s t v (Err x)
  brings-first_not q e x w =
      let one = paged-one (Err e) w in
      let never = λ (all : All (IsResident s) (p ∷ q ∷ [])). (w.quiet (resident-at s p (all 0 p (omega arith)))).0 in
      record {
        here = tt;
        goes = w.visits.goes;
        kept = w.visits.kept;
        paged = record {
          moves = one.moves;
          few = one.few;
          read_in = one.read_in;
          written_out = one.written_out;
          transfers = λ e. absurd (false≢true e);
          quiet = λ all. absurd (false≢true (never all));
          cause = one.cause;
          failures = w.failures;
        };
        placed = tt;
        stopped = stops-first p q s t u (counted v) none w.stopped;
      }

-- the second of two pages was brought in, or was not
module _ {E : Type 0} (p q : Span) (s t z : StoreView) (f : ℕ) (u v w : Touched) (none : IsUntouched u) (one : Visited {E = E} (ref_of p) None (frame_by s (ref_of p)) s t u v (Ok f)) where
  first-counted : counted v ≡ visit_counted (ref_of p) None (places s) no_transfers
  first-counted = rw (untouched-counted u none) at one.transfers

  paged-two : (result : Result ℕ E) → Visited (ref_of q) (Some f) (frame_by t (ref_of q)) t z v w result → Paged (p ∷ q ∷ []) s z w (is_ok result)
  paged-two result two =
      let first = paged-one p s t u v none (Ok f) one in
      let failures = failures-after (is_ok result) s.swap t.swap z.swap one.failures two.failures in
      record {
        moves = moves-trans u.moved.items v.moved.items w.moved.items s t z one.moves two.moves s (λ seg page. rw none.0 refl);
        few = let a = one.few in let b = two.few in let y : length u.moved.items ≡ 0 = rw none.0 refl in omega (arith, a, b, y);
        read_in = two.counts.ins s.ins first.read_in;
        written_out = two.counts.outs s.outs first.written_out;
        transfers = λ e. counted-two p q s t z f one.placed one.here.0 (counted v) (counted w) first-counted (if-ok result _ two.transfers e);
        quiet = λ all.
            let a = one.quiet (resident-at s p (all 0 p (omega arith))) in
            let known : IsSome (frame_by t (ref_of q)) = rw a.2 (resident-at s q (all 1 q (omega arith))) in
            let b = two.quiet known in
            let same : w ≡ u = b.1 ∙ a.1 in
            (b.0, b.3 ∙ a.3, ap (λ (x : Touched). x.ins) same ∙ none.1, ap (λ (x : Touched). x.outs) same ∙ none.2);
        cause = cause-of (is_ok result) s z (Goes-trans s t z one.visits.goes two.visits.goes) failures;
        failures = failures;
      }

  pub brings-two : (g : ℕ) → Visited {E = E} (ref_of q) (Some f) (frame_by t (ref_of q)) t z v w (Ok g) → Brings {E = E} (p ∷ q ∷ []) s z w (Ok (record { first = f; second = g }))
  brings-two g two =
      let stays = two.visits.pin f (ref_of p) refl one.here.0 in
      record {
        here = (record { at = stays.0; bit = stays.1 one.here.1 }, record { at = two.here.0; bit = two.here.1 });
        goes = Goes-trans s t z one.visits.goes two.visits.goes;
        kept = KeepsLocked-trans s t z one.visits.goes.shape one.visits.kept two.visits.kept;
        paged = paged-two (Ok g) two;
        placed = access-two p q s t z f one.placed one.here.0 two.placed;
        stopped = tt;
      }

  pub brings-second_not : {F : Type 0} (e : E) (x : F) → Visited (ref_of q) (Some f) (frame_by t (ref_of q)) t z v w (Err e) → Brings (p ∷ q ∷ []) s z w (Err x)
  brings-second_not e x two = record {
    here = tt;
    goes = Goes-trans s t z one.visits.goes two.visits.goes;
    kept = KeepsLocked-trans s t z one.visits.goes.shape one.visits.kept two.visits.kept;
    paged = paged-two (Err e) two;
    placed = tt;
    stopped = stops-second p q s t z f one.placed one.here.0 (counted v) (counted w) first-counted two.stopped;
  }

lock-held : (frames : List Frame) (swap : SwapView) (gs : List SegRec) (id : ℕ) → holds_locked (map (held_by frames swap) gs) id ≡ locked_by gs id
lock-held frames swap [] id = refl
lock-held frames swap (g ∷ gs) id = grind (arith, nat_tests, lock-held frames swap gs id)

pub holds_locked-held : (s : StoreView) (id : ℕ) → holds_locked (held s) id ≡ locked_by s.segs id
unfolding held
holds_locked-held s id = lock-held s.frames s.swap s.segs id

pub kept-locked : (s t : StoreView) → KeepsLocked s t → LockedPagesStay s t
unfolding frame_of
kept-locked s t keeps seg page locked after e = keeps (record { seg = seg; page = page }) (rw (holds_locked-held s seg) at locked) e

-- what an access that was done leaves, where frames may have changed since
module _ (s t : StoreView) (frames : List Frame) (count : length frames ≡ length t.frames) (bits : (f : ℕ) → (frame_at frames f).referenced ≡ referenced_at t f) (sound : IsStoreSound (record t { frames = frames })) where
  pub accessed : {E : Type 0} (ps : List Span) (here : InFrames) (u : Touched) → length ps ≤ 2 → Brings {E = E} ps s t u (Ok here) → Accessed ps s (record t { frames = frames }) (Ok u)
  unfolding frame_of
  accessed ps here u few b = grind (arith, kept-locked)

-- and one that was not
accessed-not : {E : Type 0} (ps : List Span) (s t : StoreView) (u : Touched) (e : E) → IsStoreSound t → Brings ps s t u (Err e) → Accessed ps s t (Err (record { touched = u }))
accessed-not ps s t u e sound b = grind (arith, kept-locked)

-- the spans of a list of none, of one, and of two
pub none-of : (ps : List Span) → length ps ≡ 0 → [] ≡ ps
none-of ps e = grind (arith, common_steps)

pub one-of : (ps : List Span) → length ps ≡ 1 → get_or ps 0 no_span ∷ [] ≡ ps
one-of ps e = grind (arith, common_steps)

pub two-of : (ps : List Span) → length ps ≡ 2 → get_or ps 0 no_span ∷ get_or ps 1 no_span ∷ [] ≡ ps
two-of ps e = grind (arith, common_steps)

-- where nothing moved the second page is where it was
pub unmoved : (p q : Span) (s t : StoreView) (u v : Touched) {E : Type 0} (r : Result ℕ E) → IsUntouched u → Visited (ref_of p) None (frame_by s (ref_of p)) s t u v r → v.moved.items ≡ [] → q.frame ≡ frame_by s (ref_of q) → q.frame ≡ frame_by t (ref_of q)
unfolding frame_of
unmoved p q s t u v r none w still e = grind (arith, nat_tests, common_steps, v.moved.items, w.moves, none.0, q.seg)

-- WHAT AN ACCESS OF SPANS LEAVES, ONCE THEIR PAGES CAME IN, OR ONE OF THEM DID NOT

-- all pages came in, and the act was done at their bytes
module _ {F : Type 0} (ps : List Span) (s t z : StoreView) (u : Touched) (here : InFrames) (before after : List ℕ)
    (few : length ps ≤ 2) (brings : Brings {E = F} ps s t u (Ok here)) (sound : IsStoreSound t) (old : HasOld (held t) ps before after) where
  has-old : HasOld (held s) ps before after
  has-old = rw brings.goes.bytes at old

  pub acts-done : {A E : Type 0} (a : A) (put : Option (List ℕ)) → Puts put ps t z → Acts {A = A} {E = E} put ps before after s z (Ok a) (Ok u)
  acts-done a None is = record {
    there = has-old;
    kept = tt;
    written = rw is brings.goes.bytes;
    same = tt;
    access = rw is (accessed s t t.frames refl (λ f. refl) sound ps here u few brings);
    stopped = tt;
    places = rw is brings.placed;
  }
  acts-done a (Some bytes) w = record {
    there = has-old;
    kept = tt;
    written = w.written ∙ ap (λ (hs : List Held). written hs ps bytes) brings.goes.bytes;
    same = tt;
    access = rw w.rest (accessed s t z.frames w.count w.bits (rw w.rest at w.sound) ps here u few brings);
    stopped = tt;
    places = rw (← brings.placed) w.placed;
  }

-- one page did not come in
pub acts-failed : {A E F : Type 0} (ps : List Span) (s t : StoreView) (u : Touched) (e : E) (x : F) (put : Option (List ℕ)) (before : List ℕ) → IsStoreSound t → Brings ps s t u (Err e)
    → Acts {A = A} put ps before before s t (Err x) (Err (record { touched = u }))
acts-failed ps s t u e x put before sound brings = record {
  there = tt;
  kept = refl;
  written = tt;
  same = brings.goes.bytes;
  access = accessed-not ps s t u e sound brings;
  stopped = brings.stopped;
  places = tt;
}
