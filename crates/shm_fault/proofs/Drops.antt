-- A page that leaves its frame and its slot for good.
use Rattle.shm_fault.proofs.Names.{◌≡◌, ◌≢◌, ℕ, zero, suc, ◌<◌, ◌≤◌, ◌+◌, List, [], ◌∷◌, length, set, map, sum_by, Option, Some, None, refl, sym, ap, ◌∙◌, inl, inr, arith, get_or-set_same, not, eqb, cases_eq, cases_lt, eq-eqb, ne_eqb, length-replicate, set-get_or, PageRef, Slot, without, SwapView, owner_of, page_in, without_slot, IsSwap, IsSteady, Frame, frame_at, PageRec, SegRec, AreApart, but, no_page, find_seg, rec_by, count_by_id, HasPage, NowhereUpTo, with_rec, page_count, locked_pages, StoreView, held_by, disowned, IsTied, IsStoreSound, outline, outlines, emptied, Given, Dropped, nat_tests, common_steps, Drops, Forgets, Frees, places, OnlySlot, OnlySlot-given, owner-given}
use Rattle.std.proofs.lemmas.List.Filters.{sum_by-filter_both}
use Rattle.shm_base.specs.Page.{zero_page}
use Rattle.shm_fault.specs.Store.{held, frame_of}
use Rattle.shm_fault.proofs.Entries.{apart-filter, edit-none, find-but, find-out}
use Rattle.shm_fault.proofs.Counting.{uncounted-trans}
use Rattle.shm_fault.proofs.Sound.{IsSound-from, GoesOn-refl, GoesOn-trans, FramesApart, SlotsApart, Touches, segs-with, frames-set, frames-same, slots-only, bytes_touched, tied-segs, sound-one}
use Rattle.shm_fault.proofs.Pages.{outlines-with, rec-with, rec-with_other, rec-past, count-same, apart-same, other, other-true, ref_parts}
use Rattle.shm_fault.proofs.Slots.{set-cases}
use Rattle.shm_fault.proofs.Bytes.{joined, held_one, held_of, bytes_at, held-is, joined-ext}
use Rattle.shm_fault.proofs.Places.{forget-is, forget-nowhere, forgets-none, forgets-then, segment-gone}

-- a page that is where it is said to be
pub with-is : (gs : List SegRec) (r : PageRef) (p : PageRec) → AreApart gs → rec_by gs r ≡ p → with_rec gs r p ≡ gs
with-is [] r p apart is = refl
with-is (g ∷ gs) r p apart is = grind (arith, nat_tests, with-is gs r p apart.1, edit-none (λ h. record h { pages = set h.pages r.page p }) gs r.seg, apart.0, set-get_or g.pages r.page no_page)

pub with-same : (gs : List SegRec) (r : PageRef) → AreApart gs → with_rec gs r (rec_by gs r) ≡ gs
with-same gs r apart = with-is gs r (rec_by gs r) apart refl

-- what becomes of the frames, of the page's own first
record EmptiedFrames (s : StoreView) (r : PageRef) (frames : List Frame) : Type 0 where
  apart : FramesApart (other r) s.frames frames
  none : (f : ℕ) → (frame_at frames f).owner ≡ Some r → ⊥
  kept : (f : ℕ) → disowned r.seg (frame_at frames f).owner ≡ disowned r.seg (frame_at s.frames f).owner

disowned-own : (r : PageRef) → disowned r.seg (Some r) ≡ None
disowned-own r = rw (eq-eqb r.seg r.seg refl) refl

emptied-frames : (s : StoreView) → IsStoreSound s → (r : PageRef) → HasPage s.segs r → (o : Option ℕ) → (rec_by s.segs r).frame ≡ o → EmptiedFrames s r (emptied s.frames o)
emptied-frames s sound r has None e = grind (arith, nat_tests, common_steps, frames-same, s.frames, sound.tied.free, s.segs, sound.tied.pages)
emptied-frames s sound r has (Some g) e = grind (arith, nat_tests, common_steps, sound.tied.pages, s.frames, frames-set, other, sound.tied.free, set-cases, get_or-set_same, disowned-own)

pub record GivenSlots (s : StoreView) (r : PageRef) (u : SwapView) : Type 0 where
  pub apart : SlotsApart (other r) s.swap u
  pub none : (k : Slot) → owner_of u k.area k.slot ≡ Some r → ⊥
  pub kept : (k : Slot) → disowned r.seg (owner_of u k.area k.slot) ≡ disowned r.seg (owner_of s.swap k.area k.slot)

pub given-slots : (s : StoreView) → IsStoreSound s → (r : PageRef) → HasPage s.segs r → (u : SwapView) → (o : Option Slot) → (rec_by s.segs r).slot ≡ o → Given s.swap o u → GivenSlots s r u
given-slots s sound r has u None e given = grind arith
given-slots s sound r has u (Some j) e given =
    let tie = sound.tied.pages r has in
    let own = tie.slot_owned j e in
    let page = page_in u j.area j.slot in
    let v : SwapView = without_slot s.swap j page in
    let only : OnlySlot j s.swap v = OnlySlot-given j s.swap page in
    let now : owner_of v j.area j.slot ≡ None = owner-given j s.swap page own.0.0 (omega (arith, own.0.1, (sound.swap.each j.area).owned)) in
    grind (arith, slots-only)

-- a page is nowhere from now on
module _ (s : StoreView) (sound : IsStoreSound s) (r : PageRef) (has : HasPage s.segs r) (u : SwapView) (given : Given s.swap (rec_by s.segs r).slot u) where
  abbrev forgotten : StoreView
  forgotten = record s { segs = with_rec s.segs r no_page; frames = emptied s.frames (rec_by s.segs r).frame; swap = u }

  fr : EmptiedFrames s r (emptied s.frames (rec_by s.segs r).frame)
  fr = emptied-frames s sound r has (rec_by s.segs r).frame refl

  sl : GivenSlots s r u
  sl = given-slots s sound r has u (rec_by s.segs r).slot refl given

  to-forgotten : Touches (other r) s forgotten
  to-forgotten = record { segs = segs-with s.segs r no_page; frames = fr.apart; slots = sl.apart }

  sound-forgotten : IsSwap u → IsSteady s.swap u → IsStoreSound forgotten
  unfolding zero_page
  sound-forgotten is steady =
      let at : rec_by (with_rec s.segs r no_page) r ≡ no_page = rec-with s.segs r no_page has in
      let tie : IsTied forgotten r = grind (arith, nat_tests, common_steps, fr.none, sl.none, length-replicate) in
      sound-one s forgotten sound r has to-forgotten is steady.same_sizes (rw fr.apart.size sound.hand) steady.goes_on tie

  held-forgotten : without (held forgotten) r.seg ≡ without (held s) r.seg
  held-forgotten =
      let apart = apart-same s.segs (with_rec s.segs r no_page) (outlines-with s.segs r no_page) sound.apart in
      ap (λ hs. without hs r.seg) (held-is forgotten apart ∙ ap (held_of (bytes_at forgotten)) (outlines-with s.segs r no_page))
      ∙ without-ext (bytes_at forgotten) (bytes_at s) s.segs r.seg others
      ∙ sym (ap (λ hs. without hs r.seg) (held-is s sound.apart))
    where
      others : (q : PageRef) → q.seg ≢ r.seg → bytes_at forgotten q ≡ bytes_at s q
      others q n = grind (arith, nat_tests, common_steps, cases_lt q.page (count_by_id s.segs q.seg), bytes_touched (other r) s forgotten to-forgotten q, other-true r q, sound.tied.pages q, rec-with_other s.segs r q no_page, rec-past s.segs q)

      without-ext : (b c : PageRef → List ℕ) (gs : List SegRec) (id : ℕ) → ((q : PageRef) → q.seg ≢ id → b q ≡ c q) → without (held_of b (outlines gs)) id ≡ without (held_of c (outlines gs)) id
      without-ext b c [] id same = refl
      without-ext b c (g ∷ gs) id same = elim (cases_eq g.id id) [
        | inl e ↦ rw (eq-eqb g.id id e) (without-ext b c gs id same)
        | inr n ↦
            let here : joined b g.id 0 (length g.pages) ≡ joined c g.id 0 (length g.pages) = joined-ext b c g.id 0 (length g.pages) (λ j l. same (record { seg = g.id; page = 0 + j }) n) in
            let rest = without-ext b c gs id same in
            rw (ne_eqb g.id id n) (let h : held_one b (outline g) ≡ held_one c (outline g) = ap (λ bs. record { id = g.id; locked = g.locked; bytes = bs }) here in cc)
      ]

  pub forgets : IsSwap u → IsSteady s.swap u → IsStoreSound forgotten × Forgets r s forgotten
  forgets is steady = (
    sound-forgotten is steady,
    record {
      frees = record {
        shape = outlines-with s.segs r no_page;
        bytes = held-forgotten;
        frames = fr.kept;
        slots = sl.kept;
        size = fr.apart.size;
        steady = steady;
        rest = record { ins = refl; outs = refl };
      };
      segs = refl;
      placed = forget-is s r u given;
      nowhere = λ none. grind (arith, common_steps, with-same);
    },
  )

frees-refl : (seg : ℕ) (s : StoreView) → Frees seg s s
frees-refl seg s = record {
  shape = refl;
  bytes = refl;
  frames = λ f. refl;
  slots = λ k. refl;
  size = refl;
  steady = record { goes_on = GoesOn-refl s.swap; failures = refl; same_sizes = refl };
  rest = record { ins = refl; outs = refl };
}

frees-trans : (seg : ℕ) (s t u : StoreView) → Frees seg s t → Frees seg t u → Frees seg s u
frees-trans seg s t u a b = record {
  shape = b.shape ∙ a.shape;
  bytes = b.bytes ∙ a.bytes;
  frames = λ f. b.frames f ∙ a.frames f;
  slots = λ k. b.slots k ∙ a.slots k;
  size = b.size ∙ a.size;
  steady = record {
    goes_on = GoesOn-trans s.swap t.swap u.swap a.steady.goes_on b.steady.goes_on;
    failures = b.steady.failures ∙ a.steady.failures;
    same_sizes = b.steady.same_sizes ∙ a.steady.same_sizes;
  };
  rest = uncounted-trans s t u a.rest b.rest;
}

-- a page that was nowhere
pub forgets-nowhere : (s : StoreView) (r : PageRef) → AreApart s.segs → rec_by s.segs r ≡ no_page → Forgets r s s
forgets-nowhere s r apart at =
    let same = with-is s.segs r no_page apart at in
    record { frees = frees-refl r.seg s; segs = sym same; placed = forget-nowhere s r same at; nowhere = λ none. refl }

pub dropped-none : (seg : ℕ) (s : StoreView) → Dropped seg 0 s s
dropped-none seg s = record {
  frees = frees-refl seg s;
  still = λ q ne. refl;
  done = λ page lt. absurd (omega (arith, lt));
  nothing = λ blank. refl;
  placed = forgets-none seg (places s);
}

-- one page more
pub dropped-more : (seg n : ℕ) (s t u : StoreView) → Dropped seg n s t → HasPage t.segs (record { seg = seg; page = n }) → Forgets (record { seg = seg; page = n }) t u → Dropped seg (n + 1) s u
dropped-more seg n s t u d has f =
    let r : PageRef = record { seg = seg; page = n } in
    let at : (q : PageRef) → rec_by u.segs q ≡ rec_by (with_rec t.segs r no_page) q = λ q. ap (λ (gs : List SegRec). rec_by gs q) f.segs in
    record {
      frees = frees-trans seg s t u d.frees f.frees;
      still = λ q ne. at q ∙ rec-with_other t.segs r q no_page (other-true r q (λ same. ne (ap (λ (x : PageRef). x.seg) same))) ∙ d.still q ne;
      done = λ page lt. elim (cases_eq page n) [
        | inl e ↦ rw e (at r ∙ rec-with t.segs r no_page has)
        | inr ne ↦ at (record { seg = seg; page = page }) ∙ rec-with_other t.segs r (record { seg = seg; page = page }) no_page (other-true r (record { seg = seg; page = page }) (λ same. ne (ap (λ (x : PageRef). x.page) same))) ∙ d.done page (omega arith)
      ];
      nothing = λ blank. let is : t ≡ s = d.nothing blank in f.nowhere (rw is (blank n)) ∙ is;
      placed = forgets-then seg n (places s) (places t) (places u) d.placed f.placed;
    }

-- pages that are nowhere are so as they are
pub dropped-rest : (seg n k : ℕ) (s t : StoreView) → AreApart t.segs → NowhereUpTo n (n + k) seg t.segs → n + k ≤ count_by_id t.segs seg → Dropped seg n s t → Dropped seg (n + k) s t
dropped-rest seg n zero s t apart none few d = let e : n + 0 ≡ n = omega arith in rw e d
dropped-rest seg n (suc k) s t apart none few d =
    let r : PageRef = record { seg = seg; page = n + k } in
    let at : rec_by t.segs r ≡ no_page = none (n + k) (omega arith) (omega arith) in
    let before = dropped-rest seg n k s t apart (λ page le lt. none page le (omega (arith, lt))) (omega (arith, few)) d in
    let e : n + suc k ≡ n + k + 1 = omega arith in
    rw e (dropped-more seg (n + k) s t t before (omega (arith, few)) (forgets-nowhere t r apart at))

-- a segment all of whose pages are nowhere is taken out
sum-but : (h : SegRec → ℕ) (gs : List SegRec) (id : ℕ) → sum_by h (but id gs) ≤ sum_by h gs
sum-but h gs id = omega (arith, sum_by-filter_both (λ (g : SegRec). not (eqb g.id id)) (λ (g : SegRec). not (not (eqb g.id id))) (λ g. refl) h gs)

held-but-list : (frames : List Frame) (swap : SwapView) (gs : List SegRec) (id : ℕ) → map (held_by frames swap) (but id gs) ≡ without (map (held_by frames swap) gs) id
held-but-list frames swap [] id = refl
held-but-list frames swap (g ∷ gs) id = grind (arith, nat_tests, held-but-list frames swap gs id)

held-but : (t : StoreView) (id : ℕ) → held (record t { segs = but id t.segs }) ≡ without (held t) id
unfolding held
held-but t id = held-but-list t.frames t.swap t.segs id

module _ (t : StoreView) (sound : IsStoreSound t) (id : ℕ) (gone : (page : ℕ) → page < count_by_id t.segs id → rec_by t.segs (record { seg = id; page = page }) ≡ no_page) where
  rec-but : (q : PageRef) → q.seg ≢ id → rec_by (but id t.segs) q ≡ rec_by t.segs q
  rec-but q n = rw (find-but t.segs id q.seg n) refl

  count-but : (q : PageRef) → q.seg ≢ id → count_by_id (but id t.segs) q.seg ≡ count_by_id t.segs q.seg
  count-but q n = rw (find-but t.segs id q.seg n) refl

  -- an existing page with a frame or a slot is not one of the dropped segment
  other-seg : (q : PageRef) → HasPage t.segs q → rec_by t.segs q ≢ no_page → q.seg ≢ id
  other-seg q has ne same = grind (arith, nat_tests, common_steps, q.page, ref_parts, t.segs)

  frame-other : (f : ℕ) (q : PageRef) → (frame_at t.frames f).owner ≡ Some q → q.seg ≢ id
  frame-other f q e =
      let has = sound.tied.owners f q e in
      other-seg q has (λ none. cc ((sound.tied.pages q has).owner_resident f e, ap (λ (p : PageRec). p.frame) none))

  slot-other : (k : Slot) (q : PageRef) → owner_of t.swap k.area k.slot ≡ Some q → q.seg ≢ id
  slot-other k q e =
      let has = sound.tied.slot_owners k q e in
      other-seg q has (λ none. cc ((sound.tied.pages q has).owner_stored k e, ap (λ (p : PageRec). p.slot) none))

  disowned-other : (o : Option PageRef) → ((q : PageRef) → o ≡ Some q → q.seg ≢ id) → o ≡ disowned id o
  disowned-other None ne = refl
  disowned-other (Some q) ne = grind (arith, nat_tests, ne q refl)

  sound-but : IsStoreSound (record t { segs = but id t.segs })
  sound-but =
      let u : StoreView = record t { segs = but id t.segs } in
      IsSound-from u
      (record {
        pages = λ q has. elim (cases_eq q.seg id) [
          | inl e ↦ absurd (let none : find_seg (but id t.segs) q.seg ≡ None = rw e (find-out t.segs id) in let no_count : q.page < 0 = rw none at has in omega arith)
          | inr n ↦
              tied-segs t (but id t.segs) q (rec-but q n) (sound.tied.pages q (rw (count-but q n) at has))
        ];
        owners = λ f q e. rw (count-but q (frame-other f q e)) (sound.tied.owners f q e);
        slot_owners = λ k q e. rw (count-but q (slot-other k q e)) (sound.tied.slot_owners k q e);
        free = sound.tied.free;
      })
      (apart-filter t.segs id sound.apart) sound.frames sound.swap sound.hand
      (let sum = sum-but page_count t.segs id in omega (arith, sum, sound.capacity))
      (let sum = sum-but locked_pages t.segs id in omega (arith, sum, sound.locked))

pub drops : (seg n : ℕ) (s t : StoreView) → IsStoreSound t → Dropped seg n s t → n ≡ count_by_id s.segs seg → Drops seg s (record t { segs = but seg t.segs })
unfolding frame_of
drops seg n s t sound d all =
    let same = count-same s.segs t.segs seg d.frees.shape in
    let gone : (page : ℕ) → page < count_by_id t.segs seg → rec_by t.segs (record { seg = seg; page = page }) ≡ no_page = λ page lt. d.done page (omega (arith, lt, same, all)) in
    record {
      held = held-but t seg ∙ d.frees.bytes;
      frames = λ f. disowned-other t sound seg gone (frame_at t.frames f).owner (frame-other t sound seg gone f) ∙ d.frees.frames f;
      slots = λ area slot.
          let k : Slot = record { area = area; slot = slot } in
          disowned-other t sound seg gone (owner_of t.swap area slot) (slot-other t sound seg gone k) ∙ d.frees.slots k;
      still = λ other page ne.
          let q : PageRef = record { seg = other; page = page } in
          ap (λ (p : PageRec). p.frame) (rec-but t sound seg gone q ne ∙ d.still q ne);
      counts = (d.frees.steady.failures, d.frees.steady.goes_on);
      sizes = d.frees.steady.same_sizes;
      count = d.frees.size;
      rest = record { ins = d.frees.rest.ins; outs = d.frees.rest.outs };
      places = rw (← all) (segment-gone seg n s t d.placed);
      blank = λ blank. ap (λ (v : StoreView). record v { segs = but seg v.segs }) (d.nothing blank);
      sound = sound-but t sound seg gone;
    }
