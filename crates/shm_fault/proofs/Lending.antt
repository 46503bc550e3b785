-- A page on loan stays in its frame, unless a visit is made that was barred.
use Rattle.shm_fault.proofs.Names.{ap, arith, nat_tests, common_steps, ◌≡◌, ℕ, Bool, true, false, true≢false, not, List, Option, Some, None, is_some, refl, sym, ◌∙◌, PageRef, Frame, no_frame, frame_at, rec_by, Transfers, inl, inr, position, unwrap_or, set, if◌then◌else◌, candidates, passed_by, unlocked, is_free, Places, StopsAt, slotted, victim_in, visited_in}
use Rattle.shm_clock.proofs.Bits.{unset_all-at}
use Rattle.std.proofs.lemmas.List.Quantifiers.{position-Some}
use Rattle.shm_fault.specs.Loans.{LoansStay, frame_or_leaver, is_barred, leaver_in, lent_at}
use Rattle.shm_fault.specs.Placing.{after_clean, after_eviction, after_page_out, after_room, after_turn, after_visit, frame_for, referenced, settled, vacated}
use Rattle.shm_fault.proofs.Slots.{set-cases}

-- the same owner, and on loan or not as before
pub record SameLoan (x y : Frame) : Type 0 where
  pub owner : y.owner ≡ x.owner
  pub lent : y.lent ≡ x.lent

-- the same of each frame
abbrev pub SameLoans : List Frame → List Frame → Type 0
SameLoans before after = (f : ℕ) → SameLoan (frame_at before f) (frame_at after f)

same-loan : (x : Frame) → SameLoan x x
same-loan x = record { owner = refl; lent = refl }

loans-trans : (xs ys zs : List Frame) → SameLoans xs ys → SameLoans ys zs → SameLoans xs zs
loans-trans xs ys zs a b f = record { owner = (b f).owner ∙ (a f).owner; lent = (b f).lent ∙ (a f).lent }

pub loans-set : (frames : List Frame) (f : ℕ) (x : Frame) → SameLoan (frame_at frames f) x → SameLoans frames (set frames f x)
loans-set frames f x same g = elim (set-cases frames f x no_frame g) [
  | inl here ↦ rw (here.1, here.0) same
  | inr kept ↦ rw kept (same-loan (frame_at frames g))
]

-- THE STEPS THAT KEEP ALL LOANS

loans-turn : (pinned : Option ℕ) (s : Places) → SameLoans s.frames (after_turn pinned s).frames
unfolding after_turn
loans-turn pinned s f =
    let same = unset_all-at s.frames (passed_by s.frames (candidates (unlocked s.segs) pinned s.frames s.hand)) f in
    record { owner = ap (λ (x : Frame). x.owner) same; lent = ap (λ (x : Frame). x.lent) same }

frames-slotted : (f : ℕ) (s : Places) → (slotted f s).frames ≡ s.frames
frames-slotted f s = grind (arith, common_steps)

loans-page-out : (f : ℕ) (ok : Bool) (s : Places) → SameLoans s.frames (after_page_out f ok s).frames
unfolding after_page_out
loans-page-out f ok s =
    let same : (slotted f s).frames ≡ s.frames = frames-slotted f s in
    rw same (loans-set s.frames f (record (frame_at s.frames f) { dirty = not ok }) (record { owner = refl; lent = refl }))

loans-clean : (f : ℕ) (s : Places) → SameLoans s.frames (after_clean f s).frames
unfolding after_clean
loans-clean f s g = grind (arith, common_steps, loans-page-out f true s g, same-loan)

-- STEPS THAT EMPTY OR FILL A FRAME

pub stay-same : (s t : Places) → SameLoans s.frames t.frames → LoansStay s t
stay-same s t same f r owned lent = ((same f).owner ∙ owned, (same f).lent ∙ lent)

pub stay-refl : (s : Places) → LoansStay s s
stay-refl s f r owned lent = (owned, lent)

pub stay-trans : (s t u : Places) → LoansStay s t → LoansStay t u → LoansStay s u
stay-trans s t u a b f r owned lent = let here = a f r owned lent in b f r here.0 here.1

-- a frame that has no page on loan may become anything
stay-set : (s t : Places) (f : ℕ) (x : Frame) → t.frames ≡ set s.frames f x → ((r : PageRef) → (frame_at s.frames f).owner ≡ Some r → (frame_at s.frames f).lent ≡ false) → LoansStay s t
stay-set s t f x is home g r owned lent = grind (arith, nat_tests, common_steps, set-cases, home)

-- a page leaves a frame that is not on loan
stay-vacated : (f : ℕ) (s : Places) → (frame_at s.frames f).lent ≡ false → LoansStay s (vacated f s)
unfolding vacated
stay-vacated f s home g r owned lent = grind (arith, nat_tests, common_steps, set-cases, home)

stay-settled : (r : PageRef) (f : ℕ) (s : Places) → ((q : PageRef) → (frame_at s.frames f).owner ≡ Some q → (frame_at s.frames f).lent ≡ false) → LoansStay s (settled r f s)
unfolding settled
stay-settled r f s home = stay-set s (settled r f s) f (record no_frame { owner = Some r; referenced = true }) refl home

-- the frame is not on loan after its page left it
home-vacated : (f : ℕ) (s : Places) → (frame_at s.frames f).lent ≡ false → (frame_at (vacated f s).frames f).lent ≡ false
unfolding vacated
home-vacated f s home = grind (arith, nat_tests, common_steps, set-cases)

-- the frame that the clock chose, as the eviction finds it
abbrev chosen : Option ℕ → Places → Places
chosen pinned s = after_clean (victim_in pinned s) (after_turn pinned s)

loans-chosen : (pinned : Option ℕ) (s : Places) → SameLoans s.frames (chosen pinned s).frames
loans-chosen pinned s = loans-trans s.frames (after_turn pinned s).frames (chosen pinned s).frames (loans-turn pinned s) (loans-clean (victim_in pinned s) (after_turn pinned s))

module _ (pinned : Option ℕ) (s : Places) (home : (frame_at s.frames (victim_in pinned s)).lent ≡ false) where
  victim_home : (frame_at (chosen pinned s).frames (victim_in pinned s)).lent ≡ false
  victim_home = (loans-chosen pinned s (victim_in pinned s)).lent ∙ home

  stay-eviction : LoansStay s (after_eviction pinned s)
  unfolding after_eviction
  stay-eviction = stay-trans s (chosen pinned s) (vacated (victim_in pinned s) (chosen pinned s)) (stay-same s (chosen pinned s) (loans-chosen pinned s)) (stay-vacated (victim_in pinned s) (chosen pinned s) victim_home)

  home-eviction : (frame_at (after_eviction pinned s).frames (victim_in pinned s)).lent ≡ false
  unfolding after_eviction
  home-eviction = home-vacated (victim_in pinned s) (chosen pinned s) victim_home

-- A FRAME IS MADE FREE, AND A PAGE COMES INTO IT

free-home : (s : Places) (f : ℕ) → position is_free s.frames ≡ Some f → (q : PageRef) → (frame_at s.frames f).owner ≡ Some q → (frame_at s.frames f).lent ≡ false
free-home s f at q owned =
    let free : is_free (frame_at s.frames f) ≡ true = (position-Some is_free s.frames f no_frame at).1 in
    absurd (true≢false (sym free ∙ rw owned refl))

leaver-home : (pinned : Option ℕ) (s : Places) → position is_free s.frames ≡ None → lent_at s (leaver_in pinned s) ≡ false → (frame_at s.frames (victim_in pinned s)).lent ≡ false
unfolding leaver_in
leaver-home pinned s none home = rw none at home

stay-room : (pinned : Option ℕ) (s : Places) → lent_at s (leaver_in pinned s) ≡ false → LoansStay s (after_room pinned s)
unfolding after_room
stay-room pinned s home = by (position is_free s.frames) refl
  where
    by : (o : Option ℕ) → position is_free s.frames ≡ o → LoansStay s (if is_some (position is_free s.frames) then s else after_eviction pinned s)
    by (Some f) at = rw at (stay-refl s)
    by None at = rw at (stay-eviction pinned s (leaver-home pinned s at home))

stay-comes : (r : PageRef) (pinned : Option ℕ) (s : Places) → lent_at s (leaver_in pinned s) ≡ false → LoansStay s (settled r (frame_for pinned s) (after_room pinned s))
unfolding after_room frame_for
stay-comes r pinned s home = by (position is_free s.frames) refl
  where
    by : (o : Option ℕ) → position is_free s.frames ≡ o → LoansStay s (settled r (unwrap_or (position is_free s.frames) (victim_in pinned s)) (if is_some (position is_free s.frames) then s else after_eviction pinned s))
    by (Some f) at = rw at (stay-settled r f s (free-home s f at))
    by None at =
        let clear = leaver-home pinned s at home in
        let v = victim_in pinned s in
        let t = after_eviction pinned s in
        rw at (stay-trans s t (settled r v t) (stay-eviction pinned s clear) (stay-settled r v t (λ q owned. home-eviction pinned s clear)))

stay-referenced : (f : ℕ) (s : Places) → LoansStay s (referenced f s)
unfolding referenced
stay-referenced f s = stay-same s (referenced f s) (loans-set s.frames f (record (frame_at s.frames f) { referenced = true }) (record { owner = refl; lent = refl }))

-- THE SENTENCE: a visit that is not barred leaves each page on loan in its frame, also if a pager fails

pub stay-visit : (r : PageRef) (pinned : Option ℕ) (s : Places) → is_barred r pinned s ≡ false → LoansStay s (after_visit r pinned s)
unfolding after_visit is_barred
stay-visit r pinned s free = by (rec_by s.segs r).frame free
  where
    by : (o : Option ℕ) → lent_at s (frame_or_leaver o pinned s) ≡ false → LoansStay s (visited_in r o pinned s)
    by (Some f) home = stay-referenced f s
    by None home = stay-comes r pinned s home

pub stay-stops : (r : PageRef) (pinned : Option ℕ) (s t : Places) (b c : Transfers) → is_barred r pinned s ≡ false → StopsAt r pinned s t b c → LoansStay s t
unfolding is_barred
stay-stops r pinned s t b c free stop =
    let home : lent_at s (leaver_in pinned s) ≡ false = rw stop.away at free in
    elim stop.how [
      | inl write ↦ let v = victim_in pinned s in let u = after_turn pinned s in
          rw write.0.places (stay-same s (after_page_out v false u) (loans-trans s.frames u.frames (after_page_out v false u).frames (loans-turn pinned s) (loans-page-out v false u)))
      | inr read ↦ rw read.0.places (stay-room pinned s home)
    ]
