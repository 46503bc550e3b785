-- A page that moves from its slot to another area.
-- a page was written to another slot, and its old one given back
use Rattle.std.proofs.Common.{ℕ, List, Option, None, ap, arith, get_or, is_ok, length, sym, ◌<◌, ◌∙◌, ◌≡◌, ◌≢◌, Result, Some, []}
use Rattle.std.proofs.lemmas.Bool.Decides.{nat_tests}
use Rattle.std.proofs.lemmas.Grind.{common_steps}
use Rattle.std.proofs.lemmas.List.Sums.{sum_by-set}
use Rattle.std.proofs.lemmas.Result.{IfErr-weaker, IfOk-weaker}
use Rattle.shm_base.specs.declared.paging.PageRef.{PageRef}
use Rattle.shm_base.specs.declared.paging.Slot.{Slot}
use Rattle.shm_pager_core.specs.Pages.{SideCalls}
use Rattle.shm_pager_core.specs.declared.pager.PagerFault.{PagerFault}
use Rattle.shm_slots.proofs.Causes.{GoesOn-trans, failures-after}
use Rattle.shm_slots.proofs.Rows.{owners-kept}
use Rattle.shm_slots.proofs.Slots.{OnlySlot, OnlySlot-given, OnlySlot-owner, OnlySlot-page, OnlySlot-trans, cases_slot, owner-given, owner-set, owner-written, page-written}
use Rattle.shm_slots.specs.Cause.{GoesOn, total}
use Rattle.shm_slots.specs.Moving.{IsRelocated, Relocates, SameOwned, slot_owners}
use Rattle.shm_slots.specs.View.{AfterWriteFault, HasSlot, IsArea, IsFirstFree, IsSwap, OneArea, SameSlots, SwapView, area_at, owner_of, page_in, sizes, used_slots, with_calls_at, with_slot_owner, with_slot_page, without_slot}

pub relocated : (page : PageRef) (from to : Slot) (s : SwapView) (bytes last : List ℕ) (calls : List SideCalls) → IsSwap s → IsSwap (with_slot_page (with_slot_owner s to (Some page)) to bytes calls) → HasSlot s from.area from.slot → IsFirstFree s (Some from.area) to
    → page_in s from.area from.slot ≡ bytes → IsRelocated page from to s (without_slot (with_slot_page (with_slot_owner s to (Some page)) to bytes calls) from last)
relocated page from to s bytes last calls swap sound has first is =
    let t : SwapView = with_slot_owner s to (Some page) in
    let u : SwapView = with_slot_page t to bytes calls in
    let v : SwapView = without_slot u from last in
    let taken : OnlySlot to s t = OnlySlot-owner to s (Some page) in
    let written : OnlySlot to t u = OnlySlot-page to t bytes calls in
    let given : OnlySlot from u v = OnlySlot-given from u last in
    let both : OnlySlot to s u = OnlySlot-trans to s t u taken written in
    let there : HasSlot t to.area to.slot = taken.has to first.there in
    let at : HasSlot u from.area from.slot = both.has from has in
    let ne : to ≢ from = λ e. first.outside (ap (λ (x : Slot). Some x.area) (sym e)) in
    record {
      first = first;
      has = λ k h. given.has k (both.has k h);
      owner = given.owners to ne ∙ owner-written to t bytes calls there ∙ owner-set to s (Some page) first.there.0 (omega (arith, first.there.1, (swap.each to.area).owned));
      bytes = given.pages to ne ∙ page-written to t bytes calls there ∙ sym is;
      gone = owner-given from u last at.0 (omega (arith, at.1, (sound.each from.area).owned));
      owners = λ k f n. given.owners k f ∙ both.owners k n;
      pages = λ k f n. given.pages k f ∙ both.pages k n;
    }

-- the write failed, and the new slot was given back
pub relocated-not : (page : PageRef) (from to : Slot) (s u : SwapView) (last : List ℕ) → ((i : ℕ) → IsArea (area_at s i)) → ((i : ℕ) → IsArea (area_at u i)) → IsFirstFree s (Some from.area) to
    → OneArea to.area (with_slot_owner s to (Some page)) u → AfterWriteFault to.slot (area_at (with_slot_owner s to (Some page)) to.area) (area_at u to.area) → SameOwned s (without_slot u to last)
relocated-not page from to s u last before after first one fault = grind (arith, nat_tests, common_steps, to.area, to.slot, first.there, owner-given, after, cases_slot, first.free)

-- what is so after a read of a slot was so before it
module _ (s u : SwapView) (kept : SameSlots s u) where
  owner-same : (area slot : ℕ) → owner_of u area slot ≡ owner_of s area slot
  owner-same area slot = ap (λ (owners : List (Option PageRef)). get_or owners slot None) (kept.owners area)

  page-same : (area slot : ℕ) → page_in u area slot ≡ page_in s area slot
  page-same area slot = ap (λ (pages : List (List ℕ)). get_or pages slot []) (kept.pages area)

  pub has-same : (k : Slot) → HasSlot s k.area k.slot → HasSlot u k.area k.slot
  has-same k has = rw (kept.areas, kept.pages k.area) has

  first-same : (left_out : Option ℕ) (k : Slot) → IsFirstFree u left_out k → IsFirstFree s left_out k
  first-same left_out k first = grind (arith, nat_tests, common_steps, owner-same, kept.areas, kept.pages, kept.owners, first.there, first.free, first.lowest, first.least)

  pub relocated-same : (page : PageRef) (from to : Slot) (t : SwapView) → IsRelocated page from to u t → IsRelocated page from to s t
  relocated-same page from to t is = record {
    first = first-same (Some from.area) to is.first;
    has = λ k has. is.has k (has-same k has);
    owner = is.owner;
    bytes = is.bytes ∙ page-same from.area from.slot;
    gone = is.gone;
    owners = λ k f n. is.owners k f n ∙ owner-same k.area k.slot;
    pages = λ k f n. is.pages k f n ∙ page-same k.area k.slot;
  }

  pub owned-same : (t : SwapView) → SameOwned u t → SameOwned s t
  owned-same t is = record {
    has = λ k has. is.has k (has-same k has);
    owners = λ k. is.owners k ∙ owner-same k.area k.slot;
    pages = λ k q own. is.pages k q (owner-same k.area k.slot ∙ own) ∙ page-same k.area k.slot;
  }

-- the slots that are owned, after a call that changed nothing but the calls
pub used-read : (s : SwapView) (area : ℕ) (calls : List SideCalls) → area < length s.areas → used_slots (with_calls_at s area calls) ≡ used_slots s
used-read s area calls lt = grind (arith, nat_tests, common_steps, sum_by-set, s.areas, area)

-- a page that was read, and then moved
pub relocates-read : (page : PageRef) (from : Slot) (s u t : SwapView) (r : Result Slot PagerFault)
    → total u ≡ total s → SameSlots s u → GoesOn s u → sizes u ≡ sizes s → Relocates page from u t r → Relocates page from s t r
relocates-read page from s u t r count kept goes same moved =
    let owners : slot_owners u ≡ slot_owners s = owners-kept s u kept in
    record {
      ok = IfOk-weaker r _ _ (λ to o. relocated-same s u kept page from to t o) moved.ok;
      owners = rw (← owners) moved.owners;
      err = IfErr-weaker r _ _ (λ _ o. owned-same s u kept t o) moved.err;
      same = rw (← owners) moved.same;
      failures = failures-after (is_ok r) s u t count moved.failures;
      goes_on = GoesOn-trans s u t goes moved.goes_on;
      same_sizes = moved.same_sizes ∙ same;
      sound = moved.sound;
    }
