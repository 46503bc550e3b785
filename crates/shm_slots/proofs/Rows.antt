-- The owners of slots, by area, after each change.
-- the owners of slots
use Rattle.std.proofs.Common.{arith, List, Option, Some, ℕ, None, ap, get_or, get_or-set_same, length, map, refl, set, set-set, sym, ◌<◌, ◌∙◌, ◌≡◌, []}
use Rattle.std.proofs.Math.ListN.{get_or-map}
use Rattle.std.proofs.Math.Seq.{map-set_same}
use Rattle.std.proofs.lemmas.List.{ext_get_or, length-map, map-set, set-get_or}
use Rattle.std.proofs.lemmas.Grind.{common_steps}
use Rattle.shm_base.specs.declared.paging.PageRef.{PageRef}
use Rattle.shm_base.specs.declared.paging.Slot.{Slot}
use Rattle.shm_pager_core.specs.Pages.{SideCalls}
use Rattle.shm_slots.specs.Moving.{area_owners, own_slot, slot_owners}
use Rattle.shm_slots.specs.View.{AreaView, SwapView, AfterWriteFault, IsArea, IsFirstFree, OneArea, SameSlots, area_at, no_area, with_slot_owner, with_slot_page, without_slot}

pub owners-at : (swap : SwapView) (area : ℕ) → get_or (slot_owners swap) area [] ≡ (area_at swap area).owners
unfolding slot_owners
owners-at swap area = get_or-map area_owners swap.areas area no_area

pub length-owners : (swap : SwapView) → length (slot_owners swap) ≡ length swap.areas
unfolding slot_owners
length-owners swap = length-map swap.areas area_owners

pub owners-set : (swap : SwapView) (k : Slot) (owner : Option PageRef) → slot_owners (with_slot_owner swap k owner) ≡ own_slot (slot_owners swap) k owner
unfolding slot_owners
owners-set swap k owner =
    let a : AreaView = record (area_at swap k.area) { owners = set (area_at swap k.area).owners k.slot owner } in
    rw (owners-at swap k.area) (map-set area_owners swap.areas k.area a)

pub owners-page : (swap : SwapView) (k : Slot) (page : List ℕ) (calls : List SideCalls) → slot_owners (with_slot_page swap k page calls) ≡ slot_owners swap
unfolding slot_owners
owners-page swap k page calls = map-set_same area_owners swap.areas k.area _ no_area refl

pub owners-without : (swap : SwapView) (k : Slot) (page : List ℕ) → slot_owners (without_slot swap k page) ≡ own_slot (slot_owners swap) k None
unfolding slot_owners
owners-without swap k page = rw (owners-at swap k.area) (map-set area_owners swap.areas k.area _)

pub owners-fault : (swap u : SwapView) (k : Slot) → OneArea k.area swap u → AfterWriteFault k.slot (area_at swap k.area) (area_at u k.area) → slot_owners u ≡ slot_owners swap
unfolding slot_owners
owners-fault swap u k one fault =
    let same : (area_at u k.area).owners ≡ (area_at swap k.area).owners = ap (λ (a : AreaView). a.owners) fault.0 in
    let areas : u.areas ≡ set swap.areas k.area (area_at u k.area) = ap (λ (v : SwapView). v.areas) one in
    ap (map area_owners) areas ∙ map-set_same area_owners swap.areas k.area (area_at u k.area) no_area same

pub owners-kept : (swap u : SwapView) → SameSlots swap u → slot_owners u ≡ slot_owners swap
unfolding slot_owners
owners-kept swap u kept =
    ext_get_or [] (map area_owners u.areas) (map area_owners swap.areas) (length-map u.areas area_owners ∙ kept.areas ∙ sym (length-map swap.areas area_owners))
    (λ i lt. owners-at u i ∙ kept.owners i ∙ sym (owners-at swap i))

-- a slot that was given an owner and given back
own-back : (rows : List (List (Option PageRef))) (k : Slot) (x : Option PageRef) → k.area < length rows → k.slot < length (get_or rows k.area []) → get_or (get_or rows k.area []) k.slot None ≡ None → own_slot (own_slot rows k x) k None ≡ rows
own-back rows k x area slot free = grind (arith, common_steps, set-set, set-get_or, get_or-set_same)

pub owners-moved : (s : SwapView) (page : PageRef) (from to : Slot) (bytes last : List ℕ) (calls : List SideCalls)
    → slot_owners (without_slot (with_slot_page (with_slot_owner s to (Some page)) to bytes calls) from last) ≡ own_slot (own_slot (slot_owners s) to (Some page)) from None
owners-moved s page from to bytes last calls =
    let t = with_slot_owner s to (Some page) in
    let same : slot_owners (with_slot_page t to bytes calls) ≡ own_slot (slot_owners s) to (Some page) = owners-page t to bytes calls ∙ owners-set s to (Some page) in
    owners-without (with_slot_page t to bytes calls) from last ∙ ap (λ rows. own_slot rows from None) same

pub owners-back : (s u : SwapView) (page : PageRef) (left_out : Option ℕ) (to : Slot) (last : List ℕ) → ((area : ℕ) → IsArea (area_at s area)) → IsFirstFree s left_out to
    → OneArea to.area (with_slot_owner s to (Some page)) u → AfterWriteFault to.slot (area_at (with_slot_owner s to (Some page)) to.area) (area_at u to.area) → slot_owners (without_slot u to last) ≡ slot_owners s
owners-back s u page left_out to last each first one fault =
    let t = with_slot_owner s to (Some page) in
    let same : slot_owners u ≡ own_slot (slot_owners s) to (Some page) = owners-fault t u to one fault ∙ owners-set s to (Some page) in
    let row = owners-at s to.area in
    owners-without u to last ∙ ap (λ rows. own_slot rows to None) same
    ∙ own-back (slot_owners s) to (Some page) (rw (length-owners s) first.there.0) (rw (row, (each to.area).owned) first.there.1) (rw row first.free)
