use Rattle.shm_fault.proofs.Names.{IfOk-weaker, with_seg, ◌≡◌, ◌≤◌, ◌+◌, None, sum_by, arith, pages_in_store, swap_slots, find_seg, page_count, held, IsStoreSound, common_steps, nat_tests, ℕ, inl, inr, refl, locked_by, IsIndexFree, seen}
use Rattle.shm_fault.specs.Store.{frame_of}
use Rattle.shm_fault.proofs.Skipped.{locked-added, skipped-locks}
use Rattle.shm_fault.proofs.Counting.{either_way}
use Rattle.shm_fault.proofs.Whole.{not-held, pages_in_store-is, sound-added, held-added, rec-added}
use Rattle.shm_fault.proofs.store.PageStore.add_segment.Goals.{After-self, After-add}
use Rattle.shm_fault.proofs.store.PageStore.add_segment.Goals as goal

-- no segment has its index
free : (g : _) (c : After-self g) → IsIndexFree c.self.inside.segs c.args.seg
free g c = λ other same. not-held (seen c.self.inside) c.self.invariant.0 other (rw (← c.self.view_is) at (c.requires.new other same))

new : (g : _) (c : After-self g) → find_seg c.self.inside.segs c.args.seg ≡ None
new g c = free g c c.args.seg refl

sound : (g : _) (c : After-add g) → find_seg c.self.inside.segs c.args.seg ≡ None → IsStoreSound (record (seen c.self.inside) { segs = c.add.new.self })
sound g c none =
    let s = seen c.self.inside in
    let room₀ : pages_in_store (held s) + c.args.pages ≤ swap_slots s.swap = rw (← c.self.view_is) at c.requires.room in
    let room : sum_by page_count s.segs + c.args.pages ≤ swap_slots s.swap = rw (pages_in_store-is s c.self.invariant.0) at room₀ in
    grind (arith, sound-added s c.self.invariant.0 c.args.seg c.args.pages none room)

pub add-requires : goal.add-requires
add-requires g c = record { new = free g (goal.at.add-requires g c).After-self }

pub invariant_of-self : goal.invariant_of-self
invariant_of-self g c =
    let i = c.self.inside in
    let none = new g (goal.at.invariant_of-self g c).After-self in
    let locks : (id : ℕ) → locked_by c.add.new.self id ≡ locked_by i.segs id = λ id.
    elim (either_way c.add.result _ _ c.add.ensures.ok c.add.ensures.err) [ inl ok ↦ rw ok (locked-added i.segs c.args.seg c.args.pages id none) | inr err ↦ rw err refl ] in
    (sound g c none, skipped-locks i.segs c.add.new.self i.frames i.skips locks c.self.invariant.1)

pub returns-clause-sound : goal.returns-clause-sound
returns-clause-sound g c = sound g c (new g (goal.at.returns-clause-sound g c).After-self)

pub returns-clause-held : goal.returns-clause-held
returns-clause-held g c =
    let none = new g (goal.at.returns-clause-held g c).After-self in
    IfOk-weaker c.add.result (λ _. c.add.new.self ≡ with_seg c.self.inside.segs c.args.seg c.args.pages) _ (λ _ ok. rw (ok, ← c.self.view_is) (held-added (seen c.self.inside) c.self.invariant.0 c.args.seg c.args.pages none)) c.add.ensures.ok

pub returns-clause-still : goal.returns-clause-still
unfolding frame_of
returns-clause-still g c = λ seg page.
    let none = new g (goal.at.returns-clause-still g c).After-self in
    let rec = rec-added (seen c.self.inside) c.self.invariant.0 c.args.seg c.args.pages none (record { seg = seg; page = page }) in
    grind (arith, nat_tests, common_steps, either_way, c.add.result, c.add.ensures.ok, c.add.ensures.err, c.self.view_is, rec)
