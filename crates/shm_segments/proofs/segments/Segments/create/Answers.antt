use Rattle.shm_segments.proofs.Names.{◌≡◌, pos, List, refl, Some, sym, ap, ◌∙◌, arith, to_z, of_z, w32, pages_of, reserved, with_row, with_zeros, with_seg, StoreView, held, find-zeros_same, find_key-absent, whole, common_steps, is_some, rules, FlatEntry, subst, ℤ, joined_table, AreSegmentsSound, ◌+◌}
use Rattle.shm_segments.proofs.Rows.{id_of}
use Rattle.shm_segments.proofs.Looking.{next-joined}
use Rattle.shm_segments.proofs.Making.{kept-made, made-joined, IsNext, next-free}
use Rattle.shm_segments.proofs.Staying.{moves-added, moves-refl}
use Rattle.shm_segments.proofs.Sums.{reserved-joined}
use Rattle.shm_segments.proofs.Remembered.{undone, memory-zeros}
use Rattle.shm_segments.proofs.segments.Segments.create.Given.{Over}
use Rattle.shm_segments.proofs.segments.Segments.create.Goals as goal
use Rattle.shm_segments.proofs.segments.Segments.create.Goals.{After-self, In_ok-add_segment, In-Ok, After-drop_segment}

-- the identifier is the next one, as the store takes it
next : (g : Over) (c : After-self g) → IsNext (held c.self.inside.store) c.self.inside.table (to_z w32 (of_z w32 c.args.id))
next g c =
    let signed : to_z w32 (of_z w32 c.args.id) ≡ c.args.id = search rules in
    rw signed (next-free _ _ c.args.id c.self.invariant.kept.agree (sym (rw (← c.self.view_is, next-joined) at c.requires.next)))

pub add_segment-requires-clause-new : goal.add_segment-requires-clause-new
add_segment-requires-clause-new g c =
    let n = next g (goal.at.add_segment-requires-clause-new g c).After-self in
    rw n.is n.free

pub add_segment-requires-clause-room : goal.add_segment-requires-clause-room
add_segment-requires-clause-room g c = grind (arith, common_steps, c.self.invariant.kept, c.self.view_is, c.requires.room, reserved-joined)

pub insert_at-requires-clause-next : goal.insert_at-requires-clause-next
insert_at-requires-clause-next g c =
    let n = next g (goal.at.insert_at-requires-clause-next g c).After-self in
    rw (n.found, n.is) refl

pub insert_at-requires-clause-absent : goal.insert_at-requires-clause-absent
insert_at-requires-clause-absent g c = find_key-absent (whole (held c.self.inside.store)) (λ id r. refl) c.self.inside.table c.args.key (rw (← c.self.view_is) at c.requires.absent)

-- zeros are held under it
zeros : (g : Over) (c : In_ok-add_segment g) (n : IsNext (held c.self.inside.store) c.self.inside.table (to_z w32 (of_z w32 c.args.id)))
    → held c.add_segment.new.self ≡ with_zeros (held c.self.inside.store) (id_of c.self.inside.table n.i) (pages_of c.args.head.size)
zeros g c n = rw (n.is, c.pages_of-pages.ensures.value) at c.in_ok-add_segment.ensures.held

pub drop_segment-requires : goal.drop_segment-requires
drop_segment-requires g c =
    let at = goal.at.drop_segment-requires g c in
    let n = next g at.After-self in
    record { there = rw (zeros g at.In_ok-add_segment n, n.is) (ap is_some (find-zeros_same (held c.self.inside.store) (id_of c.self.inside.table n.i) (pages_of c.args.head.size) n.new)) }

-- what was added is dropped again
dropped : (g : Over) (c : After-drop_segment g) (n : IsNext (held c.self.inside.store) c.self.inside.table (to_z w32 (of_z w32 c.args.id))) → c.drop_segment.new.self ≡ c.self.inside.store
dropped g c n =
    let s = c.self.inside.store in
    let id = id_of c.self.inside.table n.i in
    let pages = pages_of c.args.head.size in
    let rest : c.add_segment.new.self ≡ record s { segs = with_seg s.segs id pages } = rw (n.is, c.pages_of-pages.ensures.value) at c.in_ok-add_segment.ensures.rest in
    undone s c.add_segment.new.self c.drop_segment.new.self id pages c.self.invariant.sound n.new rest (rw n.is at c.drop_segment.ensures.blank)

pub invariant_of-self-in-Err : goal.invariant_of-self-in-Err
invariant_of-self-in-Err g c =
    let at = goal.at.invariant_of-self-in-Err g c in
    rw (dropped g at.After-drop_segment (next g at.After-self), c.in-Err.ensures.kept.1) c.self.invariant

pub returns-in-Err-clause-err : goal.returns-in-Err-clause-err
returns-in-Err-clause-err g c =
    let at = goal.at.returns-in-Err-clause-err g c in
    rw (dropped g at.After-drop_segment (next g at.After-self), c.in-Err.ensures.kept.1) c.self.view_is

pub returns-in-Err-clause-still : goal.returns-in-Err-clause-still
returns-in-Err-clause-still g c =
    let at = goal.at.returns-in-Err-clause-still g c in
    rw (dropped g at.After-drop_segment (next g at.After-self), ← c.self.view_is) (λ s page. refl)

pub overflow_add-self : goal.overflow_add-self
overflow_add-self g c = grind (arith, common_steps, reserved, reserved-joined)

-- the row is there
row : (g : Over) (c : In-Ok g) (n : IsNext (held c.self.inside.store) c.self.inside.table (to_z w32 (of_z w32 c.args.id))) → c.insert_at.new.self ≡ with_row c.self.inside.table n.i c.args.key c.args.head
row g c n = grind (arith, common_steps, n.found, c.in-Ok.ensures.ok)

pub invariant_of-self-in-Ok : goal.invariant_of-self-in-Ok
invariant_of-self-in-Ok g c =
    let at = goal.at.invariant_of-self-in-Ok g c in
    let n = next g at.After-self in
    let k = kept-made (held c.self.inside.store) c.self.inside.table c.self.inside.reserved c.self.inside.locked n.i c.args.key c.args.head c.self.invariant.kept n.found c.requires.loose c.requires.size in
    let sound = rw (← zeros g at.In_ok-add_segment n, ← row g at.In-Ok n) at k.kept in
    record { kept = subst (λ pages. AreSegmentsSound (held c.add_segment.new.self) c.insert_at.new.self (c.self.inside.reserved + pages) c.self.inside.locked) (sym c.pages_of-pages.ensures.value) sound; sound = c.add_segment.ensures.sound }

pub returns-in-Ok-clause-ok : goal.returns-in-Ok-clause-ok
returns-in-Ok-clause-ok g c =
    let at = goal.at.returns-in-Ok-clause-ok g c in
    let n = next g at.After-self in
    let k = kept-made (held c.self.inside.store) c.self.inside.table c.self.inside.reserved c.self.inside.locked n.i c.args.key c.args.head c.self.invariant.kept n.found c.requires.loose c.requires.size in
    let signed : to_z w32 (of_z w32 c.args.id) ≡ c.args.id = search rules in
    let table : List FlatEntry = joined_table (with_zeros (held c.self.inside.store) (id_of c.self.inside.table n.i) (pages_of c.args.head.size)) (with_row c.self.inside.table n.i c.args.key c.args.head) in
    rw (← c.self.view_is, zeros g at.In_ok-add_segment n, row g at.In-Ok n)
    (made-joined (held c.self.inside.store) c.self.inside.table n.i c.args.key c.args.head n.found ∙ ap (λ (t : List FlatEntry). Some (pos (id_of c.self.inside.table n.i), t)) (sym k.is) ∙ ap (λ (id : ℤ). Some (id, table)) (sym n.is ∙ signed))

pub returns-in-Ok-clause-keeps : goal.returns-in-Ok-clause-keeps
returns-in-Ok-clause-keeps g c =
    let at = goal.at.returns-in-Ok-clause-keeps g c in
    let n = next g at.After-self in
    let rest = c.in_ok-add_segment.ensures.rest in
    rw (← c.self.view_is)
    (memory-zeros c.self.inside.store c.add_segment.new.self (id_of c.self.inside.table n.i) (pages_of c.args.head.size) n.new (zeros g at.In_ok-add_segment n) (ap (λ (v : StoreView). v.swap) rest) (ap (λ (v : StoreView). v.frames) rest) c.add_segment.ensures.still)

-- pages that are nowhere were added
added : (g : Over) (c : In_ok-add_segment g) (n : IsNext (held c.self.inside.store) c.self.inside.table (to_z w32 (of_z w32 c.args.id)))
    → c.add_segment.new.self ≡ record c.self.inside.store { segs = with_seg c.self.inside.store.segs (id_of c.self.inside.table n.i) (pages_of c.args.head.size) }
added g c n = rw (n.is, c.pages_of-pages.ensures.value) at c.in_ok-add_segment.ensures.rest

pub returns-in-Ok-clause-moves : goal.returns-in-Ok-clause-moves
returns-in-Ok-clause-moves g c =
    let at = goal.at.returns-in-Ok-clause-moves g c in
    let n = next g at.After-self in
    rw (← c.self.view_is)
    (moves-added c.self.inside.store c.add_segment.new.self (id_of c.self.inside.table n.i) (pages_of c.args.head.size) c.self.invariant.sound n.new (added g at.In_ok-add_segment n))

pub returns-in-Err-clause-moves : goal.returns-in-Err-clause-moves
returns-in-Err-clause-moves g c =
    let at = goal.at.returns-in-Err-clause-moves g c in
    rw (dropped g at.After-drop_segment (next g at.After-self), ← c.self.view_is) (moves-refl c.self.inside.store)

pub returns-in_err-add_segment-clause-moves : goal.returns-in_err-add_segment-clause-moves
returns-in_err-add_segment-clause-moves g c = rw (← c.self.view_is, c.in_err-add_segment.ensures.err) (moves-refl c.self.inside.store)
