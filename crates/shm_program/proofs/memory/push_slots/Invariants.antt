use Rattle.shm_program.proofs.Names.{◌≡◌, ◌++◌, length, drop, string_bytes, numbered, slot_line}
use Rattle.shm_program.proofs.memory.push_slots.Given as goal

-- the lines so far, and then those of the slots that are left
abbrev pub invariant-loop-slot : goal.invariant-loop-slot
invariant-loop-slot l = record {
  whole : string_bytes l.text ++ numbered (slot_line l.area) l.slot (drop l.slot l.owners) ≡ string_bytes l.fn.text ++ numbered (slot_line l.area) 0 l.owners;
  last : l.slot-end ≡ length l.owners;
}
