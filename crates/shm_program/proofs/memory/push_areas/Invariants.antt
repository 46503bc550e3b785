use Rattle.shm_program.proofs.Names.{◌≡◌, ◌++◌, length, drop, string_bytes, numbered, area_text}
use Rattle.shm_program.proofs.memory.push_areas.Given as goal

-- the lines so far, and then those of the areas that are left
abbrev pub invariant-loop-area : goal.invariant-loop-area
invariant-loop-area g l = record {
  whole : string_bytes l.text ++ numbered area_text l.area (drop l.area l.swap.areas) ≡ string_bytes l.fn.text ++ numbered area_text 0 l.swap.areas;
  last : l.area-end ≡ length l.swap.areas;
}
