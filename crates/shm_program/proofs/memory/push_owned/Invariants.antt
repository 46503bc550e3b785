use Rattle.shm_program.proofs.Names.{◌≡◌, ◌++◌, length, drop, string_bytes, numbered, frame_line}
use Rattle.shm_program.proofs.memory.push_owned.Given as goal

-- the lines so far, and then those of the frames that are left
abbrev pub invariant-loop-frame : goal.invariant-loop-frame
invariant-loop-frame l = record {
  whole : string_bytes l.text ++ numbered frame_line l.frame (drop l.frame l.frames) ≡ string_bytes l.fn.text ++ numbered frame_line 0 l.frames;
  last : l.frame-end ≡ length l.frames;
}
