use Rattle.shm_program.proofs.Names.{◌≡◌, ◌++◌, length, drop, string_bytes, lines_from, listing_of}
use Rattle.shm_program.proofs.lines.listing.Given as goal

-- the text and the lines of the indexes that are left make the listing
abbrev pub invariant-loop-index : goal.invariant-loop-index
invariant-loop-index g l = let m = l.world.machine in record {
  whole : string_bytes l.text ++ lines_from m l.index (drop l.index m.table) ≡ listing_of m;
  last : l.index-end ≡ length m.table;
}
