use Rattle.shm_program.proofs.Names.{◌≤◌, length, Consumes}
use Rattle.shm_program.proofs.ends.read_input.Given as goal

-- what was read so far
abbrev pub invariant-loop : goal.invariant-loop
invariant-loop g l = record {
  taken : Consumes (g.R.Read.remaining l.initial.reader) (g.R.Read.remaining l.reader) l.input.items;
  short : length l.input.items ≤ 1048576;
}
