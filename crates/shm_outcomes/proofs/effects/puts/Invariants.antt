use Rattle.shm_outcomes.proofs.Names.{◌≡◌, ◌+◌, drop, puts}
use Rattle.shm_outcomes.proofs.effects.puts.Given as goal

abbrev pub invariant-loop-byte : goal.invariant-loop-byte
invariant-loop-byte g l = record {
  at : l.addr ≡ l.patch.addr + l.byte-index;
  left : puts (g.M.Engine.flat l.machine) l.pid l.patch.addr l.patch.bytes l.writes.value.items
      ≡ puts (g.M.Engine.flat l.machine) l.pid l.addr (drop l.byte-index l.patch.bytes) l.all.value.items;
}
