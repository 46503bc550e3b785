use Rattle.shm_attach.proofs.Names.{◌≡◌, ℕ, ◌+◌, ◌-◌, ◌*◌, ◌%◌, ◌≤◌, length, runners_view, pieces_at, most_at, protects_from, protected_between, AreNow, noted}
use Rattle.shm_attach.proofs.mapping.protect_range.Given as goal

-- enough pages are left, and their result gives the final one
abbrev pub invariant-loop-at : goal.invariant-loop-at
invariant-loop-at l =
    record {
      left : ℕ;
      enough : l.to ≤ l.at + 4096 * left;
      page : l.at % 4096 ≡ 0;
      whole : noted l.lost.segments (protects_from left (most_at l.initial.processes.entries l.index) l.writable l.to l.at (pieces_at (runners_view l.processes.entries) l.index))
          ≡ protected_between l.initial.processes.entries l.index l.writable l.from l.to;
      now : AreNow l.initial.processes.entries l.processes.entries l.initial.tables l.tables l.index (pieces_at (runners_view l.processes.entries) l.index);
      few : length l.lost.segments ≤ length (pieces_at (runners_view l.processes.entries) l.index);
      room : length l.lost.segments ≤ l.lost.most;
      most : l.lost.most ≡ l.initial.lost.most;
    }

abbrev pub decreases-loop-at : goal.decreases-loop-at
decreases-loop-at l = l.to - l.at
