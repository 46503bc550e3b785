use Rattle.shm_threads.proofs.Names.{◌≡◌, ◌≤◌, ◌+◌, ◌++◌, Bool, List, length, drop, CommandView, Adds, GoTo, RunsLines, asks_of, commands_of}
use Rattle.shm_threads.proofs.worker.run_lines.Given as goal

-- the commands so far and those of the lines that are left are all, and what is asked for these makes, with what was asked, the whole
abbrev pub invariant-loop-line : goal.invariant-loop-line
invariant-loop-line g l =
    let left = commands_of l.pid (drop l.line-index l.lines) in record {
      same : g.C.Caller.lines l.caller ≡ commands_of l.pid l.lines;
      before : (before : List CommandView) × (length before ≡ l.n) × (before ++ left ≡ commands_of l.pid l.lines);
      few : l.n ≤ l.line-index;
      asked : (steps : List Bool) (whole : Bool) (end : _) → GoTo (length left) steps whole
          → Adds (g.C.Caller.asked l.caller) (asks_of (l.n + 1) (length left) steps) (g.C.Caller.asked end)
          → RunsLines (g.C.Caller.asked l.fn.caller) (g.C.Caller.asked end) (length (commands_of l.pid l.lines)) whole;
    }
