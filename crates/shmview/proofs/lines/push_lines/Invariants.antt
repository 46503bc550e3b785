use Rattle.std.proofs.Common.{◌≡◌, ◌+◌, List, ◌++◌, drop, map, string_bytes}
use Rattle.std.specs.Prelude.{All}
use Rattle.shm_history.specs.WorldState.{WorldState}
use Rattle.shm_program.specs.Running.{HaveRun, RunStep}
use Rattle.shm_program.specs.Values.{HolderView, fresh_holder}
use Rattle.shmview.specs.Record.{IsStepSound, steps_text}
use Rattle.shmview.proofs.lines.push_lines.Given as goal

-- if the lines that are left run from here, all lines have run, and the text has the records of all steps
abbrev pub invariant-loop-line : goal.invariant-loop-line
invariant-loop-line g l = record {
  ran : (more : List RunStep) (later : List HolderView) (end : WorldState) → HaveRun l.values l.world (drop l.line-index l.script.lines) more later end → All IsStepSound more
      → (all : List RunStep) × HaveRun (map fresh_holder l.script.processes) l.fn.world l.script.lines all later end × All IsStepSound all
      × (string_bytes l.text ++ steps_text l.steps l.number more ≡ string_bytes l.fn.text ++ steps_text l.steps 1 all);
  count : l.number ≡ l.line-index + 1;
}
