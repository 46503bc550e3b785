use Rattle.shm_program.proofs.Names.{◌≡◌, ◌++◌, drop, string_bytes, processes_text}
use Rattle.shm_program.proofs.processes.push_processes.Given as goal

-- the lines so far, and then those of the processes that are left
abbrev pub invariant-loop-process : goal.invariant-loop-process
invariant-loop-process l = string_bytes l.text ++ processes_text l.spaces.runners (drop l.process-index l.processes) ≡ string_bytes l.fn.text ++ processes_text l.spaces.runners l.processes
