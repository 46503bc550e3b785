-- The next call of a strand that can continue.
use Rattle.shm_threads.proofs.Names.{◌≡◌, ◌<◌, ◌+◌, ℕ, true, List, length, ap, arith, subst, sym, ◌∙◌, get_or, WorldState, ScriptView, IsWithin, IsProcessAt, IsRunning, can_go, pid_of_strand, commands_of, Strand}
use Rattle.shm_threads.proofs.Turns.{as-long, has-line, pid-at}

module _ (script : ScriptView) (start w : WorldState) (ss : List Strand) (made k : ℕ) (s : Strand) (running : IsRunning script start w ss made) (lt : k < length ss) (here : s ≡ get_or ss k s) where
  -- it is of the process at its index
  pub at-process : IsProcessAt script.processes k s.pid
  at-process =
      let less : k < length script.processes = omega (arith, lt, as-long ss script.processes running.listed) in
      (less, λ d. sym (pid-at ss script.processes running.listed k s d lt) ∙ ap pid_of_strand (sym here))

  -- and has a line
  pub within-lines : can_go w.machine (get_or ss k s) ≡ true → IsWithin (length s.entries.items + 1) (length (commands_of s.pid script.lines))
  within-lines go =
      let can : can_go w.machine s ≡ true = subst (λ (x : Strand). can_go w.machine x ≡ true) (sym here) go in
      let line = has-line w.machine s can in
      let same : s.lines ≡ length (commands_of s.pid script.lines) = subst (λ (x : Strand). x.lines ≡ length (commands_of x.pid script.lines)) (sym here) (running.each k s lt).lines in
      (omega arith, omega (arith, line, same))
