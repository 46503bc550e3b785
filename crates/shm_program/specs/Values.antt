-- The variables of all processes while the lines of a script run.
use Rattle.std.specs.Prelude.{ℕ, ◌==◌, if◌then◌else◌, List, [], ◌∷◌, Option}
use Rattle.shm_base.specs.declared.call.Process.{Process}
use Rattle.shm_base.specs.declared.call.Reply.{Reply}
use Rattle.shm_text.specs.Form.{CommandView}
use Rattle.shm_text.specs.Variables.{no_values, values_after}

-- a process with its variables
pub record HolderView : Type 0 where
  pub pid : ℕ
  pub values : List (Option ℕ)

abbrev pub fresh_holder : Process → HolderView
fresh_holder p = record { pid = p.pid; values = no_values }

-- the variables of a process
abbrev pub values_of : List HolderView → ℕ → List (Option ℕ)
values_of [] pid = no_values
values_of (h ∷ hs) pid = if h.pid == pid then h.values else values_of hs pid

-- the variables of all processes, with these for one of them
abbrev pub with_values : List HolderView → ℕ → List (Option ℕ) → List HolderView
with_values [] pid values = []
with_values (h ∷ hs) pid values = if h.pid == pid then record { pid = h.pid; values = values } ∷ hs else h ∷ with_values hs pid values

-- the variables of all processes after the reply to a line
abbrev pub with_answer : List HolderView → CommandView → Option Reply → List HolderView
with_answer hs c reply = with_values hs c.pid (values_after (values_of hs c.pid) c.var reply)
