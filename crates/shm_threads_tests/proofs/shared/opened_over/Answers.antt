use Rattle.shm_threads_tests.proofs.Opened.{opens}
use Rattle.shm_threads_tests.proofs.shared.opened_over.Goals as goal

pub returns : goal.returns
returns g c = rw (← c.script.view_is) (opens _ _ _ c.in_ok-system.system c.new.result (rw c.deref.ensures.value at c.in_ok-system.ensures.started) (rw c.deref.ensures.value at c.in_ok-system.ensures.ok) c.new.ensures.opening c.new.ensures.events)
