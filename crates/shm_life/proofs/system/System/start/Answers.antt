use Rattle.std.proofs.Common.{◌∙◌, sym, inl, inr, refl}
use Rattle.shm_life.proofs.system.System.start.Goals as goal

pub returns-in-Some-clause-err : goal.returns-in-Some-clause-err
returns-in-Some-clause-err g c = inl (sym (rw c.deref.ensures.value at c.in-Some.ensures))

pub returns-in-Err-clause-err : goal.returns-in-Err-clause-err
returns-in-Err-clause-err g c = inr (refl, sym (rw c.deref.ensures.value at c.first_error.ensures) ∙ c.in_default.is)
