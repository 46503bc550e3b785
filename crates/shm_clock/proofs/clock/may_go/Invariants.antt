use Rattle.shm_clock.proofs.clock.may_go.Given as goal

abbrev pub ghost-passes : goal.ghost-passes
ghost-passes g a = g.passes
