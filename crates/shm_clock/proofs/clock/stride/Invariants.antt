use Rattle.shm_clock.proofs.clock.stride.Given as goal

abbrev pub ghost-next_passing : goal.ghost-next_passing
ghost-next_passing g a = g.passes

abbrev pub ghost-passes : goal.ghost-passes
ghost-passes g a = g.passes
