use Rattle.shm_clock.proofs.clock.victim.Given as goal

abbrev pub ghost-turn : goal.ghost-turn
ghost-turn g a = g.passes
