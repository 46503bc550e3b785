use Rattle.shm_print.proofs.words.KeyDisplay.fmt.Goals as goal

pub returns-clause-writes : goal.returns-clause-writes
returns-clause-writes g c = rw (c.laid_out.ensures, c.in_radix.ensures) at c.write.ensures.writes
