use Rattle.shm_program.proofs.Names.{rules, sym, subst, Consumes, Consumes-nil}
use Rattle.shm_program.proofs.ends.read_input.Goals as goal

pub loop-init : goal.loop-init
loop-init g c = record {
  taken = subst (Consumes _ _) (sym c.new-input.ensures.items) (Consumes-nil _);
  short = search rules;
}
