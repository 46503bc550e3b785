use Rattle.shm_attach.proofs.Names.{arith, bare, bare_all, lowest_address, covering_low}
use Rattle.shm_attach.proofs.mapping.low_end.Goals as goal

pub overflow_sub-at : goal.overflow_sub-at
overflow_sub-at c =
    let low = covering_low c.args.at lowest_address (bare_all c.args.space.now.pieces) (bare c.args.piece.now) c.requires.arranged c.requires.piece in
    omega (arith, low, c.requires.within.from)
