use Rattle.shm_attach.proofs.Names.{arith}
use Rattle.shm_attach.proofs.Sound.{none_reserved, counts-small}
use Rattle.shm_attach.proofs.mapping.renew.Goals as goal

pub replace-requires-clause-fits : goal.replace-requires-clause-fits
replace-requires-clause-fits c =
    let es = c.args.processes.now.entries in
    omega (arith, counts-small es c.args.tables.now (none_reserved es c.args.tables.now c.requires.sound) c.args.part.seg)

pub returns : goal.returns
returns c =
    record {
      runners = c.exchange.ensures.runners;
      count = c.exchange.ensures.count;
      most = c.exchange.ensures.most;
      sound = c.exchange.ensures.sound;
      translated = λ at all. c.exchange.ensures.translated at (c.replace.ensures.translated at all);
    }
