use Rattle.shm_attach.proofs.Names.{refl, sym}
use Rattle.shm_attach.proofs.Tied.{true-unknown}
use Rattle.shm_attach.proofs.tables.Tables.set.Goals as goal

pub returns-in_default : goal.returns-in_default
returns-in_default c = record {
  counts = λ id. refl;
  tables = λ p has. has;
  translated = λ at all. true-unknown at c.args.page c.args.frame c.args.self.now c.requires (sym c.in_default.ensures) all;
  tied = c.requires;
}

pub set_at-requires-clause-own : goal.set_at-requires-clause-own
set_at-requires-clause-own c = c.requires.keyed c.args.page.seg c.in-Some.key (sym c.in-Some.ensures)
