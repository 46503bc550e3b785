use Rattle.shm_fault.proofs.Names.{ℕ, arith, refl}
use Rattle.shm_fault.proofs.Visits.{none-of, one-of}
use Rattle.shm_fault.proofs.Places.{dirty-none}
use Rattle.shm_fault.proofs.store.PageStore.store_spans.Goals as goal

pub returns-in-empty : goal.returns-in-empty
returns-in-empty g c =
    rw (← none-of c.args.spans.now (omega (arith, c.in-empty.len_below))) (record {
      written = refl;
      bits = λ (f : ℕ). refl;
      placed = dirty-none c.args.self.now;
      rest = refl;
      count = refl;
      sound = c.requires.sound;
    })

pub returns-in-len1 : goal.returns-in-len1
returns-in-len1 g c = rw (← one-of c.args.spans.now (omega (arith, c.in-len1.len_at_least, c.in-len1.len_below))) c.store.ensures
