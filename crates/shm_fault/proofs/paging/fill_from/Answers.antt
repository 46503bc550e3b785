use Rattle.shm_fault.proofs.Names.{arith, common_steps}
use Rattle.shm_fault.proofs.paging.fill_from.Goals as goal

pub returns-in-Some : goal.returns-in-Some
returns-in-Some g c =
    let read = c.read_slot.ensures in
    record {
      frames = grind (arith, common_steps);
      bytes = grind (arith, common_steps);
      swap = rw c.in-Some.is read.ok;
      kept = read.kept;
      slot = grind (arith, common_steps);
      failures = read.failures;
      goes_on = read.goes_on;
      sizes = read.sizes;
      sound = λ swap. read.sound;
    }
