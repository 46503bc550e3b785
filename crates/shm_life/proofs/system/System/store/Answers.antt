use Rattle.shm_life.proofs.Names.{arith, rules, pages_in_store-is}
use Rattle.shm_life.proofs.system.System.store.Goals as goal

pub returns-clause-exact : goal.returns-clause-exact
returns-clause-exact g c =
    let k = c.kernel.invariant.0.kept in
    let e = c.store.ensures.exact in
    let pages = pages_in_store-is c.kernel.inside.segments.memory e.sound in
    rw (← c.self.view_is, ← c.kernel.view_is)
    record {
      sound = e.sound;
      shows = e.shows;
      areas = search rules;
      frames = c.kernel.invariant.0.frames;
      used = omega (arith, e.sound.few_used, pages, e.pages);
      room = omega (arith, e.sound.capacity, pages, e.pages);
      reserved = k.reserved;
      shmall = k.shmall;
      locked = k.locked;
      processes = k.processes;
    }
