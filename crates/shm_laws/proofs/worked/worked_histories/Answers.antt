use Rattle.shm_laws.proofs.Names.{true, refl, opening, a_store_fails, two_go, three, others_read, two_write, stores_own, one_key, one_remaps}
use Rattle.shm_laws.proofs.Computing.{legal}
use Rattle.shm_laws.proofs.worked.worked_histories.Goals as goal

pub returns : goal.returns
returns c =
    record {
      replay = (legal opening a_store_fails (refl, (refl, (refl, (refl, (refl, refl))))), refl);
      removal = (legal opening two_go (refl, (refl, (refl, (refl, (refl, (refl, (refl, (refl, (refl, (refl, refl)))))))))), refl, refl, refl, refl, refl, refl);
      pieces = (refl, refl, refl, refl, refl, refl);
      permission = (legal three others_read (refl, (refl, (refl, (refl, (refl, (refl, (refl, (refl, (refl, refl))))))))), refl, refl, refl, refl, refl);
      isolation = (legal opening (stores_own 5) (refl, (refl, (refl, (refl, (refl, (refl, (refl, (refl, refl)))))))), legal opening (stores_own 6) (refl, (refl, (refl, (refl, (refl, (refl, (refl, (refl, refl)))))))), refl, refl, refl, refl);
      keys = (legal opening one_key (refl, (refl, (refl, (refl, (refl, (refl, refl)))))), refl, refl, refl);
      size = (refl, refl, refl);
      spaces = (legal opening one_remaps (refl, (refl, (refl, (refl, (refl, refl))))), refl);
      writing = (legal opening two_write (refl, (refl, (refl, (refl, (refl, (refl, (refl, (refl, (refl, (refl, (refl, (refl, (refl, refl))))))))))))), (true, refl), (true, refl), (true, refl), refl, refl, refl, refl, refl, refl);
    }
