use Rattle.shm_segments.proofs.Names.{sym, ◌∙◌, held}
use Rattle.shm_segments.proofs.Remembered.{shows-joined}
use Rattle.shm_segments.proofs.Sums.{reserved-joined}
use Rattle.shm_segments.proofs.segments.Segments.store.Goals as goal

pub returns-clause-exact : goal.returns-clause-exact
returns-clause-exact g c =
    let k = c.self.invariant.kept in
    rw (← c.self.view_is)
    (record {
      sound = c.self.invariant.sound;
      shows = shows-joined c.self.inside.store c.self.inside.table k.agree;
      pages = k.all_pages ∙ k.reserved ∙ sym (reserved-joined (held c.self.inside.store) c.self.inside.table k.agree);
    })
