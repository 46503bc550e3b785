use Rattle.shm_attach.proofs.Names.{List, ap, sym, subst, frame_of, moved, SpacesView, Translation, AreTrue, translations_of}
use Rattle.shm_attach.proofs.Residency.{true-same}
use Rattle.shm_attach.proofs.Translations.{all-true, true-all}
use Rattle.shm_attach.proofs.spaces.Spaces.note.Goals as goal

pub returns-clause-translated : goal.returns-clause-translated
returns-clause-translated c = λ m n old moves.
    let ms = c.args.moved.now in
    let new = c.note.new.self.slab in
    let own : AreTrue (translations_of c.self.inside.tables.slab) m = subst (λ (xs : List Translation). AreTrue xs m) (sym (ap (λ (v : SpacesView). v.translations) c.self.view_is)) old in
    let after = c.note.ensures.translated (frame_of m) (all-true (frame_of m) c.self.inside.tables.slab own) in
    true-all (frame_of n) new
    (true-same (λ seg page. moved ms seg page (frame_of m seg page)) (frame_of n) new (λ seg page. sym (moves seg page)) after)
