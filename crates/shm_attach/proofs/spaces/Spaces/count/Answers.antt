use Rattle.shm_attach.proofs.Names.{◌∙◌, sym}
use Rattle.shm_attach.proofs.Translations.{unnamed}
use Rattle.shm_attach.proofs.spaces.Spaces.count.Goals as goal

pub returns-clause-unnamed : goal.returns-clause-unnamed
returns-clause-unnamed c = λ none.
    rw (← c.self.view_is) (unnamed c.args.seg c.self.inside.tables c.self.invariant.0.tied (sym c.count.ensures ∙ none))
