use Rattle.std.proofs.Common.{◌<◌, length, sym, ◌∙◌, arith}
use Rattle.std.proofs.lemmas.List.{get_or_read}
use Rattle.shm_base.specs.Page.{zero_page}
use Rattle.shm_frames.proofs.Shown.{shown, bytes-shown, owned-there}
use Rattle.shm_frames.proofs.frames.Frames.bytes.Goals as goal

pub index-page-requires : goal.index-page-requires
index-page-requires c =
    let at = owned-there (shown c.self.inside c.self.invariant.0 c.self.view_is) c.args.frame c.requires.owned in
    omega (arith, at, c.self.invariant.0.beside)

pub returns-clause-value : goal.returns-clause-value
returns-clause-value c =
    let s = shown c.self.inside c.self.invariant.0 c.self.view_is in
    let at : c.args.frame < length c.self.inside.pages.items = rw c.self.invariant.0.beside (owned-there s c.args.frame c.requires.owned) in
    get_or_read c.self.inside.pages.items c.args.frame c.index-page.result.now at c.index-page.ensures zero_page
    ∙ sym (bytes-shown s c.args.frame c.requires.there)
