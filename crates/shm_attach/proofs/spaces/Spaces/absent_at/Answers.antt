use Rattle.shm_attach.proofs.Names.{◌≡◌, ap, sym, subst, arith, common_steps, List, frame_of, SpacesView, Translation, AreTrue, bare_all, pieces_by}
use Rattle.shm_attach.proofs.Callers.{caller_within}
use Rattle.shm_attach.proofs.Translations.{all-true}
use Rattle.shm_attach.proofs.spaces.Spaces.absent_at.Goals as goal

pub space_at-space-requires : goal.space_at-space-requires
space_at-space-requires c = caller_within c.in_ok-caller.caller c.self.inside.processes.entries (rw (← c.self.view_is) at c.in_ok-caller.ensures.live)

pub returns : goal.returns
returns c = λ m old.
    let own : bare_all c.space_at-space.result.now.pieces ≡ pieces_by c.args.pid c.args.self.now.runners = grind (arith, common_steps) in
    let shown = ap (λ (v : SpacesView). v.translations) c.self.view_is in
    rw own at
    c.absent_in.ensures (frame_of m) (all-true (frame_of m) c.self.inside.tables.slab (subst (λ (xs : List Translation). AreTrue xs m) (sym shown) old))
