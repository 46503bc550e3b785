use Rattle.shm_attach.proofs.Names.{◌≡◌, ℕ, ap, sym, subst, arith, common_steps, List, Option, All, IfOk-weaker, Span, page_of, StoreView, frame_of, SpacesView, Translation, AreTrue, AllTrue, bare_all, pieces_by}
use Rattle.shm_attach.proofs.Callers.{caller_within}
use Rattle.shm_attach.proofs.Translations.{all-true}
use Rattle.shm_attach.proofs.spaces.Spaces.spans_of.Goals as goal

pub space_at-space-requires : goal.space_at-space-requires
space_at-space-requires c = caller_within c.args.caller.now c.self.inside.processes.entries (rw (← c.self.view_is) at c.requires.live)

pub returns-clause-spans : goal.returns-clause-spans
returns-clause-spans c =
    let own : bare_all c.space_at-space.result.now.pieces ≡ pieces_by c.args.caller.now.pid c.args.self.now.runners = grind (arith, common_steps) in
    rw own at c.spans_in.ensures.spans

pub returns-clause-frames : goal.returns-clause-frames
returns-clause-frames c =
    let t = c.self.inside.tables.slab in
    let shown = ap (λ (v : SpacesView). v.translations) c.self.view_is in
    let ByResidency : List Span → Type 0 = λ s. (at : ℕ → ℕ → Option ℕ) → AllTrue at t → All (λ (p : Span). p.frame ≡ at p.seg (page_of p)) s in
    let ByStore : List Span → Type 0 =
    λ s. (m : StoreView) → AreTrue c.args.self.now.translations m → All (λ (p : Span). p.frame ≡ frame_of m p.seg (page_of p)) s in
    IfOk-weaker c.spans_in.result ByResidency ByStore
    (λ s by m old. by (frame_of m) (all-true (frame_of m) t (subst (λ (xs : List Translation). AreTrue xs m) (sym shown) old)))
    c.spans_in.ensures.frames
