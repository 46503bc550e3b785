use Rattle.shm_attach.proofs.Names.{◌≡◌, ◌∙◌, ℕ, ap, sym, Option, None, Some, List, SpacesView, no_reservations, pieces_at, runners_view, without_named, attached_at, without_attach, without_segment, with_own_pieces, IfSome}
use Rattle.shm_base.specs.State as flat
use Rattle.shm_attach.proofs.Callers.{caller_within, with_pieces-of}
use Rattle.shm_attach.proofs.Translations.{keeps}
use Rattle.shm_attach.proofs.HavingTables.{room_kept}
use Rattle.shm_attach.proofs.spaces.Spaces.detach.Goals as goal

pub take_attach-requires-clause-there : goal.take_attach-requires-clause-there
take_attach-requires-clause-there c = caller_within c.args.caller.now c.self.inside.processes.entries (rw (← c.self.view_is) at c.requires)

pub invariant_of-self : goal.invariant_of-self
invariant_of-self c = (
  c.take_attach.ensures.changed.sound no_reservations c.self.invariant.0,
  room_kept c.self.inside.most c.self.inside.processes.entries c.take_attach.new.processes.entries c.self.invariant.1 c.take_attach.ensures.changed.count c.take_attach.ensures.changed.most,
  c.self.invariant.2,
)

pub returns-clause-translated : goal.returns-clause-translated
returns-clause-translated c =
    keeps c.args.self.now.translations c.self.inside.tables.slab c.take_attach.new.tables.slab (ap (λ (v : SpacesView). v.translations) c.self.view_is) c.take_attach.ensures.changed.translated

-- the segment that is named goes
named : (addr : ℕ) (own : List flat.Piece) (shown : List flat.Piece → List flat.Runner) (now : List flat.Runner) (o : Option ℕ) → o ≡ attached_at addr own → now ≡ shown (without_attach addr own)
    → IfSome o (λ seg. now ≡ shown (without_named addr seg own))
named addr own shown now None is same = tt
named addr own shown now (Some seg) is same = same ∙ ap (λ (x : Option ℕ). shown (without_segment addr x own)) (sym is)

pub returns-clause-gone : goal.returns-clause-gone
returns-clause-gone c =
    let before = c.args.self.now in
    let caller = c.args.caller.now in
    let rs = runners_view c.self.inside.processes.entries in
    let shown : rs ≡ before.runners = ap (λ (v : SpacesView). v.runners) c.self.view_is in
    let own : pieces_at rs caller.index ≡ pieces_at before.runners caller.index = ap (λ (xs : List flat.Runner). pieces_at xs caller.index) shown in
    named c.args.addr (pieces_at before.runners caller.index) (with_own_pieces before caller) (runners_view c.take_attach.new.processes.entries) c.take_attach.result
    (c.take_attach.ensures.segment ∙ ap (attached_at c.args.addr) own)
    (c.take_attach.ensures.changed.runners ∙ with_pieces-of caller rs before.runners (without_attach c.args.addr) shown c.requires)
