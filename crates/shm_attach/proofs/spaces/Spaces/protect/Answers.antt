use Rattle.shm_attach.proofs.Names.{with_pieces, caller_seen, sym, LostView, ◌∙◌, ◌≡◌, ◌<◌, refl, ap, arith, length, common_steps, runners_view, SpacesView, pieces_at, most_at, IsCaller, Protected, protected_by, protected_between}
use Rattle.shm_attach.proofs.Callers.{caller_within, caller_lives, with_pieces_now, with_pieces_own}
use Rattle.shm_attach.proofs.Protected.{protected-own}
use Rattle.shm_attach.proofs.Protecting.{protected-whole}
use Rattle.shm_attach.proofs.Translations.{keeps}
use Rattle.shm_attach.proofs.spaces.Spaces.protect.Goals.{After-self, In-Some}
use Rattle.shm_attach.proofs.spaces.Spaces.protect.Goals as goal

-- NOTHING IS PROTECTED

pub returns-then-addr-ne0-clause-runners : goal.returns-then-addr-ne0-clause-runners
returns-then-addr-ne0-clause-runners c = grind (arith, common_steps, with_pieces_own)

pub returns-then-len-eq0-clause-runners : goal.returns-then-len-eq0-clause-runners
returns-then-len-eq0-clause-runners c = grind (arith, common_steps, with_pieces_own)

pub returns-in_default-clause-runners : goal.returns-in_default-clause-runners
returns-in_default-clause-runners c = grind (arith, common_steps, with_pieces_own)

-- THE PAGES

live : (c : After-self) → IsCaller c.args.caller.now (runners_view c.self.inside.processes.entries)
live c = rw (← c.self.view_is) at c.requires.live

within : (c : After-self) → c.args.caller.now.index < length c.self.inside.processes.entries
within c = caller_within c.args.caller.now c.self.inside.processes.entries (live c)

pub protect_range-requires-clause-process : goal.protect_range-requires-clause-process
protect_range-requires-clause-process c =
    let self = (goal.at.protect_range-requires-clause-process c).After-self in
    let most = c.self.invariant.1.each c.args.caller.now.index (within self) in
    record {
      there = within self;
      live = caller_lives c.args.caller.now (runners_view c.self.inside.processes.entries) (live self);
      most = omega (arith, most, c.self.invariant.1.bound);
      sound = c.self.invariant.0;
    }

-- the result for the pages is that for the bytes
whole : (c : In-Some) → protected_between c.self.inside.processes.entries c.args.caller.now.index c.args.writable c.args.addr c.in-Some.to
    ≡ protected_by c.args.self.now c.args.caller.now c.args.writable c.args.addr c.args.len
whole c =
    let i = c.args.caller.now.index in
    let es = c.self.inside.processes.entries in
    let there = caller_within c.args.caller.now es (rw (← c.self.view_is) at c.requires.live) in
    let most : most_at es i ≡ c.self.inside.most = c.self.invariant.1.each i there in
    rw (most, ← c.self.view_is)
    (protected-whole c.self.inside.most c.args.writable c.args.addr c.args.len c.in-Some.to (pieces_at (runners_view es) i) c.if-addr-ne0.false c.if-len-eq0.false c.in-Some.ensures.1 c.in-Some.ensures.0)

pub returns-clause-refusal : goal.returns-clause-refusal
returns-clause-refusal c = c.protect_range.ensures.refusal ∙ ap (λ (x : Protected). x.refusal) (whole (goal.at.returns-clause-refusal c).In-Some)

pub returns-clause-runners : goal.returns-clause-runners
returns-clause-runners c =
    let i = c.args.caller.now.index in
    let rs = runners_view c.self.inside.processes.entries in
    let b = (goal.at.returns-clause-runners c).After-self in
    c.protect_range.ensures.now.runners
    ∙ with_pieces_now c.args.caller.now rs rs _ refl (live b)
    ∙ ap (λ (x : Protected). with_pieces rs (caller_seen c.args.caller.now rs) x.pieces) (whole (goal.at.returns-clause-runners c).In-Some)
    ∙ rw (← c.self.view_is) refl

pub returns-clause-translated : goal.returns-clause-translated
returns-clause-translated c =
    keeps c.args.self.now.translations c.self.inside.tables.slab c.protect_range.new.tables.slab (ap (λ (v : SpacesView). v.translations) c.self.view_is) c.protect_range.ensures.now.translated

pub returns-clause-own : goal.returns-clause-own
returns-clause-own c =
    rw (← c.self.view_is)
    (protected-own c.self.inside.most c.args.writable c.args.addr c.args.len _ (c.self.invariant.0.exact.arranged c.args.caller.now.index))

-- THE SEGMENTS OF PIECES THAT ARE SPLIT

pub protect_range-requires-clause-reserved : goal.protect_range-requires-clause-reserved
protect_range-requires-clause-reserved c =
    let most = c.self.invariant.1.each c.args.caller.now.index (within (goal.at.protect_range-requires-clause-reserved c).After-self) in
    ap (λ (l : LostView). l.most) c.clear.ensures ∙ c.self.invariant.2 ∙ sym most

pub returns-clause-lost : goal.returns-clause-lost
returns-clause-lost c = c.protect_range.ensures.split ∙ ap (λ (x : Protected). x.split) (whole (goal.at.returns-clause-lost c).In-Some)
