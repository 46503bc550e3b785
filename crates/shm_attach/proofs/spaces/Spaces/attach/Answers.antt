use Rattle.shm_attach.proofs.Names.{LostView, ◌≡◌, ◌+◌, ◌*◌, ◌<◌, ◌≤◌, ◌∙◌, ap, sym, subst, arith, List, length, common_steps, cut, frame_of, runners_view, SpacesView, Translation, AreTrue, IsCaller, pieces_at, AreTablesSound, one_reserved, AllTrue, translations_of}
use Rattle.shm_attach.proofs.Processes.{seg-met}
use Rattle.shm_attach.proofs.Callers.{caller_within, caller_lives, with_pieces_now}
use Rattle.shm_attach.proofs.HavingTables.{room_kept}
use Rattle.shm_attach.proofs.Sound.{none_reserved, sound-reserved, counts-small}
use Rattle.shm_attach.proofs.Translations.{all-true, true-all}
use Rattle.shm_attach.proofs.spaces.Spaces.attach.Given.{Over}
use Rattle.shm_attach.proofs.spaces.Spaces.attach.Goals.{After-self, In_ok-key}
use Rattle.shm_attach.proofs.spaces.Spaces.attach.Goals as goal

-- THE CALLER

live : (g : Over) (c : After-self g) → IsCaller c.args.caller.now (runners_view c.self.inside.processes.entries)
live g c = rw (← c.self.view_is) at c.requires.live

stands : (g : Over) (c : After-self g) → c.args.caller.now.index < length c.self.inside.processes.entries
stands g c = caller_within c.args.caller.now c.self.inside.processes.entries (live g c)

pub reserve-requires-clause-fits : goal.reserve-requires-clause-fits
reserve-requires-clause-fits g c =
    let es = c.self.inside.processes.entries in
    omega (arith, counts-small es c.self.inside.tables (none_reserved es c.self.inside.tables c.self.invariant.0) c.args.seg)

pub space_at-requires : goal.space_at-requires
space_at-requires g c = stands g (goal.at.space_at-requires g c).After-self

-- THE TABLE IS RESERVED

reserved : (g : Over) (c : In_ok-key g) → AreTablesSound (one_reserved c.args.seg) c.self.inside.processes.entries c.reserve.new.self
reserved g c = grind (arith, common_steps, sound-reserved)

pub exchange-requires : goal.exchange-requires
exchange-requires g c =
    let i = c.args.caller.now.index in
    let rs = runners_view c.self.inside.processes.entries in
    let b = goal.at.exchange-requires g c in
    let within = stands g b.After-self in
    let most = c.self.invariant.1.each i within in
    let bound = c.self.invariant.1.bound in
    let room : length (cut c.args.base (c.args.base + 4096 * c.args.pages) (pieces_at rs i)) + 1 ≤ c.self.inside.most = rw (← c.self.view_is) at c.requires.room in
    record {
      can =
          record {
            there = within;
            live = caller_lives c.args.caller.now rs (live g b.After-self);
            range = c.requires.range;
            some = c.requires.pages.0;
            few = omega (arith, c.requires.pages.1);
            most = omega (arith, most, bound);
            room = omega (arith, most, room);
            table = record { seg = c.in_ok-key.ensures.seg; pages = omega (arith, c.in_ok-key.ensures.pages) };
          };
      reserved = reserved g b.In_ok-key;
    }

pub invariant_of-self-2 : goal.invariant_of-self-2
invariant_of-self-2 g c =
    let es = c.self.inside.processes.entries in (
      c.exchange.ensures.sound,
      room_kept c.self.inside.most es c.exchange.new.processes.entries c.self.invariant.1 c.exchange.ensures.count c.exchange.ensures.most,
      ap (λ (l : LostView). l.most) c.note.ensures ∙ c.self.invariant.2,
    )

-- THE POSTCONDITIONS

pub returns-clause-lost : goal.returns-clause-lost
returns-clause-lost g c = grind (arith, common_steps, seg-met)

pub returns-clause-runners : goal.returns-clause-runners
returns-clause-runners g c = grind (arith, common_steps, with_pieces_now)

pub returns-clause-translated : goal.returns-clause-translated
returns-clause-translated g c = λ old.
    let at = frame_of c.args.store.now in
    let t = c.self.inside.tables.slab in
    let shown : translations_of t ≡ c.args.self.now.translations = ap (λ (v : SpacesView). v.translations) c.self.view_is in
    let first : AllTrue at t = all-true at t (subst (λ (xs : List Translation). AreTrue xs c.args.store.now) (sym shown) old) in
    true-all at c.exchange.new.tables.slab (c.exchange.ensures.translated at (c.in_ok-key.ensures.translated first))
