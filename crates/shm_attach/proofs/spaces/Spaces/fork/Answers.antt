use Rattle.shm_attach.proofs.Names.{is_live, ◌≡◌, ◌≢◌, ◌<◌, ◌∙◌, ap, arith, List, length, get_or, set, common_steps, length-map, runner_view, runners_view, with_pieces_at, SpacesView, pieces_at, life_at}
use Rattle.shm_base.specs.State.{Piece, Runner, Live}
use Rattle.shm_attach.proofs.Processes.{first_runner}
use Rattle.shm_attach.proofs.Callers.{caller_within, caller_born, ChildAt, child_at}
use Rattle.shm_attach.proofs.Keeping.{life_at-born, pieces_at-born, runners-born, attach_count-more}
use Rattle.shm_attach.proofs.Sound.{sound-life}
use Rattle.shm_attach.proofs.Translations.{keeps}
use Rattle.shm_attach.proofs.spaces.Spaces.fork.Goals.{After-self, After-copy_pieces}
use Rattle.shm_attach.proofs.HavingTables.{room_kept}
use Rattle.shm_attach.proofs.spaces.Spaces.fork.Goals as goal

child : (c : After-self) → ChildAt c.args.child.now.pid c.args.child.now.index (runners_view c.self.inside.processes.entries)
child c = child_at c.args.child.now.pid c.args.child.now.index (runners_view c.self.inside.processes.entries) (rw (← c.self.view_is) at c.requires.unborn)

apart : (c : After-self) → c.args.caller.now.index ≢ c.args.child.now.index
apart c = grind (arith, common_steps, caller_born, child)

pub set_life_at-requires : goal.set_life_at-requires
set_life_at-requires c = grind (arith, common_steps, child, length-map)

pub copy_pieces-requires : goal.copy_pieces-requires
copy_pieces-requires c =
    let es = c.self.inside.processes.entries in
    let rs = runners_view es in
    let j = c.args.child.now.index in
    let l = Live c.args.caller.now.cred in
    let b = (goal.at.copy_pieces-requires c).After-self in
    let ch = child b in
    let lt : j < length es = omega (arith, ch.within, length-map es runner_view) in
    let parent = caller_within c.args.caller.now es (rw (← c.self.view_is) at c.requires.live) in
    let after = c.set_life_at.ensures.runners in
    record {
      parent = omega (arith, parent, c.set_life_at.ensures.count);
      child = omega (arith, lt, c.set_life_at.ensures.count);
      apart = apart b;
      live = ap (λ (xs : List Runner). is_live (life_at xs j)) after ∙ ap is_live (life_at-born rs 0 j l ch.within);
      room = rw (c.set_life_at.ensures.most c.args.caller.now.index, c.set_life_at.ensures.most j, c.self.invariant.1.each c.args.caller.now.index parent, c.self.invariant.1.each j lt) (omega arith);
      none = ap (λ (xs : List Runner). pieces_at xs j) after ∙ pieces_at-born rs 0 j l ch.within ∙ c.self.invariant.0.exact.idle j (ap is_live ch.unborn);
      sound = sound-life es c.set_life_at.new.processes.entries c.self.inside.tables j l lt (λ none. absurd (cc none)) c.self.invariant.0 after c.set_life_at.ensures.stored;
    }

pub invariant_of-self : goal.invariant_of-self
invariant_of-self c = (
  c.copy_pieces.ensures.sound,
  room_kept c.self.inside.most c.self.inside.processes.entries c.copy_pieces.new.processes.entries c.self.invariant.1 (c.copy_pieces.ensures.count ∙ c.set_life_at.ensures.count)
      (λ j. c.copy_pieces.ensures.most j ∙ c.set_life_at.ensures.most j),
  c.self.invariant.2,
)

after : (c : After-copy_pieces)
    → runners_view c.copy_pieces.new.processes.entries
    ≡ set (runners_view c.self.inside.processes.entries) c.args.child.now.index
    (record {
      pid = (get_or (runners_view c.self.inside.processes.entries) c.args.child.now.index first_runner).pid;
      life = Live c.args.caller.now.cred;
      pieces = pieces_at (runners_view c.self.inside.processes.entries) c.args.caller.now.index;
    })
after c =
    let i = c.args.caller.now.index in
    let j = c.args.child.now.index in
    let b = (goal.at.invariant_of-self c).After-self in
    c.copy_pieces.ensures.runners
    ∙ ap (λ (xs : List Runner). with_pieces_at xs j (λ (_ : List Piece). pieces_at xs i)) c.set_life_at.ensures.runners
    ∙ runners-born (runners_view c.self.inside.processes.entries) i j (Live c.args.caller.now.cred) (child b).within (apart b)

pub returns-clause-translated : goal.returns-clause-translated
returns-clause-translated c =
    keeps c.args.self.now.translations c.self.inside.tables.slab c.copy_pieces.new.tables.slab (ap (λ (v : SpacesView). v.translations) c.self.view_is) c.copy_pieces.ensures.translated

pub returns-clause-born : goal.returns-clause-born
returns-clause-born c = grind (arith, common_steps, child, after)

pub returns-clause-more : goal.returns-clause-more
returns-clause-more c = grind (arith, common_steps, child, after, attach_count-more)
