use Rattle.shm_attach.proofs.Names.{◌≡◌, ◌∙◌, ap, sym, refl, arith, common_steps, [], length, length-map, slice_get, Some, is_live, false, life_view, runner_view, runners_view, pieces_at, life_at, attach_count, ℕ, ◌+◌, Ok, swap_remove}
use Rattle.shm_base.specs.State.{Runner}
use Rattle.shm_attach.proofs.Joining.{standing-there, asleep, IsOut, out_there, sound-old, each-left, shown-left, room-left, length-left, attach_count-left}
use Rattle.shm_attach.proofs.spaces.Spaces.dismiss.Goals.{After-swap_remove_index}
use Rattle.shm_attach.proofs.spaces.Spaces.dismiss.Goals as goal

-- the process that leaves
abbrev leaver : (c : After-swap_remove_index) → Runner
leaver c = record { pid = c.args.pid; life = life_view c.in-Some.found.life; pieces = pieces_at (runners_view c.self.inside.processes.entries) c.in-Some.found.index }

there : (c : After-swap_remove_index) → slice_get (runners_view c.self.inside.processes.entries) c.in-Some.found.index ≡ Some (leaver c)
there c = standing-there c.args.pid (runners_view c.self.inside.processes.entries) _ (rw (← c.self.view_is) at c.in-Some.ensures.some)

out : (c : After-swap_remove_index) → IsOut c.self.inside.processes.entries c.swap_remove_index.new.self.entries c.in-Some.found.index (leaver c)
out c =
    out_there c.self.inside.processes.entries c.swap_remove_index.new.self.entries c.in-Some.found.index (leaver c) c.swap_remove_index.result c.swap_remove_index.ensures.entry
    c.swap_remove_index.ensures.entries (there c)

-- it is not live, so it has no piece
idle : (c : After-swap_remove_index) → is_live (life_view c.in-Some.found.life) ≡ false
idle c = asleep c.in-Some.found.life c.in_default-life.not-Live

none : (c : After-swap_remove_index) → pieces_at (runners_view c.self.inside.processes.entries) c.in-Some.found.index ≡ []
none c =
    let life : life_at (runners_view c.self.inside.processes.entries) c.in-Some.found.index ≡ life_view c.in-Some.found.life = let at = there c in grind (arith, common_steps) in
    c.self.invariant.0.exact.idle c.in-Some.found.index (ap is_live life ∙ idle c)

shown : (c : After-swap_remove_index) → runners_view c.swap_remove_index.new.self.entries ≡ swap_remove (runners_view c.self.inside.processes.entries) c.in-Some.found.index (leaver c)
shown c =
    let es = c.self.inside.processes.entries in
    let i = c.in-Some.found.index in
    let o = out c in
    ap runners_view o.left ∙ shown-left es i o.entry o.within ∙ ap (swap_remove (runners_view es) i) o.shown

counts : (c : After-swap_remove_index) (id : ℕ) → attach_count (runners_view c.swap_remove_index.new.self.entries) id ≡ attach_count (runners_view c.self.inside.processes.entries) id
counts c id =
    ap (λ rs. attach_count rs id) (shown c) ∙ attach_count-left id (runners_view c.self.inside.processes.entries) c.in-Some.found.index (leaver c) (there c) (none c)

pub invariant_of-self : goal.invariant_of-self
invariant_of-self c =
    let es = c.self.inside.processes.entries in
    let fs = c.swap_remove_index.new.self.entries in
    let i = c.in-Some.found.index in
    let b = (goal.at.invariant_of-self c).After-swap_remove_index in
    let o = out b in
    let long : length fs + 1 ≡ length es = ap (λ xs. length xs + 1) o.left ∙ length-left es i o.entry o.within in
    let few = c.self.invariant.0.exact.processes in (
      sound-old es fs c.self.inside.tables c.self.invariant.0 (counts b) (omega (arith, long, few, length-map es runner_view)) (rw o.left (each-left es i o.entry o.within)),
      rw o.left (room-left es i o.entry o.within c.self.inside.most c.self.invariant.1),
      c.self.invariant.2,
    )

pub returns : goal.returns
returns c =
    let b = (goal.at.returns c).After-swap_remove_index in
    let found = c.in-Some.ensures.some in
    record {
      leaves = rw (found, idle b, ← c.self.view_is) (ap (λ rs. Ok rs) (sym (shown b)));
      refused = tt;
      rest = rw (← c.self.view_is) refl;
      counts = λ id. rw (← c.self.view_is) (counts b id);
    }
