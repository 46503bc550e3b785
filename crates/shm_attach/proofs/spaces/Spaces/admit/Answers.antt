use Rattle.shm_attach.proofs.Names.{◌≡◌, ◌<◌, ◌≤◌, ◌∙◌, ap, refl, arith, [], ◌∷◌, ◌++◌, length, length-map, None, Runner, insert_entry, nat_eq, bare_all, runner_view, runners_view, attach_count, ℕ, SpaceView, runner_at_start, standing, length-append}
use Rattle.shm_attach.proofs.Joining.{joins-behind, shown-behind, sound-old, each-inserted, attach_count-behind}
use Rattle.shm_attach.proofs.Starts.{room-more}
use Rattle.shm_attach.proofs.spaces.Spaces.admit.Goals.{In_ok-insert}
use Rattle.shm_attach.proofs.spaces.Spaces.admit.Goals as goal

absent : (c : In_ok-insert) → standing c.args.process.now.pid (runners_view c.self.inside.processes.entries) ≡ None
absent c = rw (← c.self.view_is) at c.in_default.ensures.none

abbrev new : (c : In_ok-insert) → Runner
new c = record { life = c.born.result; space = c.in_ok-new.field-0 }

shown : (c : In_ok-insert)
    → runners_view (insert_entry nat_eq c.self.inside.processes.entries c.args.process.now.pid (new c))
    ≡ runners_view c.self.inside.processes.entries ++ runner_view (c.args.process.now.pid, new c) ∷ []
shown c = shown-behind c.args.process.now.pid c.self.inside.processes.entries (new c) (absent c)

counts : (c : In_ok-insert) (id : ℕ)
    → attach_count (runners_view (insert_entry nat_eq c.self.inside.processes.entries c.args.process.now.pid (new c))) id ≡ attach_count (runners_view c.self.inside.processes.entries) id
counts c id =
    let none = ap (λ (s : SpaceView). s.pieces) c.in_ok-new.ensures in
    ap (λ rs. attach_count rs id) (shown c)
    ∙ attach_count-behind id (runners_view c.self.inside.processes.entries) (runner_view (c.args.process.now.pid, new c)) (ap bare_all none)

pub invariant_of-self-2 : goal.invariant_of-self-2
invariant_of-self-2 c =
    let es = c.self.inside.processes.entries in
    let pid = c.args.process.now.pid in
    let b = (goal.at.invariant_of-self-2 c).In_ok-insert in
    let r = new b in
    let none = ap (λ (s : SpaceView). s.pieces) c.in_ok-new.ensures in
    let fs = insert_entry nat_eq es pid r in
    let long = ap length (shown b) in
    let few : length fs ≤ c.args.most = omega (arith, long, length-append (runners_view es) (runner_view (pid, r) ∷ []), length-map es runner_view, length-map fs runner_view, c.if-len-most.false, c.len.ensures.len) in
    rw c.in_ok-insert.ensures.entries (
      sound-old es fs c.self.inside.tables c.self.invariant.0 (counts b) (omega (arith, few, c.requires.most)) (each-inserted es pid r none),
      record { bound = c.self.invariant.1.bound; each = room-more c.self.inside.most es pid r c.self.invariant.1.each (ap (λ (s : SpaceView). s.most) c.in_ok-new.ensures) },
      c.self.invariant.2,
    )

pub returns-clause-counts : goal.returns-clause-counts
returns-clause-counts c = λ id. rw (← c.self.view_is, c.in_ok-insert.ensures.entries) (counts (goal.at.returns-clause-counts c).In_ok-insert id)

pub returns-clause-joins : goal.returns-clause-joins
returns-clause-joins c =
    let es = c.self.inside.processes.entries in
    let p = c.args.process.now in
    let b = (goal.at.returns-clause-joins c).In_ok-insert in
    let few : length (runners_view es) < c.args.most = omega (arith, length-map es runner_view, c.if-len-most.false, c.len.ensures.len) in
    let new_one : runner_view (p.pid, new b) ≡ runner_at_start p = rw (c.born.ensures, ap (λ (s : SpaceView). s.pieces) c.in_ok-new.ensures) refl in
    rw (← c.self.view_is, c.in_ok-insert.ensures.entries, shown b, new_one)
    (joins-behind c.args.most p (runners_view es) (omega (arith, c.if-process-lt1.false)) (omega (arith, c.if-process-gt-LAST_PID.false)) (absent b) few)
