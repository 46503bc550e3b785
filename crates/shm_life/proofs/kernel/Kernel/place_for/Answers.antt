use Rattle.shm_life.proofs.Names.{rules, ◌≡◌, ◌<◌, ◌≤◌, ◌∙◌, true, false, length, sym, ap, to_z, of_z, w32, arith, look, grants, at_wish, caller_seen, look_of, is_misplaced, base_for, segment_seen, Placed, pieces_beside, placed_at, placed, IfOk, MachineView, bare_all, choose_beside, ranges_of}
use Rattle.shm_life.proofs.Changed.{pages-seen}
use Rattle.shm_life.proofs.Attaching.{chosen-for, placed-found, if_few-under, if_few-over}
use Rattle.shm_attach.specs.Place.{IsRange}
use Rattle.shm_life.proofs.kernel.Kernel.place_for.Given.{Over}
use Rattle.shm_life.proofs.kernel.Kernel.place_for.Goals as goal
use Rattle.shm_life.proofs.kernel.Kernel.place_for.Goals.{After-branch-base, then-addr-eq0, else-addr-eq0}

wish : (g : Over) (c : After-branch-base g) → c.if-addr-eq0.wish ≡ base_for c.args.self.now.flat (caller_seen c.args.caller.now c.args.self.now.flat.runners) (segment_seen c.args.self.now.flat.table c.in_ok-found.found) c.args.flags c.args.addr
wish g c = elim c.if-addr-eq0.branch [
  | then-addr-eq0 w ↦
      let ranges : w.deref.result.now ≡ c.args.self.now.flat.host_ranges = w.deref.ensures.value ∙ ap (λ (v : MachineView). v.flat.host_ranges) c.self.view_is in
      let m = c.args.self.now.flat in
      let k = caller_seen c.args.caller.now m.runners in
      let x = segment_seen m.table c.in_ok-found.found in
      chosen-for m k x c.args.flags c.args.addr c.pages-pages.result (bare_all c.space-space.result.now.pieces) w.choose_beside.result c.if-addr-eq0.wish
      w.if-addr-eq0.true (c.pages-pages.ensures.value ∙ sym (pages-seen m.table c.in_ok-found.found c.in_ok-found.ensures.found)) (rw (← c.self.view_is) c.space-space.ensures.pieces) (w.choose_beside.ensures.value ∙ ap (λ hs. choose_beside (bare_all c.space-space.result.now.pieces) (ranges_of k.pid hs) c.pages-pages.result) ranges) (w.wish-is ∙ w.ok_or-wish.ensures.value)
  | else-addr-eq0 w ↦ search rules
]

ranged : (g : Over) (c : After-branch-base g) → IfOk c.if-addr-eq0.wish (IsRange c.pages-pages.result)
ranged g c = elim c.if-addr-eq0.branch [ then-addr-eq0 w ↦ search rules | else-addr-eq0 w ↦ search rules ]

-- after the first tests, the base that was wished for decides
asked : (g : Over) (c : After-branch-base g)
    → placed c.args.self.now.flat (caller_seen c.args.caller.now c.args.self.now.flat.runners) c.args.id c.args.addr c.args.flags
    ≡ placed_at c.args.self.now.flat (caller_seen c.args.caller.now c.args.self.now.flat.runners) c.in_ok-found.found.seg c.pages-pages.result c.if-addr-eq0.wish
asked g c =
    let m = c.args.self.now.flat in
    let k = caller_seen c.args.caller.now m.runners in
    let f = c.in_ok-found.found in
    let signed : to_z w32 (of_z w32 c.args.id) ≡ c.args.id = search rules in
    let well : is_misplaced m c.args.addr c.args.flags ≡ false = sym c.is_misplaced.ensures ∙ c.if-is_misplaced.false in
    let looked : look m.table c.args.id ≡ look_of m.table f = rw signed at c.in_ok-found.ensures.ok in
    let granted : grants c.args.caller.now.cred f.head.perm (at_wish m c.args.flags) ≡ true = rw c.wish_at.ensures at (sym c.grants.ensures ∙ c.if-not-grants.false) in
    placed-found m k c.args.id c.args.addr c.args.flags f c.in_ok-found.ensures.found well looked granted
    ∙ ap (λ n. placed_at m k f.seg n (base_for m k (segment_seen m.table f) c.args.flags c.args.addr)) (sym c.pages-pages.ensures.value)
    ∙ ap (placed_at m k f.seg c.pages-pages.result) (sym (wish g c))

pub returns-clause-value : goal.returns-clause-value
returns-clause-value g c =
    let m = c.args.self.now.flat in
    let k = caller_seen c.args.caller.now m.runners in
    let p : Placed = record { seg = c.in_ok-found.found.seg; pages = c.pages-pages.result; base = c.in_ok-base.base } in
    let step = rw c.in_ok-base.was at (asked g (goal.at.returns-clause-value g c).After-branch-base) in
    let outside = rw c.space-space.ensures.pieces at c.count_outside.ensures in
    let few : length (pieces_beside k p) < m.limits.most_pieces = rw (← c.self.view_is) (omega (arith, c.most_pieces-most.ensures.value, outside, c.if-count_outside-most.false)) in
    sym (step ∙ if_few-under m k p few)

pub returns-then-count_outside-most-clause-value : goal.returns-then-count_outside-most-clause-value
returns-then-count_outside-most-clause-value g c =
    let m = c.args.self.now.flat in
    let k = caller_seen c.args.caller.now m.runners in
    let p : Placed = record { seg = c.in_ok-found.found.seg; pages = c.pages-pages.result; base = c.in_ok-base.base } in
    let step = rw c.in_ok-base.was at (asked g (goal.at.returns-then-count_outside-most-clause-value g c).After-branch-base) in
    let outside = rw c.space-space.ensures.pieces at c.count_outside.ensures in
    let many : m.limits.most_pieces ≤ length (pieces_beside k p) = rw (← c.self.view_is) (omega (arith, c.most_pieces-most.ensures.value, outside, c.if-count_outside-most.true)) in
    rw (← c.self.view_is, c.pieces_errno.ensures, c.rules.ensures.value) (sym (rw (← c.self.view_is) at (step ∙ if_few-over m k p many)))

pub returns-in_err-base-clause-value : goal.returns-in_err-base-clause-value
returns-in_err-base-clause-value g c =
    let step = rw c.in_err-base.was at (asked g (goal.at.returns-in_err-base-clause-value g c).After-branch-base) in
    search (rules, step)

pub returns-clause-range : goal.returns-clause-range
returns-clause-range g c = rw c.in_ok-base.was at (ranged g (goal.at.returns-clause-range g c).After-branch-base)
