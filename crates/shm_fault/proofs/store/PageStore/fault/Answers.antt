use Rattle.shm_fault.proofs.Names.{ℕ, ◌≡◌, Err, Ok, OnErr, OnOk, PagerFault, Result, StopsAt, after_visit, counted, refl, sym, IfOk, IsSeenIn, err_from_is_err_and, ap, ◌∙◌, arith, false≢true, is_ok, None, PageRec, Visited, Visits, MovesOn, places, failures-after}
use Rattle.shm_fault.proofs.Pages.{has-same}
use Rattle.shm_fault.proofs.Visits.{visited-fault, Visits-trans, moves-trans, visits-away}
use Rattle.shm_fault.proofs.Places.{fault-counted, unread-counted, visit-fault, stops-at-read, stops-at-write}
use Rattle.shm_fault.proofs.store.PageStore.fault.Goals.{After-come_in}
use Rattle.shm_fault.proofs.store.PageStore.fault.Goals as goal

visits : (g : _) (c : After-come_in g) → Visits c.args.page c.args.pinned c.args.self.now c.come_in.new.self
visits g c = Visits-trans c.args.page c.args.pinned c.args.self.now c.take_frame.new.self c.come_in.new.self (c.take_frame.ensures.visits c.args.page) (c.come_in.ensures.visits c.args.pinned)

moves : (g : _) (c : After-come_in g) → MovesOn c.args.touched.now.moved.items c.come_in.new.touched.moved.items c.args.self.now c.come_in.new.self
moves g c =
    moves-trans c.args.touched.now.moved.items c.take_frame.new.touched.moved.items c.come_in.new.touched.moved.items c.args.self.now c.take_frame.new.self c.come_in.new.self c.take_frame.ensures.moves c.come_in.ensures.moves

pub come_in-requires-clause-has : goal.come_in-requires-clause-has
come_in-requires-clause-has g c =
    has-same c.args.self.now.segs c.take_frame.new.self.segs c.args.page (c.take_frame.ensures.visits c.args.page).goes.shape c.requires.has

pub come_in-requires-clause-away : goal.come_in-requires-clause-away
come_in-requires-clause-away g c =
    ap (λ (p : PageRec). p.frame) (visits-away c.args.pinned c.args.self.now c.take_frame.new.self c.take_frame.ensures.visits c.args.page c.requires.away) ∙ c.requires.away

-- what both steps leave, also where the second failed
visited : (g : _) (c : After-come_in g) (result : Result ℕ PagerFault) → is_ok result ≡ is_ok c.come_in.result → IfOk result (IsSeenIn c.come_in.new.self c.args.page)
    → OnOk result (places c.come_in.new.self ≡ after_visit c.args.page c.args.pinned (places c.args.self.now))
    → OnErr result (StopsAt c.args.page c.args.pinned (places c.args.self.now) (places c.come_in.new.self) (counted c.args.touched.now) (counted c.come_in.new.touched))
    → Visited c.args.page c.args.pinned None c.args.self.now c.come_in.new.self c.args.touched.now c.come_in.new.touched result
visited g c result ok here placed stopped =
    let took = c.take_frame.ensures in
    let came = c.come_in.ensures in
    let same = visits-away c.args.pinned c.args.self.now c.take_frame.new.self took.visits c.args.page c.requires.away in
    visited-fault c.args.page c.args.pinned c.args.self.now c.come_in.new.self c.args.touched.now c.come_in.new.touched result c.requires.away here (visits g c) (moves g c)
    (omega (arith, took.few, came.few)) (rw ok (rw (← same, ← took.ins) came.ins)) (omega (arith, took.outs, came.outs))
    (record { ins = λ n e. came.counts.ins n (took.counts.ins n e); outs = λ n e. came.counts.outs n (took.counts.outs n e) })
    (λ e. fault-counted c.args.self.now c.args.page c.args.pinned c.args.touched.now c.take_frame.new.touched c.come_in.new.touched c.requires.away c.in_ok-frame.ensures.transfers (rw (sym ok ∙ e, same) at came.ins) came.outs)
    placed stopped (rw ok (failures-after (is_ok c.come_in.result) c.args.self.now.swap c.take_frame.new.self.swap c.come_in.new.self.swap c.in_ok-frame.ensures.failures came.failures))

pub returns : goal.returns
returns g c =
    let e = c.in_ok-come_in.ensures in
    let frame = c.in_ok-frame.ensures in
    visited g (goal.at.returns g c).After-come_in (Ok c.in_ok-frame.frame) (rw c.in_ok-come_in.was refl) (e.here, e.bit)
    (visit-fault c.args.self.now (places c.come_in.new.self) c.args.page c.args.pinned c.requires.away (rw (← frame.chosen, ← frame.placed) e.placed)) tt

pub returns-in_err-come_in : goal.returns-in_err-come_in
returns-in_err-come_in g c =
    let e = c.in_err-come_in.ensures in
    let same = visits-away c.args.pinned c.args.self.now c.take_frame.new.self c.take_frame.ensures.visits c.args.page c.requires.away in
    rw (err_from_is_err_and c.from_residual-in_err-come_in.result c.from_residual-in_err-come_in.ensures.1).1
    (visited g (goal.at.returns-in_err-come_in g c).After-come_in (Err _) (rw c.in_err-come_in.was refl) tt tt
    (stops-at-read c.args.self.now c.come_in.new.self c.args.page c.args.pinned _ _ c.requires.away (rw same at e.slot) (e.stopped ∙ c.in_ok-frame.ensures.placed)
    (unread-counted c.take_frame.new.touched c.come_in.new.touched e.ins e.outs ∙ c.in_ok-frame.ensures.transfers)))

pub returns-in_err-frame : goal.returns-in_err-frame
returns-in_err-frame g c =
    let took = c.take_frame.ensures in
    let e = c.in_err-frame.ensures in
    rw (err_from_is_err_and c.from_residual.result c.from_residual.ensures.1).1
    (visited-fault c.args.page c.args.pinned c.args.self.now c.take_frame.new.self c.args.touched.now c.take_frame.new.touched (Err _) c.requires.away tt (took.visits c.args.page) took.moves
    (omega (arith, took.few)) (omega (arith, took.ins)) took.outs took.counts (λ e. absurd (false≢true e)) tt
    (stops-at-write c.args.self.now c.take_frame.new.self c.args.page c.args.pinned _ _ c.requires.away e.stopped e.uncounted) e.failures)
