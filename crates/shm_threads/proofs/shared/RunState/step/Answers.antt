use Rattle.shm_threads.proofs.Names.{◌∙◌, ◌≡◌, ◌<◌, ◌+◌, ℕ, List, Bool, true, length, arith, inr, ap, is_some, rules, slice_set, subst, sym, get_or, eqb-true, get_or_read, Machine, IsTurn, RunView, goes_on_by, is_next, can_go, ProcessState, Strand}
use Rattle.shm_threads.proofs.Kept.{kept-set}
use Rattle.shm_threads.proofs.Passing.{passed-step}
use Rattle.shm_threads.proofs.Turns.{has-place, nth-next, pid-of, running-step}
use Rattle.shm_threads.proofs.shared.RunState.step.Goals as goal

-- the strand at the index, which can continue
goes : (machine : Machine) (strands : List Strand) (k : ℕ) (s u : Strand) (may : Bool) → may ≡ true → may ≡ can_go machine u → u ≡ get_or strands k u → ((d : Strand) → get_or strands k d ≡ s) → can_go machine s ≡ true
goes machine strands k s u may on is at here =
    let same : u ≡ s = at ∙ here u in
    rw (← same) (sym is ∙ on)

-- the number of its next call
next-is : (strands : List Strand) (k n : ℕ) (s u : Strand) (is : Bool) → is ≡ true → is ≡ is_next u n → u ≡ get_or strands k u → ((d : Strand) → get_or strands k d ≡ s) → length s.entries.items + 1 ≡ n
next-is strands k n s u is on same at here =
    let one : u ≡ s = at ∙ here u in
    let is : is_next s n ≡ true = ap (λ (x : Strand). is_next x n) (sym one) ∙ sym same ∙ on in
    eqb-true (length s.entries.items + 1) n is

pub make-made-requires-clause-recorded : goal.make-made-requires-clause-recorded
make-made-requires-clause-recorded g c =
    let items = c.self.inside.strands.items in
    let s = c.index_mut.result.now in
    let lt : c.args.index < length items = omega (arith, c.if-index-len.false, c.len.ensures, c.self.inside.strands.ok.0) in
    let here = λ (d : Strand). sym (get_or_read items c.args.index s lt c.index_mut.ensures.value d) in
    has-place c.self.inside.world.machine items c.args.index c.self.inside.world.room s lt here (goes c.self.inside.world.machine items c.args.index s _ _ c.if-not-goes.false c.goes.ensures c.index-else-not-is_next.ensures here) c.self.invariant.0.room

pub invariant_of-self : goal.invariant_of-self
invariant_of-self g c =
    let items = c.self.inside.strands.items in
    let s = c.index_mut.result.now in
    let lt : c.args.index < length items = omega (arith, c.if-index-len.false, c.len.ensures, c.self.inside.strands.ok.0) in
    let here = λ (d : Strand). sym (get_or_read items c.args.index s lt c.index_mut.ensures.value d) in
    let rest = c.self.invariant.1 in
    let nth = next-is items c.args.index c.args.n s _ _ c.if-not-is_next.false c.is_next.ensures c.index.ensures here in
    let own = pid-of items g.O.Origin.script.processes c.self.invariant.0.listed c.args.index c.args.pid s lt here c.requires.process in
    let next = nth-next g.O.Origin.script.lines c.args.pid c.args.n s c.args.command.now own nth c.requires.line in (
      running-step g.O.Origin.script g.O.Origin.start c.self.inside.world c.make-made.new.world items c.self.inside.made c.args.index s c.make-made.new.strand c.args.command.now c.make-made.result
          c.self.invariant.0 lt here (goes c.self.inside.world.machine items c.args.index s _ _ c.if-not-goes.false c.goes.ensures c.index-else-not-is_next.ensures here) next c.make-made.ensures,
      (
        rest.0,
        (
          rest.1.0,
          (
            rest.1.1.0,
            (
              passed-step g.O.Origin.answers items c.self.inside.made c.args.index c.args.n c.args.pid s c.make-made.new.strand c.make-made.ensures.entry lt here
                  own nth c.requires.passed c.make-made.ensures.pid c.make-made.ensures.entries rest.1.1.1.0,
              kept-set g.O.Origin.is_kept items c.args.index s c.make-made.new.strand lt here c.make-made.ensures.kept rest.1.1.1.1,
            ),
          ),
        ),
      ),
    )

pub returns : goal.returns
returns g c =
    let items = c.self.inside.strands.items in
    let s = c.index_mut.result.now in
    let lt : c.args.index < length items = omega (arith, c.if-index-len.false, c.len.ensures, c.self.inside.strands.ok.0) in
    let here = λ (d : Strand). sym (get_or_read items c.args.index s lt c.index_mut.ensures.value d) in
    let more : c.ne.result ≡ goes_on_by c.make-made.result = search rules in
    let now : RunView = record { world = c.make-made.new.world; strands = slice_set items c.args.index c.make-made.new.strand; rounds = c.self.inside.rounds.items; made = c.self.inside.made; processes = c.born_by.new.processes.items; keeper = c.self.inside.keeper; expired = c.self.inside.expired } in
    let Turned : RunView → Type 0 = λ v. IsTurn v c.args.index c.args.command.now c.ne.result (is_some c.born_by.result) now in
    inr (subst Turned c.self.view_is (record {
      strand = s;
      next = c.make-made.new.strand;
      effect = c.make-made.result;
      at = here;
      step = c.make-made.ensures;
      rest = ap (λ (ps : List ProcessState). record now { processes = ps }) c.born_by.ensures.births;
      noted = c.born_by.ensures.news;
      more = more;
    }))
