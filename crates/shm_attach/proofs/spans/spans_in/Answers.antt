use Rattle.shm_attach.proofs.Names.{◌≡◌, ◌-◌, true, [], ◌∷◌, Span, page_of, arith, append-nil, common_steps, All-cons, All-nil, bare_all}
use Rattle.shm_attach.proofs.Accesses.{wanted_in-first, wanted_in-second, wanted_in-both}
use Rattle.shm_attach.proofs.spans.spans_in.Goals as goal

pub returns-in_default-clause-none : goal.returns-in_default-clause-none
returns-in_default-clause-none c =
    let n = c.min.result in
    wanted_in-first c.args.write (bare_all c.args.space.now.pieces) c.args.addr n (c.args.len - n) c.args.len (omega (arith, c.min.ensures)) c.in_default.ensures.none

pub returns-in_default-span_in-clause-none : goal.returns-in_default-span_in-clause-none
returns-in_default-span_in-clause-none c = grind (arith, common_steps, wanted_in-second)

pub returns-clause-spans : goal.returns-clause-spans
returns-clause-spans c =
    rw c.two.ensures
    (record {
      places = grind (arith, common_steps, append-nil, wanted_in-both);
      few = omega arith;
      within = grind (arith, common_steps);
      sum = grind (arith, common_steps);
      pages = λ test all.
          let Pass : Span → Type 0 = λ s. test s.seg (page_of s) ≡ true in
          All-cons Pass c.in-Some.first (c.in-Some-span_in.second ∷ []) (c.in-Some.ensures.some.pages test all)
          (All-cons Pass c.in-Some-span_in.second [] (c.in-Some-span_in.ensures.some.pages test all) (All-nil Pass));
    })
