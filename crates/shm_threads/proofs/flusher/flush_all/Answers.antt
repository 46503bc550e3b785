use Rattle.shm_threads.proofs.Names.{◌≡◌, ◌∙◌, ◌+◌, ◌-◌, ◌∷◌, [], ℕ, true, false, sym, subst, arith, May, Adds, asks_of_rounds}
use Prim.Native.Nat.{suc}
use Rattle.shm_threads.proofs.Steps.{adds_none, round_asked}
use Rattle.shm_threads.proofs.flusher.flush_all.Goals as goal

pub loop-made-init : goal.loop-made-init
loop-made-init g c =
    record {
      same = sym c.requires;
      asked = λ more end asked.
          (let all : c.args.rounds - 0 ≡ c.args.rounds = omega arith in
          let none : more ≡ 0 + more = omega arith in
          let Asks : ℕ → ℕ → Type 0 = λ k n. Adds (g.F.Flusher.asked c.args.flusher.now) (asks_of_rounds 1 k n) (g.F.Flusher.asked end) in
          subst (Asks c.args.rounds) none (subst (λ (k : ℕ). Asks k more) all asked));
    }

pub before-requires : goal.before-requires
before-requires g c = (omega arith, omega (arith, c.loop-made-test.true, c.loop-made.invariant.same))

pub returns-then-not-before : goal.returns-then-not-before
returns-then-not-before g c =
    let at = c.loop-made in
    let one : c.args.rounds - at.made ≡ suc (c.args.rounds - (at.made + 1)) = omega (arith, c.loop-made-test.true) in
    let told : Adds (g.F.Flusher.asked at.flusher) (May (at.made + 1) false ∷ []) (g.F.Flusher.asked c.before-in-loop-made.new.self) = rw c.if-not-before.true at c.before-in-loop-made.ensures.asked in
    record {
      made = at.made + 0;
      ends = omega (arith, c.loop-made-test.true);
      asked = at.invariant.asked 0 c.before-in-loop-made.new.self (rw one told);
    }

pub loop-made-preserved : goal.loop-made-preserved
loop-made-preserved g c =
    let at = c.loop-made in
    let one : c.args.rounds - at.made ≡ suc (c.args.rounds - (at.made + 1)) = omega (arith, c.loop-made-test.true) in
    let may : Adds (g.F.Flusher.asked at.flusher) (May (at.made + 1) true ∷ []) (g.F.Flusher.asked c.before-in-loop-made.new.self) = rw c.if-not-before.false at c.before-in-loop-made.ensures.asked in
    record {
      same = c.after.ensures.same ∙ c.round.ensures.same ∙ c.before-in-loop-made.ensures.same ∙ at.invariant.same;
      asked = λ more end later.
          (let same : at.made + suc more ≡ at.made + 1 + more = omega arith in
          let Whole : ℕ → Type 0 = λ k. Adds (g.F.Flusher.asked c.args.flusher.now) (asks_of_rounds 1 c.args.rounds k) (g.F.Flusher.asked end) in
          subst Whole same (at.invariant.asked (suc more) end (rw one (round_asked (g.F.Flusher.asked at.flusher) (g.F.Flusher.asked c.before-in-loop-made.new.self) (g.F.Flusher.asked c.round.new.self) (g.F.Flusher.asked c.after.new.self) (g.F.Flusher.asked end) (at.made + 1) (c.args.rounds - (at.made + 1)) more may c.round.ensures.asked c.after.ensures.asked later))));
    }

pub returns : goal.returns
returns g c =
    let at = c.loop-made in
    let none : c.args.rounds - at.made ≡ 0 = omega (arith, c.loop-made-test.false) in
    record {
      made = at.made + 0;
      ends = omega (arith, c.loop-made-test.false);
      asked = at.invariant.asked 0 at.flusher (rw none (adds_none (g.F.Flusher.asked at.flusher)));
    }
