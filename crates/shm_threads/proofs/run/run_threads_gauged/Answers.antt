use Rattle.shm_threads.proofs.Names.{rules, ◌≡◌, ◌<◌, ◌↔◌, ◌∙◌, Bool, true, false, IsTrue, IsFalse, Some, ap, length, inl, inr, refl, subst, ◌⊎◌, Seat, StartsWith, has_gauge, reading_of, stores, WorldState, tally_of, IsCaughtUp, stored_of}
use Rattle.shm_threads.proofs.Keeping.{published-cell, published-more, starts-trans}
use Rattle.shm_threads.proofs.run.run_threads_gauged.Goals as goal

-- what a publication leaves, stored or not
module _ (w : WorldState) (was now : Seat) where
  caught_up : (stored : Bool) → (IsTrue stored → now ≡ stores was (reading_of (tally_of w))) → (IsFalse stored → now ≡ was)
      → (IsFalse stored ↔ ((length w.events < was.numbers.events) ⊎ (has_gauge w.machine.limits ≡ false))) → IsCaughtUp w now.numbers
  caught_up true new same when = inl (ap (λ (k : Seat). k.numbers) (new refl))
  caught_up false new same when = rw (same refl) (inr (when.0 refl))

pub returns-clause-cell : goal.returns-clause-cell
returns-clause-cell g c = published-cell _ _ _ _ c.publish.ensures.stored c.publish.ensures.ahead ∙ search rules

pub returns-clause-numbers : goal.returns-clause-numbers
returns-clause-numbers g c = caught_up c.in_ok-outcome.outcome.world _ _ _ c.publish.ensures.stored c.publish.ensures.ahead c.publish.ensures.when

pub returns-clause-stored : goal.returns-clause-stored
returns-clause-stored g c =
    let was = c.unwrap-keeper.result in
    let same : c.in_ok-outcome.keeper ≡ Some was = search rules in
    let first : StartsWith was.stored c.args.keeper.stored = subst (λ k. StartsWith (stored_of k) c.args.keeper.stored) same c.in_ok-outcome.ensures.kept.grows in
    let more = published-more was c.publish.new.keeper _ _ c.publish.ensures.stored c.publish.ensures.ahead in
    starts-trans c.publish.new.keeper.stored was.stored c.args.keeper.stored more first
