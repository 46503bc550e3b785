use Rattle.std.proofs.Common.{rules, ◌≡◌, ◌≤◌, List, ◌++◌, ◌∷◌, All, length, refl, arith, ap, ◌∙◌, length-append}
use Rattle.std.proofs.lemmas.List.{length-map, get_or_at, nil_from_length, append-nil}
use Rattle.std.proofs.lemmas.Grind.{common_steps}
use Rattle.shm_base.specs.declared.bounds.TheConstants.{MOST_AREAS}
use Rattle.shm_slots.specs.View.{AreaView, IsAreaSize}
use Rattle.shm_slots.proofs.Changes.{areas-push, flag-push, IsSwap-new}
use Rattle.shm_slots.proofs.swap.Swap.new.Goals as goal

pub loop-pager-preserved : goal.loop-pager-preserved
loop-pager-preserved g c = record {
  made = grind (arith, common_steps, c.in_ok-area.ensures, c.in_ok-push.ensures.items);
  flag = rw (c.in_ok-push.ensures.items, flag-push, ← c.loop-pager.invariant.flag) c.stays_unspent-never_spent.ensures;
  each = λ k. rw c.in_ok-push.ensures.items (areas-push c.loop-pager.areas.items c.in_ok-area.area c.loop-pager.invariant.each c.in_ok-area.ensures.sound k);
  all = grind (arith, common_steps, c.in-Some.ensures.steps);
}

pub invariant_of-result : goal.invariant_of-result
invariant_of-result g c =
    let areas = c.loop-pager.areas.items in
    let made : length areas ≡ length c.loop-pager.yielded = ap (λ (xs : List AreaView). length xs) c.loop-pager.invariant.made ∙ length-map c.loop-pager.yielded _ in
    let few : length areas ≤ MOST_AREAS = omega (arith, made, c.requires.areas, ap length c.loop-pager.invariant.all, length-append c.loop-pager.yielded c.loop-pager.pager-iterator.rest.items) in
    IsSwap-new areas c.loop-pager.never_spent few c.loop-pager.invariant.each c.loop-pager.invariant.flag

pub loop-pager-init : goal.loop-pager-init
loop-pager-init g c = record {
  made = c.in_ok-areas.ensures.items;
  flag = rw c.in_ok-areas.ensures.items refl;
  each = λ k. rw c.in_ok-areas.ensures.items (search rules);
  all = c.into_iter-pager-iterator.ensures.into_iter_gives.0;
}

All_at : {X : Type 0} (P : X → Type 0) (xs ys zs : List X) (x : X) → xs ++ x ∷ ys ≡ zs → All P zs → P x
All_at P xs ys zs x e all = rw (get_or_at xs x ys x (length xs) refl) at ((rw (← e) at all) (length xs) x (omega (arith, length-append xs (x ∷ ys))))

pub new-requires : goal.new-requires
new-requires g c = (All_at (λ p. IsAreaSize (length (g.P.Pager.content p))) c.loop-pager.yielded c.next.new.self.rest.items c.args.pagers.items c.in-Some.pager (rw c.in-Some.ensures.steps.0 at c.loop-pager.invariant.all) c.requires.sizes).1

pub returns : goal.returns
returns g c =
    rw (c.loop-pager.invariant.flag, c.loop-pager.invariant.made, ← c.loop-pager.invariant.all, nil_from_length c.loop-pager.pager-iterator.rest.items (omega (arith, c.in-None.ensures.steps.0)), append-nil) refl
