use Rattle.std.proofs.Common.{arith, rules, ◌≡◌, ◌∙◌, false, sym, ap, refl}
use Rattle.std.proofs.lemmas.Bool.{and_parts, false≢true}
use Rattle.std.proofs.lemmas.Grind.{common_steps}
use Rattle.shm_pager_core.specs.Pages.{pager_seen}
use Rattle.shm_pager.specs.Mirror.{MirrorView, MirrorSeen, mirror_seen, left_asked}
use Rattle.shm_pager.specs.declared.mirror.Good.{Good}
use Rattle.shm_pager.proofs.Merged.{length-merged, get_or-merged, good-found, merging}
use Rattle.shm_pager.proofs.mirror.MirrorPagerPager.read.Given as given
use Rattle.shm_pager.proofs.mirror.MirrorPagerPager.read.Goals as goal
use Rattle.shm_pager.proofs.mirror.MirrorPagerPager.read.Goals.{After-read_if}

-- what is seen of a mirror
abbrev seen : (g : given.Over) → MirrorView g.row.L.Denot g.row.R.Denot → MirrorSeen
seen g = mirror_seen g.L.Pager.content g.L.Pager.failed g.L.Pager.most g.L.Pager.calls g.R.Pager.content g.R.Pager.failed g.R.Pager.most g.R.Pager.calls

asked : (g : given.Over) (c : After-read_if g) → c.index-good.result.now.left ≡ left_asked c.args.slot (seen g c.args.self.now)
asked g c = ap (λ (m : Good). m.left) (good-found _ _ _ _ (ap (seen g) c.self.view_is) c.index-good.ensures c.requires.there)

unasked : (g : given.Over) (c : After-read_if g) → left_asked c.args.slot (seen g c.args.self.now) ≡ false → pager_seen g.L.Pager.content g.L.Pager.failed g.L.Pager.most g.L.Pager.calls c.read_if.new.pager ≡ (seen g c.args.self.now).left
unasked g c off = ap (pager_seen g.L.Pager.content g.L.Pager.failed g.L.Pager.most g.L.Pager.calls) (c.read_if.ensures.unasked (asked g c ∙ off) ∙ ap (λ (m : MirrorView g.row.L.Denot g.row.R.Denot). m.left) c.self.view_is)

pub returns-then-read_if : goal.returns-then-read_if
returns-then-read_if g c =
    let o = (goal.at.returns-then-read_if g c).After-read_if in
    let served = sym c.read_if.ensures.served ∙ c.if-read_if.true in record {
      content = search rules;
      page = rw (← c.self.view_is) (get_or-merged _ _ _ _ (rw (← c.self.view_is, length-merged) at c.requires.there) ∙ rw (sym (rw (← c.self.view_is) at (asked g o)) ∙ (and_parts _ _ served).0) (c.read_if.ensures.page c.if-read_if.true));
      failed = search rules;
      cause = rw (← asked g o, ← c.self.view_is, served) refl;
      left = λ on. search rules;
      left_unasked = unasked g o;
      right = rw (← asked g o, ← c.self.view_is, served) (λ on. absurd (false≢true (and_parts _ _ on).1));
      right_unasked = λ off. search rules;
      good = search rules;
    }

pub returns-then-read_if-2 : goal.returns-then-read_if-2
returns-then-read_if-2 g c = record {
  content = search rules;
  page = grind (arith, common_steps, merging);
  failed = search rules;
  cause = grind (arith, common_steps);
  left = grind (arith, common_steps);
  left_unasked = unasked g (goal.at.returns-then-read_if-2 g c).After-read_if;
  right = grind (arith, common_steps);
  right_unasked = grind (arith, common_steps);
  good = search rules;
}

pub returns : goal.returns
returns g c = record {
  content = search rules;
  page = search rules;
  failed = search rules;
  cause = grind (arith, common_steps);
  left = grind (arith, common_steps);
  left_unasked = unasked g (goal.at.returns g c).After-read_if;
  right = grind (arith, common_steps);
  right_unasked = λ off. grind (arith, common_steps, merging, off);
  good = search rules;
}
